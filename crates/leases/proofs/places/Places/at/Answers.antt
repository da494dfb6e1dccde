-- A place of a known container lies inside. Assumes nothing.
use mathlib.Core.Path.{sym}
use native.Mathlib.Omega.{arith}
use Rattle.leases.proofs.PlaceLaws.{known_bounds, known_places, place_inside, lease_at}
use Rattle.leases.proofs.places.Places.at.Goals as goal

pub place_at-requires : goal.place_at-requires
place_at-requires c =
    let k = c.args.self.now.known in
    let z = known_bounds _ _ k in
    (omega arith, omega (arith, c.requires, known_places _ _ k))

pub returns-clause-inside : goal.returns-clause-inside
returns-clause-inside c =
    let k = c.args.self.now.known in
    rw c.place_at.ensures (place_inside _ _ k c.args.i (omega (arith, c.requires, known_places _ _ k)))

pub returns-clause-place : goal.returns-clause-place
returns-clause-place c =
    let k = c.args.self.now.known in
    rw c.place_at.ensures (sym (lease_at _ _ k c.args.i (omega (arith, c.requires, known_places _ _ k))))
