-- The leases of the four places and of the extras are all. Assumes nothing.
use native.Mathlib.Omega.{arith}
use Rattle.format.specs.Layout.{fixed_places, leases_at}
use Rattle.leases.proofs.PlaceLaws.{known_bounds, present_few, present_leases}
use Rattle.leases.proofs.places.Places.count.Goals as goal

pub returns : goal.returns
returns c =
    rw (c.count_held.ensures, c.count_held-2.ensures, c.extras_at.ensures)
    (present_leases c.args.self.now.c.now _ c.args.self.now.known)

pub count_held-requires : goal.count_held-requires
count_held-requires c = let z = known_bounds _ _ c.args.self.now.known in (omega arith, omega arith)

pub extras_at-requires : goal.extras_at-requires
extras_at-requires c = let z = known_bounds _ _ c.args.self.now.known in omega arith

pub count_held-requires-2 : goal.count_held-requires-2
count_held-requires-2 c =
    let z = known_bounds _ _ c.args.self.now.known in
    (omega (arith, c.extras_at.ensures), omega arith)

pub overflow_add-result : goal.overflow_add-result
overflow_add-result c =
    let a = c.args in
    let z = known_bounds _ _ a.self.now.known in
    omega (
      arith,
      c.count_held.ensures,
      c.count_held-2.ensures,
      present_few fixed_places leases_at a.self.now.c.now,
      present_few a.self.now.frame.extras c.extras_at.result a.self.now.c.now,
    )
