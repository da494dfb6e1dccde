-- A record put at a place. Assumes nothing.
use mathlib.Core.Path.{ap, ◌∙◌}
use Prim.Native.Nat.{ℕ}
use native.Mathlib.Omega.{arith}
use Rattle.std.proofs.Common.{rules}
use Rattle.octets.specs.Moves.{put}
use Rattle.octets.specs.Facts.{Octets}
use Rattle.leases.proofs.PlaceLaws.{known_bounds, place_inside}
use Rattle.leases.proofs.ChangeLaws.{put_place}
use Rattle.leases.proofs.changes.put_record.Goals as goal

pub place_at-p-requires : goal.place_at-p-requires
place_at-p-requires c = let z = known_bounds _ _ c.requires.0 in (omega arith, omega arith)

pub copy_part-requires : goal.copy_part-requires
copy_part-requires c = omega (arith, c.place_at-p.ensures, place_inside _ _ c.requires.0 c.args.i c.requires.1)

pub returns : goal.returns
returns c =
    let a = c.args in
    let o : Octets a.c.now = λ j. search rules in
    c.copy_part.ensures ∙ ap (λ (m : ℕ). put m a.lease.now a.c.now) c.place_at-p.ensures
    ∙ put_place a.c.now a.frame c.requires.0 o a.i a.lease.now c.requires.1 c.requires.2
