-- The emptied place is a record of zeros; the count then keeps those extras that `trim` leaves. Assumes nothing.
use mathlib.Core.Path.{◌≡◌, ap₂, ◌∙◌}
use Prim.Native.Nat.{ℕ, ◌+◌, ◌-◌}
use native.Mathlib.Omega.{arith}
use Rattle.std.proofs.Common.{rules}
use lib.ListN.{replicate}
use Rattle.octets.specs.Facts.{Octets}
use Rattle.octets.specs.Moves.{put}
use Rattle.format.specs.Layout.{record_size}
use Rattle.format.specs.Parts.{no_lease}
use Rattle.leases.proofs.PlaceLaws.{known_bounds, inside}
use Rattle.leases.proofs.ChangeLaws.{drop_place}
use Rattle.leases.proofs.changes.drop_record.Goals as goal

pub place_at-p-requires : goal.place_at-p-requires
place_at-p-requires c = let z = known_bounds _ _ c.requires.0 in (omega arith, omega arith)

pub overflow_add-p : goal.overflow_add-p
overflow_add-p c =
    let h = inside _ _ c.requires.0 c.args.i c.requires.1 _ c.place_at-p.ensures in omega arith

pub clear_part-requires : goal.clear_part-requires
clear_part-requires c =
    let h = inside _ _ c.requires.0 c.args.i c.requires.1 _ c.place_at-p.ensures in (omega arith, omega arith)

pub drop_tail-requires : goal.drop_tail-requires
drop_tail-requires c =
    let h = inside _ _ c.requires.0 c.args.i c.requires.1 _ c.place_at-p.ensures in
    (omega arith, omega arith, omega arith)

pub returns : goal.returns
unfolding no_lease
returns c =
    let a = c.args in
    let o : Octets a.c.now = λ j. search rules in
    let w : c.place_at-p.result + record_size - c.place_at-p.result ≡ record_size = omega arith in
    let e =
    c.clear_part.ensures
    ∙ ap₂ (λ (i m : ℕ). put i (replicate m 0) a.c.now) c.place_at-p.ensures w in
    c.drop_tail.ensures
    ∙ drop_place a.c.now a.frame c.requires.0 o a.i c.requires.1 c.clear_part.new.d e
