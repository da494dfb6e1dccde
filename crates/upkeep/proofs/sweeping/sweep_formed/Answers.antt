-- The four places, then the extras, which the first sweep left alone; then the count. Assumes nothing.
use mathlib.Core.Path.{◌∙◌}
use Prim.Native.Nat.{◌+◌}
use native.Mathlib.Omega.{arith}
use Rattle.std.proofs.Common.{rules}
use Rattle.octets.specs.Facts.{Octets}
use Rattle.leases.proofs.PlaceLaws.{known_bounds}
use Rattle.upkeep.proofs.SweepLaws.{AllSwept, all_swept}
use Rattle.upkeep.proofs.sweeping.sweep_formed.Goals as goal

pub sweep_places-first-requires : goal.sweep_places-first-requires
sweep_places-first-requires c = let z = known_bounds _ _ c.requires in (omega arith, omega arith)

pub extras_at-requires : goal.extras_at-requires
extras_at-requires c =
    let z = known_bounds _ _ c.requires in
    omega arith

pub sweep_places-more-requires : goal.sweep_places-more-requires
sweep_places-more-requires c =
    let z = known_bounds _ _ c.requires in
    (omega (arith, c.extras_at.ensures), omega arith)

pub drop_tail-requires : goal.drop_tail-requires
drop_tail-requires c =
    let z = known_bounds _ _ c.requires in
    (omega arith, omega arith, omega arith)

pub overflow_add-result : goal.overflow_add-result
overflow_add-result c =
    let left : let a = c.args in
    AllSwept a.time a.c.now a.frame (c.sweep_places-first.result + c.sweep_places-more.result)
    c.sweep_places-more.new.c =
    let a = c.args in
    let o : Octets a.c.now = λ j. search rules in
    all_swept a.c.now a.frame c.requires o a.time _ _ _ _ _ (c.sweep_places-first.ensures.value, c.sweep_places-first.ensures.c_after)
    c.extras_at.ensures (c.sweep_places-more.ensures.value, c.sweep_places-more.ensures.c_after) in
    let b = left in omega arith

pub returns : goal.returns
returns c =
    let left : let a = c.args in
    AllSwept a.time a.c.now a.frame (c.sweep_places-first.result + c.sweep_places-more.result)
    c.sweep_places-more.new.c =
    let a = c.args in
    let o : Octets a.c.now = λ j. search rules in
    all_swept a.c.now a.frame c.requires o a.time _ _ _ _ _ (c.sweep_places-first.ensures.value, c.sweep_places-first.ensures.c_after)
    c.extras_at.ensures (c.sweep_places-more.ensures.value, c.sweep_places-more.ensures.c_after) in
    let b = left in
    record {
      value = b.counts;
      c_after = c.drop_tail.ensures ∙ b.leaves;
    }
