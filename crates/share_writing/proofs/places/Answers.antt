-- Each boundary is the one before and a part's size.
use mathlib.Core.Path.{refl, ◌∙◌}
use Prim.Native.Nat.{◌<◌}
use native.Mathlib.Omega.{arith}
use lib.ListN.{length, length-set}
use Rattle.share_format.specs.Bounds.{packed}
use Rattle.share_writing.specs.Facts.{sizes_of}
use Rattle.share_writing.proofs.PartLaws.{count, size_at, sum_upto, placed_last, placed_more, placed_all}
use Rattle.share_writing.proofs.places.Goals as goal

pub loop-i-init : goal.loop-i-init
unfolding packed
loop-i-init c = (refl, refl)

pub overflow_add-bounds : goal.overflow_add-bounds
overflow_add-bounds c =
    let l = c.loop-i in
    let ps = c.args.parts.now in
    let h = c.loop-i-test.true in
    let k : l.i < length (sizes_of ps) = rw count h in
    omega (
      arith,
      placed_last c.args.header (sizes_of ps) l.bounds l.i k l.invariant.0,
      size_at ps l.i h,
      sum_upto (sizes_of ps) l.i k,
      c.requires.1,
    )

pub loop-i-preserved : goal.loop-i-preserved
loop-i-preserved c =
    let l = c.loop-i in
    let ps = c.args.parts.now in
    let h = c.loop-i-test.true in (
      placed_more c.args.header (sizes_of ps) l.bounds l.i (rw count h) l.invariant.0 _ (size_at ps l.i h)
          (omega (arith, h, c.requires.0, l.invariant.1)),
      length-set _ _ _ ∙ l.invariant.1,
    )

pub returns : goal.returns
returns c =
    let l = c.loop-i in
    let ps = c.args.parts.now in
    placed_all c.args.header (sizes_of ps) l.bounds l.i (omega (arith, count ps, c.loop-i-test.false)) (omega (arith, l.invariant.1, c.requires.0, c.loop-i-test.false)) l.invariant.0
