-- The numbers as they were read; the parts are those that the definition takes.
use mathlib.Core.Path.{◌∙◌}
use mathlib.Core.List.{List}
use Prim.Native.Nat.{ℕ, ◌<◌}
use Rattle.share_format.specs.Facts.{PartInside, PartsInside}
use Rattle.share_judging.specs.Judging.{laid_rows}
use Rattle.share_judging.proofs.judging.laid_outcome.Goals as goal

inside : (bs : List ℕ) (n i : ℕ) → i < 7 → PartsInside bs n → (i < 7) × PartInside bs n i
inside bs n i h p = (h, p i h)

pub part-requires : goal.part-requires
part-requires c = inside _ _ _ c.number.ensures.below c.requires.3

pub part-requires-2 : goal.part-requires-2
part-requires-2 c = inside _ _ _ c.number-2.ensures.below c.requires.3

pub part-requires-3 : goal.part-requires-3
part-requires-3 c = inside _ _ _ c.number-3.ensures.below c.requires.3

pub content_outcome-requires : goal.content_outcome-requires
content_outcome-requires c = rw c.read.ensures (c.requires.1, c.requires.2)

pub returns : goal.returns
unfolding laid_rows
returns c =
    c.content_outcome.ensures
    ∙ rw (
      c.part-3.ensures.bytes,
      c.number-3.ensures.is,
      c.part-2.ensures.bytes,
      c.number-2.ensures.is,
      c.part.ensures.bytes,
      c.number.ensures.is,
      c.read.ensures,
    )
