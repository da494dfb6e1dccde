-- None without data.
use Rattle.share_numbers.proofs.CodingLaws.{some_segment}
use mathlib.Core.Path.{sym, ◌∙◌}
use Rattle.share_contents.proofs.ContentLaws.{rounded-ceil}
use borrow.Author.Tests.{eq-eqb, ne_eqb}
use Rattle.share_contents.specs.Contents.{segments}
use Rattle.share_contents.proofs.contents.segments.Goals as goal

pub div_ceil-requires : goal.div_ceil-requires
div_ceil-requires c =
    let a = c.args in
    some_segment a.segment a.data_length c.requires c.if-data_length-eq0.false

pub returns-then-data_length-eq0 : goal.returns-then-data_length-eq0
unfolding segments
returns-then-data_length-eq0 c = rw (eq-eqb _ _ c.if-data_length-eq0.true)

pub returns-else-data_length-eq0 : goal.returns-else-data_length-eq0
unfolding segments
returns-else-data_length-eq0 c = c.div_ceil.ensures ∙ sym (rounded-ceil _ _ (some_segment _ _ c.requires c.if-data_length-eq0.false)) ∙ rw (ne_eqb _ _ c.if-data_length-eq0.false)
