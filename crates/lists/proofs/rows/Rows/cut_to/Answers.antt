-- No row names anything from the size on. Assumes nothing.
use mathlib.Core.Path.{◌∙◌}
use native.Mathlib.Omega.{arith}
use Rattle.lists.specs.Tables.{rows_of}
use Rattle.lists.proofs.GapLaws.{cut_is}
use Rattle.lists.proofs.rows.Rows.cut_to.Goals as goal

pub returns : goal.returns
returns c =
    let a = c.args in
    c.take_out.ensures ∙ cut_is a.m c.max.result 0 (rows_of a.self.now) a.size c.requires.rises (omega arith)
