-- Behind the size a write takes nothing out, inside it leaves no gap. Assumes nothing.
use mathlib.Core.Path.{sym, ◌∙◌}
use native.Mathlib.Omega.{arith}
use Rattle.lists.specs.Tables.{rows_of}
use Rattle.lists.proofs.GapLaws.{written_none, written_behind, written_inside}
use Rattle.lists.proofs.rows.Rows.write_over.Goals as goal

pub returns-then-count-eq0 : goal.returns-then-count-eq0
returns-then-count-eq0 c =
    let a = c.args in
    sym (written_none a.size a.at a.count (rows_of a.self.now) c.if-count-eq0.true)

pub returns-then-size-at : goal.returns-then-size-at
returns-then-size-at c =
    let a = c.args in
    c.add_gap.ensures
    ∙ sym (written_behind a.size a.at a.count (rows_of a.self.now) c.requires.0.rises (omega arith) c.if-size-at.true)

pub returns-else-size-at : goal.returns-else-size-at
returns-else-size-at c =
    let a = c.args in
    c.take_out.ensures
    ∙ sym (written_inside a.size a.at a.count (rows_of a.self.now) (omega arith) c.if-size-at.false)
