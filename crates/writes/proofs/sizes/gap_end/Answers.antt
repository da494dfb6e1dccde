-- The cases of `gap_end`.
use mathlib.Core.Path.{sym, ◌∙◌}
use native.Mathlib.Omega.{arith}
use borrow.Author.Tests.{lt-ltb, le-ltb}
use Rattle.writes.proofs.GapLaws.{gap_some, gap_none}
use Rattle.writes.proofs.sizes.gap_end.Goals as goal
use Rattle.writes.proofs.sizes.gap_end.Goals.{else-count-gt0-via-then-count-gt0+else-size-position, else-count-gt0-via-else-count-gt0}

pub returns-then-size-position : goal.returns-then-size-position
returns-then-size-position c =
    let a = c.args in
    sym (gap_some a.end a.size a.position a.count (λ e. omega arith)
    ∙ rw (lt-ltb a.size a.position (omega arith)))

pub returns-else-count-gt0 : goal.returns-else-count-gt0
returns-else-count-gt0 c =
    let a = c.args in
    elim c.else-count-gt0.branch [
      | else-count-gt0-via-then-count-gt0+else-size-position w ↦ sym (gap_some a.end a.size a.position a.count (λ e. omega (arith, w.if-count-gt0.true))
          ∙ rw (le-ltb a.size a.position w.if-size-position.false))
      | else-count-gt0-via-else-count-gt0 w ↦ sym (gap_none a.end a.size a.position a.count (omega (arith, w.if-count-gt0.false)))
    ]
