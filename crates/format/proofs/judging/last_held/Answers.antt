-- The last of n records stands 92 * (n - 1) after the first, and its first four bytes are its owner.
use mathlib.Core.Path.{sym}
use Rattle.format.proofs.JudgingLaws.{last_none, last_some}
use Rattle.format.proofs.judging.last_held.Goals as goal

pub returns-then-n-eq0 : goal.returns-then-n-eq0
returns-then-n-eq0 c = sym (last_none _ _ _ c.if-n-eq0.true)

pub returns : goal.returns
returns c =
    let a = c.args in
    rw (last_some a.n a.from a.c.now c.if-n-eq0.false, c.u32_at.ensures)
