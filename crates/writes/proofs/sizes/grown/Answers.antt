-- The two cases of `grow`.
use mathlib.Core.Path.{sym, ◌∙◌}
use native.Mathlib.Omega.{arith}
use Rattle.writes.proofs.TableLaws.{grow-some, grow-none}
use Rattle.writes.proofs.sizes.grown.Goals as goal

pub returns-then-count-eq0 : goal.returns-then-count-eq0
returns-then-count-eq0 c = let a = c.args in sym (grow-none a.size a.position a.count (omega arith))

pub returns : goal.returns
returns c =
    let a = c.args in
    c.max.ensures ∙ sym (grow-some a.size a.position a.count c.if-count-eq0.false)
