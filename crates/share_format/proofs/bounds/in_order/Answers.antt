-- What the parts from the first on say is what those that are left say.
use mathlib.Core.Path.{sym, ◌∙◌}
use native.Mathlib.Omega.{arith}
use Rattle.share_format.proofs.BoundLaws.{order_more, order_less, order-end}
use Rattle.share_format.proofs.bounds.in_order.Goals as goal

pub returns-then-b-a : goal.returns-then-b-a
returns-then-b-a c =
    let a = c.args in
    sym
    (c.loop-i.invariant
    ∙ order_less a.least.now a.bounds.now c.loop-i.i (omega arith) (omega arith) (omega arith))

pub returns-then-b-a-2 : goal.returns-then-b-a-2
returns-then-b-a-2 c =
    let a = c.args in
    sym
    (c.loop-i.invariant
    ∙ order_less a.least.now a.bounds.now c.loop-i.i (omega arith) (omega arith) (omega arith))

pub loop-i-preserved : goal.loop-i-preserved
loop-i-preserved c =
    let a = c.args in
    c.loop-i.invariant
    ∙ order_more a.least.now a.bounds.now c.loop-i.i (omega arith) (omega arith) (omega arith)

pub returns : goal.returns
returns c =
    let l = c.loop-i in
    sym (l.invariant ∙ order-end _ _ l.i _ (omega arith) (omega arith))
