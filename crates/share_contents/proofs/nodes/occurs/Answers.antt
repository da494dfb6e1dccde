-- What the node numbers from the first on say is what those that are left say.
use mathlib.Core.Path.{refl, sym, ◌∙◌}
use native.Mathlib.Omega.{arith}
use Rattle.share_contents.proofs.NodeLaws.{occurs_hit, occurs_miss, occurs_none, next_nodes, all_nodes}
use Rattle.share_contents.proofs.nodes.occurs.Goals as goal

pub loop-i-init : goal.loop-i-init
loop-i-init c = let a = c.args in rw (all_nodes a.n a.p a.s.now) refl

pub returns-then-x-u16_at : goal.returns-then-x-u16_at
returns-then-x-u16_at c =
    let e = c.if-x-u16_at.true ∙ c.u16_at.ensures in
    sym (c.loop-i.invariant ∙ occurs_hit _ _ _ _ (omega arith) e)

pub loop-i-preserved : goal.loop-i-preserved
loop-i-preserved c =
    let a = c.args in
    let i = c.loop-i.i in
    let m = occurs_miss _ _ _ _ (omega arith) (λ e. c.if-x-u16_at.false (e ∙ sym c.u16_at.ensures)) in
    c.loop-i.invariant ∙ m ∙ rw (next_nodes a.n a.p i a.s.now)

pub returns : goal.returns
returns c = sym (c.loop-i.invariant ∙ occurs_none _ _ _ _ (omega arith))
