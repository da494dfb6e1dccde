-- As in `occurs`; a turn settles the first of the numbers that are left.
use mathlib.Core.Path.{refl, sym, ◌∙◌}
use native.Mathlib.Omega.{arith}
use Rattle.share_contents.proofs.NodeLaws.{nodes-high, nodes_again, nodes_more, nodes-end, next_nodes, all_nodes}
use Rattle.share_contents.proofs.nodes.nodes_ok.Goals as goal

pub loop-i-init : goal.loop-i-init
loop-i-init c = let a = c.args in rw (all_nodes a.n a.p a.s.now) refl

pub returns-then-top-x : goal.returns-then-top-x
returns-then-top-x c =
    sym (c.loop-i.invariant ∙ nodes-high _ _ _ _ _ (omega arith) c.u16_at-x.ensures c.if-top-x.true)

pub returns-then-again : goal.returns-then-again
returns-then-again c =
    let o = sym c.occurs-again.ensures ∙ c.if-again.true in
    let b = c.if-top-x.false in
    sym (c.loop-i.invariant ∙ nodes_again _ _ _ _ _ (omega arith) c.u16_at-x.ensures b o)

pub loop-i-preserved : goal.loop-i-preserved
loop-i-preserved c =
    let a = c.args in
    let o = sym c.occurs-again.ensures ∙ c.if-again.false in
    let b = c.if-top-x.false in
    let m = nodes_more _ _ _ _ _ (omega arith) c.u16_at-x.ensures b o in
    c.loop-i.invariant ∙ m ∙ rw (next_nodes a.n a.p c.loop-i.i a.s.now)

pub returns : goal.returns
returns c = sym (c.loop-i.invariant ∙ nodes-end _ _ _ _ (omega arith))
