-- The leaves are 2^depth, and the definition has as many steps left as the depth lacks of n.
-- The measure is what the leaves lack of n.
use mathlib.Core.Path.{◌≡◌, refl, sym, ap, ◌∙◌}
use Prim.Native.Nat.{ℕ, ◌*◌, ◌-◌}
use native.Mathlib.Omega.{arith}
use Rattle.share_contents.specs.Nodes.{depth_from, depth, power}
use Rattle.share_contents.proofs.NodeLaws.{power_next, power-above, depth_stop, depth_turn, sixty_two}
use Rattle.share_contents.proofs.nodes.tree_over.Goals as goal

pub loop-leaves-init : goal.loop-leaves-init
unfolding depth power
loop-leaves-init c =
    let n = c.args.n in
    let k : n ≡ n - 0 = omega arith in
    (omega arith, refl, ap (λ (m : ℕ). depth_from m 0 1 n) k)

pub overflow_mul-leaves : goal.overflow_mul-leaves
overflow_mul-leaves c = omega (arith, sixty_two)

pub overflow_add-depth : goal.overflow_add-depth
overflow_add-depth c =
    let l = c.loop-leaves in
    omega (arith, sixty_two, power-above l.depth)

pub loop-leaves-preserved : goal.loop-leaves-preserved
loop-leaves-preserved c =
    let l = c.loop-leaves in
    let i = l.invariant in
    let d = depth_turn l.depth l.leaves _ i.1 c.loop-leaves-test.true in
    (omega arith, ap (λ (n : ℕ). 2 * n) i.1 ∙ sym (power_next l.depth), i.2 ∙ d)

pub returns : goal.returns
returns c =
    let i = c.loop-leaves.invariant in
    let d = i.2 ∙ depth_stop _ _ _ _ c.loop-leaves-test.false in
    (sym d, i.1 ∙ ap power (sym d))
