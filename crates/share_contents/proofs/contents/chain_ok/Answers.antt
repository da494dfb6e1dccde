-- The size of the chain and its node numbers, at the depth that the tree over the shares has.
use native.Mathlib.Omega.{arith}
use Prim.Native.Nat.{◌≤◌}
use borrow.Author.Tests.{eq-eqb, ne_eqb}
use Rattle.share_contents.specs.Contents.{chain_ok}
use Rattle.share_contents.proofs.NodeLaws.{depth-within, eight, sixty_two}
use Rattle.share_contents.proofs.contents.chain_ok.Goals as goal

pub tree_over-over-requires : goal.tree_over-over-requires
tree_over-over-requires c = omega (arith, sixty_two)

pub overflow_mul-over : goal.overflow_mul-over
overflow_mul-over c =
    let small : (c.tree_over-over.result.depth ≤ 8)
    × (1 ≤ c.tree_over-over.result.leaves)
    × (c.tree_over-over.result.leaves ≤ 256) =
    let b = depth-within c.args.total 8 (omega (arith, eight)) in
    let e = c.tree_over-over.ensures in
    (omega arith, omega arith, omega (arith, eight)) in
    let h = small in omega arith

pub returns-then-chain-over : goal.returns-then-chain-over
unfolding chain_ok
returns-then-chain-over c = rw (← c.tree_over-over.ensures.0, ne_eqb _ _ c.if-chain-over.true)

pub overflow_mul-over-2 : goal.overflow_mul-over-2
overflow_mul-over-2 c =
    let small : (c.tree_over-over.result.depth ≤ 8)
    × (1 ≤ c.tree_over-over.result.leaves)
    × (c.tree_over-over.result.leaves ≤ 256) =
    let b = depth-within c.args.total 8 (omega (arith, eight)) in
    let e = c.tree_over-over.ensures in
    (omega arith, omega arith, omega (arith, eight)) in
    let h = small in omega arith

pub overflow_sub-over : goal.overflow_sub-over
overflow_sub-over c =
    let small : (c.tree_over-over.result.depth ≤ 8)
    × (1 ≤ c.tree_over-over.result.leaves)
    × (c.tree_over-over.result.leaves ≤ 256) =
    let b = depth-within c.args.total 8 (omega (arith, eight)) in
    let e = c.tree_over-over.ensures in
    (omega arith, omega arith, omega (arith, eight)) in
    let h = small in omega arith

pub returns : goal.returns
unfolding chain_ok
returns c = rw (← c.tree_over-over.ensures.1, ← c.tree_over-over.ensures.0, eq-eqb _ _ c.if-chain-over.false) c.nodes_ok.ensures
