-- The tree's size, by its hashes.
use mathlib.Core.Path.{sym}
use native.Mathlib.Omega.{arith}
use Rattle.share_contents.proofs.NodeLaws.{depth-within, sixty_two}
use Rattle.share_contents.proofs.ContentLaws.{tree_none, tree_ragged, tree_few, tree_hashes}
use Rattle.share_contents.proofs.contents.full_tree_ok.Goals as goal

pub returns-then-n-eq0 : goal.returns-then-n-eq0
returns-then-n-eq0 c = tree_none _ _ c.if-n-eq0.true

pub returns-then-tree-ne0 : goal.returns-then-tree-ne0
returns-then-tree-ne0 c = sym (tree_ragged _ _ c.if-n-eq0.false c.if-tree-ne0.true)

pub returns-then-hashes-n : goal.returns-then-hashes-n
returns-then-hashes-n c = sym (tree_few _ _ c.if-n-eq0.false c.if-hashes-n.true)

pub tree_over-over-requires : goal.tree_over-over-requires
tree_over-over-requires c = omega (arith, sixty_two)

pub overflow_mul-result : goal.overflow_mul-result
overflow_mul-result c =
    let b = depth-within c.args.n 62 (omega (arith, sixty_two)) in
    omega (arith, b, sixty_two, c.tree_over-over.ensures)

pub overflow_sub-result : goal.overflow_sub-result
overflow_sub-result c =
    let b = depth-within c.args.n 62 (omega (arith, sixty_two)) in
    omega (arith, b, c.tree_over-over.ensures)

pub returns : goal.returns
returns c = rw c.tree_over-over.ensures.1 (tree_hashes _ _ c.if-n-eq0.false c.if-tree-ne0.false)
