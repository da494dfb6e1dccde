-- The leaves are 2^depth, and the definition has as many steps left as the depth lacks of n.
-- The measure is what the leaves lack of n.
use mathlib.Core.Path.{◌≡◌}
use Prim.Native.Nat.{◌≤◌, ◌-◌}
use Rattle.share_contents.specs.Nodes.{depth_from, depth, power}
use Rattle.share_contents.proofs.nodes.tree_over.Given as goal

abbrev pub invariant-loop-leaves : goal.invariant-loop-leaves
invariant-loop-leaves l = (1 ≤ l.leaves) × (l.leaves ≡ power l.depth) × (depth l.n ≡ depth_from (l.n - l.depth) l.depth l.leaves l.n)

abbrev pub decreases-loop-leaves : goal.decreases-loop-leaves
decreases-loop-leaves l = l.n - l.leaves
