-- As in `occurs`; a turn settles the first of the numbers that are left.
use mathlib.Core.Path.{◌≡◌}
use Prim.Native.Nat.{◌+◌, ◌-◌, ◌*◌}
use Rattle.share_contents.specs.Nodes.{chain_entry_size, nodes_from, nodes_ok}
use Rattle.share_contents.proofs.nodes.nodes_ok.Given as goal

abbrev pub invariant-loop-i : goal.invariant-loop-i
invariant-loop-i l =
    nodes_ok l.top (nodes_from l.n l.p l.s)
    ≡ nodes_ok l.top (nodes_from (l.n - l.i) (l.p + chain_entry_size * l.i) l.s)
