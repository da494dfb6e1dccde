-- What the node numbers from the first on say is what those that are left say.
use lib.Dec.{eqb}
use mathlib.Core.Path.{◌≡◌}
use Prim.Native.Nat.{◌+◌, ◌-◌, ◌*◌}
use Rattle.share_contents.specs.Nodes.{chain_entry_size, nodes_from}
use Rattle.octets.specs.Lists.{any_of}
use Rattle.share_contents.proofs.nodes.occurs.Given as goal

abbrev pub invariant-loop-i : goal.invariant-loop-i
invariant-loop-i l =
    any_of (eqb l.x) (nodes_from l.n l.p l.s)
    ≡ any_of (eqb l.x) (nodes_from (l.n - l.i) (l.p + chain_entry_size * l.i) l.s)
