-- What the parts from the first on say is what those that are left say.
use mathlib.Core.Path.{◌≡◌}
use Prim.Native.Nat.{◌+◌}
use lib.ListN.{drop, get_or}
use Rattle.share_format.specs.Bounds.{in_order}
use Rattle.share_format.proofs.bounds.in_order.Given as goal

abbrev pub invariant-loop-i : goal.invariant-loop-i
invariant-loop-i l = (in_order l.least (get_or l.bounds 0 0) (drop 1 l.bounds) ≡ in_order (drop l.i l.least) (get_or l.bounds l.i 0) (drop (l.i + 1) l.bounds))
