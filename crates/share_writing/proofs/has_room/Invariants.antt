-- What is asked of the space is what the sizes that are left ask of what is left of it.
use mathlib.Core.Path.{◌≡◌}
use Prim.Native.Nat.{◌+◌}
use lib.Dec.{leb}
use lib.ListN.{drop}
use Rattle.octets.specs.Lists.{sum}
use Rattle.share_writing.specs.Facts.{sizes_of}
use Rattle.share_writing.proofs.has_room.Given as goal

abbrev pub invariant-loop-part : goal.invariant-loop-part
invariant-loop-part l = leb (l.header + sum (sizes_of l.parts)) l.space ≡ leb (sum (drop l.part-index (sizes_of l.parts))) l.left
