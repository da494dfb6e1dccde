-- The boundaries so far are those of the parts so far.
use mathlib.Core.Path.{◌≡◌}
use Prim.Native.Nat.{◌+◌}
use lib.ListN.{length, take}
use Rattle.share_format.specs.Bounds.{packed}
use Rattle.share_writing.specs.Facts.{sizes_of}
use Rattle.share_writing.proofs.places.Given as goal

abbrev pub invariant-loop-i : goal.invariant-loop-i
invariant-loop-i l =
    (take (l.i + 1) l.bounds ≡ packed l.header (take l.i (sizes_of l.parts))) × (length l.bounds ≡ 8)
