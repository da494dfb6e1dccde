-- Each fault has a number above 0. Assumes nothing.
use Prim.Native.Nat.{◌<◌}
use native.Mathlib.Omega.{arith}
use Rattle.share_contents.specs.Faults.{number_of}
use Rattle.share_contents.specs.declared.faults.Fault.{Fault}
use Rattle.share_contents.specs.declared.faults.Fault.TheVariants.{Short, Version, Coding, SegmentSize, Offsets}
use Rattle.share_contents.specs.declared.faults.Fault.TheVariants.{HashChain, BlockTree, ShareData, Sequence}

pub number_of-above : (f : Fault) → 0 < number_of f
number_of-above Short = omega arith
number_of-above Version = omega arith
number_of-above Coding = omega arith
number_of-above SegmentSize = omega arith
number_of-above Offsets = omega arith
number_of-above HashChain = omega arith
number_of-above BlockTree = omega arith
number_of-above ShareData = omega arith
number_of-above Sequence = omega arith
