-- The rows' numbers, for each case of what the code answers (docs/RULES.md, S21 to S30).
use Rattle.std.specs.Prelude.{ℕ, Result, Ok, Err}
use Rattle.share_contents.specs.declared.faults.Fault.{Fault}
use Rattle.share_contents.specs.declared.faults.Fault.TheVariants.{Short, Version, Coding, SegmentSize, Offsets}
use Rattle.share_contents.specs.declared.faults.Fault.TheVariants.{HashChain, BlockTree, ShareData, Sequence}

-- The number of each fault.
abbrev pub number_of : Fault → ℕ
number_of Short = 21
number_of Version = 22
number_of Coding = 23
number_of SegmentSize = 24
number_of Offsets = 25
number_of HashChain = 26
number_of BlockTree = 27
number_of ShareData = 28
number_of Sequence = 29

-- The outcome: the fault's number, 0 where there is none.
abbrev pub outcome_of : {T : Type 0} → Result T Fault → ℕ
outcome_of (Ok x) = 0
outcome_of (Err f) = number_of f
