-- What is left of the line, put into the buffer as it is now, is the whole line put into the first buffer.
use Rattle.std.proofs.Common.{ℕ, ◌-◌, length}
use Rattle.replaying.proofs.ItemLaws.{Putting}
use Rattle.replaying.proofs.items.put_items.Given as goal

abbrev pub invariant-loop-next : goal.invariant-loop-next
invariant-loop-next l = (left : ℕ) × Putting l.s l.at l.initial.d l.k l.place l.end l.d left

abbrev pub decreases-loop-next : goal.decreases-loop-next
decreases-loop-next l = length l.s - l.place
