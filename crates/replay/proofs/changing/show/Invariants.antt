-- The position stays inside the buffer and rises by one at least with each run.
use Rattle.std.proofs.Common.{◌-◌, ◌≤◌, length}
use Rattle.replay.proofs.changing.show.Given as goal

abbrev pub invariant-loop-at : goal.invariant-loop-at
invariant-loop-at g l = l.at ≤ length l.before

abbrev pub decreases-loop-at : goal.decreases-loop-at
decreases-loop-at g l = length l.before - l.at
