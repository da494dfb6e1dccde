-- The invariant: the rows from `at` on are those from i on, so a lease is left, and `at` is a place. Assumes nothing.
use Prim.Native.Nat.{◌+◌, ◌-◌}
use Rattle.format.specs.Layout.{fixed_places}
use Rattle.upkeep.proofs.AuditLaws.{Reached}
use Rattle.upkeep.proofs.auditing.next_lease.Given as goal

abbrev pub invariant-loop-at : goal.invariant-loop-at
invariant-loop-at l = Reached l.c l.frame l.i l.at

abbrev pub decreases-loop-at : goal.decreases-loop-at
decreases-loop-at l = fixed_places + l.frame.extras - l.at
