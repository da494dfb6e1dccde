-- The invariant: what is left, swept into the present bytes, is the whole, swept into the first. Assumes nothing.
use Rattle.upkeep.proofs.SweepLaws.{Sweeping}
use Rattle.upkeep.proofs.sweeping.sweep_places.Given as goal

abbrev pub invariant-loop-i : goal.invariant-loop-i
invariant-loop-i l = Sweeping l.time l.from l.n l.initial.c l.i l.count l.c
