-- The tests passed hold, so all do where those left do.
use Prim.Native.Nat.{◌-◌}
use Rattle.replies.proofs.PieceLaws.{Holding}
use Rattle.replies.proofs.tests.all_hold.Given as goal

abbrev pub invariant-loop : goal.invariant-loop
invariant-loop l = Holding l.q l.d l.initial.cursor.at l.end l.initial.specimens.at l.cursor.at (l.end - l.counter) l.specimens.at
