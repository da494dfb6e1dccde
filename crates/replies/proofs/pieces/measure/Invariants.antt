-- What is left of the table, with what has been measured, is the whole.
use Prim.Native.Nat.{◌-◌}
use Rattle.replies.proofs.PieceLaws.{Measuring}
use Rattle.replies.proofs.pieces.measure.Given as goal

abbrev pub invariant-loop : goal.invariant-loop
invariant-loop l = Measuring l.t l.q l.d l.length l.cursor.at (l.t.count - l.counter)
