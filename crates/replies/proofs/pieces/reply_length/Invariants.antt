-- What is left of the table, with what has been measured, is the whole.
use Prim.Native.Nat.{◌-◌}
use Rattle.replies.proofs.PieceLaws.{Summing}
use Rattle.replies.proofs.pieces.reply_length.Given as goal

abbrev pub invariant-loop : goal.invariant-loop
invariant-loop l = Summing l.t l.q l.d l.sum l.cursor.at (l.t.count - l.counter)
