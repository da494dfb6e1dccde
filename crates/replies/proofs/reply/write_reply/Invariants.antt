-- What is left of the table, put into the present reply space, is the whole reply, put into the first.
use Prim.Native.Nat.{◌*◌, ◌-◌}
use Rattle.rules.specs.Testing.{length_size}
use Rattle.replies.proofs.PieceLaws.{Writing}
use Rattle.replies.proofs.reply.write_reply.Given as goal

abbrev pub invariant-loop-i : goal.invariant-loop-i
invariant-loop-i l = Writing l.t l.q l.d l.initial.r l.r (length_size * l.i) l.behind l.cursor.at (l.t.count - l.i)
