-- The invariant: what is left of the table makes of the rows so far what the whole table makes of the first rows.
use Prim.Native.Nat.{◌-◌}
use Rattle.requests.specs.Forms.{writes_in}
use Rattle.lists.specs.Tables.{rows_of}
use Rattle.listed_slot.proofs.FollowingLaws.{Following}
use Rattle.listed_slot.proofs.following.follow_writes.Given as goal

abbrev pub invariant-loop : goal.invariant-loop
invariant-loop l =
    Following l.q (writes_in l.fn.t l.q) l.size (rows_of l.initial.rows) (l.end - l.counter) l.cursor.at l.rows l.after
