-- The invariant: what is kept, what is held back and what the rows left name outside of a up to e are the whole.
-- Assumes nothing.
use Rattle.lists.proofs.TakingLaws.{Taking}
use Rattle.lists.proofs.rows.Rows.take_out.Given as goal

abbrev pub invariant-loop-i : goal.invariant-loop-i
invariant-loop-i l = Taking l.initial.self.bytes l.n l.a l.e l.self l.i l.held
