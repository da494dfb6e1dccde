-- The owner of a place is the number in its first four bytes. Assumes nothing.
use Rattle.format.proofs.JudgingLaws.{held_at}
use Rattle.leases.proofs.places.is_held.Goals as goal

pub returns : goal.returns
returns c = let a = c.args in rw (held_at a.p a.c.now, c.u32_at.ensures)
