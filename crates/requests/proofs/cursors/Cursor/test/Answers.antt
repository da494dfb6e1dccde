-- The entry, two bytes and a number behind it.
use Rattle.rules.specs.Requests.{entry_opcode, entry_specimen}
use Rattle.requests.proofs.cursors.Cursor.test.Goals as goal

pub returns : goal.returns
unfolding entry_opcode entry_specimen
returns c = rw (c.entry-entry.ensures, c.u16_at.ensures)
