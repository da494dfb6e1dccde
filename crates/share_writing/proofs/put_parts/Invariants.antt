-- The parts so far are stored.
use lib.ListN.{take}
use Rattle.octets.proofs.MoveLaws.{Stored}
use Rattle.share_writing.specs.Facts.{strings}
use Rattle.share_writing.proofs.put_parts.Given as goal

abbrev pub invariant-loop-part : goal.invariant-loop-part
invariant-loop-part l = Stored l.fn.from l.fn.d (take l.part-index (strings l.parts)) l.at l.d
