use Rattle.share_format.proofs.BoundLaws.{part_is}
use Rattle.share_format.proofs.bounds.part.Goals as goal

-- src/bounds.rt:29:1
pub returns-clause-bytes : goal.returns-clause-bytes
returns-clause-bytes c = part_is c.args.i _ c.args.s.now
