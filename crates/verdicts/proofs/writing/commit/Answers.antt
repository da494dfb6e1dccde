-- What is accepted has room.
use Rattle.verdicts.proofs.VerdictLaws.{room}
use Rattle.verdicts.proofs.writing.commit.Goals as goal

pub rewrite-requires : goal.rewrite-requires
rewrite-requires c = (c.requires.known, c.requires.parted, room c.requires)
