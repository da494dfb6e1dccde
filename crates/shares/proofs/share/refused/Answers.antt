-- All boundaries are 0.
use Rattle.shares.proofs.share.refused.Goals as goal

pub returns : goal.returns
returns c = rw c.version.ensures
