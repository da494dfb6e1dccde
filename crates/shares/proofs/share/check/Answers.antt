-- A bare share begins at byte 0.
use Rattle.shares.specs.Share.{checked_of}
use Rattle.shares.proofs.share.check.Goals as goal

pub returns : goal.returns
unfolding checked_of
returns c = c.checked_at.ensures
