-- The rows of the list, followed through the request: written back unless they are too many.
use Rattle.listed_slot.proofs.FollowingLaws.{few_listed}
use Rattle.listed_slot.proofs.following.write_list.Goals as goal

pub load-requires : goal.load-requires
load-requires c = (c.requires.1.1.0, few_listed _ c.requires.1.1.1)
