-- By the sign of the offset; the code tests, subtracts and casts the number that it has stored, which is the offset
-- itself.
use Rattle.requests.proofs.CursorLaws.{resolved_fits, resolved-above, behind, behind_fits, resolved-behind}
use Rattle.requests.proofs.offsets.resolve.Goals as goal

pub overflow_cast-result : goal.overflow_cast-result
overflow_cast-result c = resolved_fits c.args.offset c.args.size c.ranges.offset c.if-offset-ge0.true

pub returns-then-offset-ge0 : goal.returns-then-offset-ge0
returns-then-offset-ge0 c = resolved-above c.args.offset c.args.size c.ranges.offset c.if-offset-ge0.true

pub overflow_sub-back : goal.overflow_sub-back
overflow_sub-back c = (behind c.args.offset c.args.size c.ranges.offset c.if-offset-ge0.false).fits

pub overflow_cast-back : goal.overflow_cast-back
overflow_cast-back c = behind_fits c.args.offset c.args.size c.ranges.offset c.if-offset-ge0.false

pub returns : goal.returns
returns c = resolved-behind c.args.offset c.args.size c.ranges.offset c.if-offset-ge0.false _ c.checked_sub.ensures
