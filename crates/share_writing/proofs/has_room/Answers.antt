-- What is asked of the space is what the sizes that are left ask of what is left of it.
use mathlib.Core.Path.{sym, ◌∙◌}
use Rattle.share_writing.proofs.RoomLaws.{room_start, room_none, room_more, room_short, room_end}
use Rattle.share_writing.proofs.has_room.Goals as goal

pub returns-then-space-header : goal.returns-then-space-header
returns-then-space-header c = sym (room_none _ _ _ c.if-space-header.true)

pub loop-part-init : goal.loop-part-init
loop-part-init c = room_start _ _ _ c.if-space-header.false

pub returns-then-left-n : goal.returns-then-left-n
returns-then-left-n c = sym (c.loop-part.invariant ∙ room_short _ _ _ c.loop-part-test.true c.if-left-n.true)

pub loop-part-preserved : goal.loop-part-preserved
loop-part-preserved c = c.loop-part.invariant ∙ room_more _ _ _ c.loop-part-test.true c.if-left-n.false

pub returns : goal.returns
returns c = sym (c.loop-part.invariant ∙ room_end _ _ _ c.loop-part-test.false)
