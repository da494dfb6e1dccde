-- The rows after the writes, and after the cut where there is one.
use mathlib.Core.Path.{ap, ◌∙◌}
use Rattle.requests.specs.Forms.{writes_in}
use Rattle.stretches.specs.Stretches.{below}
use Rattle.lists.specs.Tables.{rows_of}
use Rattle.listed_slot.proofs.FollowingLaws.{cut-some}
use Rattle.listed_slot.proofs.following.follow.Goals as goal

pub returns-in-Some : goal.returns-in-Some
returns-in-Some c =
    let a = c.args in
    c.cut_to.ensures ∙ ap (below c.in-Some.length) c.follow_writes-written.ensures.rows_after
    ∙ rw c.in-Some.is (cut-some (writes_in a.t a.q.now) c.in-Some.length a.size (rows_of a.rows.now))
