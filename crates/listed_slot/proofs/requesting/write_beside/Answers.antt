-- The verdict first; where it accepts the rows decide, and nothing else does.
use mathlib.Core.Path.{◌∙◌}
use Rattle.listed_slot.proofs.ServingLaws.{list_storable, many-refused, list_written, refused_served, accepted_zero, refused_some}
use Rattle.listed_slot.proofs.requesting.write_beside.Goals as goal
use Rattle.listed_slot.proofs.requesting.write_beside.Goals.{else-accepted-via-then-accepted+else-not-write_list, else-accepted-via-else-accepted}

pub write_list-requires : goal.write_list-requires
write_list-requires c = list_storable c.args.l.now c.requires.0 c.requires.1.0 c.requires.1.1

pub returns-then-not-write_list : goal.returns-then-not-write_list
returns-then-not-write_list c =
    let a = c.args in
    let p = c.requires in
    let z = accepted_zero a.l.now a.r.now p c.verdict_of-verdict.ensures c.accepted.ensures c.if-accepted.true in
    let both = many-refused a.l.now p.0 p.1.0 p.1.1 a.r.now z c.write_list.ensures.value c.if-not-write_list.true
    c.write_list.ensures.l_after c.refused.ensures in
    record { value = both.0; c_after = both.1.0; l_after = both.1.1.0; r_after = both.1.1.1 }

pub returns : goal.returns
returns c =
    let a = c.args in
    let p = c.requires in
    let s = c.settle.ensures in
    let t = c.verdict_of-verdict.ensures in
    elim c.else-accepted.branch [
      | else-accepted-via-then-accepted+else-not-write_list w ↦
          let z = accepted_zero a.l.now a.r.now p t c.accepted.ensures w.if-accepted.true in
          let both = list_written a.l.now p.0 p.1.0 p.1.1 a.r.now z w.write_list.ensures.value w.if-not-write_list.false
          (w.l-is ∙ w.write_list.ensures.l_after) s.value s.c_after s.r_after in
          record { value = both.0; c_after = both.1.0; l_after = both.1.1.0; r_after = both.1.1.1 }
      | else-accepted-via-else-accepted w ↦
          let z = refused_some a.l.now a.r.now p t c.accepted.ensures w.if-accepted.false in
          let both = refused_served a.c.now a.l.now a.q.now a.r.now p.0.formed p.1.1 z s.value s.c_after s.r_after in
          record { value = both.0; c_after = both.1.0; l_after = w.l-is ∙ both.1.1.0; r_after = both.1.1.1 }
    ]
