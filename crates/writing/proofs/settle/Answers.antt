-- The verdict decides, and each exit is what the rules make of it.
use mathlib.Core.Path.{ap, ◌∙◌}
use native.Mathlib.Omega.{arith}
use Rattle.std.specs.Prelude.{Ok, Err}
use Rattle.format.proofs.KnownLaws.{known_room, data_lent_lem, lent_small}
use Rattle.writing.proofs.WriteRequestLaws.{Writing, writing, decided, differs, other}
use Rattle.writing.proofs.WriteRequestLaws.{reply_fits, failed, done}
use Rattle.writing.proofs.settle.Goals as goal

pub wrong_enabler-requires : goal.wrong_enabler-requires
wrong_enabler-requires c = omega (arith, known_room c.requires.0)

pub returns-in-WrongEnabler : goal.returns-in-WrongEnabler
returns-in-WrongEnabler c =
    let G : let a = c.args in Writing a.c.now a.q.now a.r.now a.frame a.t a.verdict = writing c.requires in
    let both = differs G (c.in-Err.is ∙ ap Err c.in-WrongEnabler.is) c.wrong_enabler.ensures in
    record { value = both.0; c_after = both.1.0; r_after = both.1.1 }

pub returns-in_default : goal.returns-in_default
returns-in_default c =
    let G : let a = c.args in Writing a.c.now a.q.now a.r.now a.frame a.t a.verdict = writing c.requires in
    let both = other G c.in-Err.is c.in_default.not-WrongEnabler c.numbered.ensures c.number.ensures (omega arith) in
    record { value = both.0; c_after = both.1.0; r_after = both.1.1 }

pub data_end-to-requires : goal.data_end-to-requires
data_end-to-requires c = omega (arith, known_room c.requires.0)

pub slice_bounds-write_reply-end : goal.slice_bounds-write_reply-end
slice_bounds-write_reply-end c = omega (arith, c.data_end-to.ensures, known_room c.requires.0)

pub write_reply-requires : goal.write_reply-requires
write_reply-requires c =
    let G : let a = c.args in Writing a.c.now a.q.now a.r.now a.frame a.t a.verdict = writing c.requires in
    let e = c.data_end-to.ensures in
    (c.requires.1.0.parted.tests, lent_small c.requires.0 e, reply_fits G (data_lent_lem c.requires.0 e) c.in-Ok.is)

pub returns-in-TestFalse : goal.returns-in-TestFalse
returns-in-TestFalse c =
    let G : let a = c.args in Writing a.c.now a.q.now a.r.now a.frame a.t a.verdict = writing c.requires in
    let both = failed G (data_lent_lem c.requires.0 c.data_end-to.ensures) (c.in-Ok.is ∙ ap Ok c.in-TestFalse.is)
    c.test_false.ensures c.write_reply.ensures in
    record { value = both.0; c_after = both.1.0; r_after = both.1.1 }

pub commit-requires : goal.commit-requires
commit-requires c =
    let G : let a = c.args in Writing a.c.now a.q.now a.r.now a.frame a.t a.verdict = writing c.requires in
    decided G (c.in-Ok.is ∙ ap Ok c.in-Accepted.is)

pub returns-in-Accepted : goal.returns-in-Accepted
returns-in-Accepted c =
    let G : let a = c.args in Writing a.c.now a.q.now a.r.now a.frame a.t a.verdict = writing c.requires in
    let both = done G (data_lent_lem c.requires.0 c.data_end-to.ensures) (c.in-Ok.is ∙ ap Ok c.in-Accepted.is)
    c.done.ensures c.commit.ensures c.write_reply.ensures in
    record { value = both.0; c_after = both.1.0; r_after = both.1.1 }
