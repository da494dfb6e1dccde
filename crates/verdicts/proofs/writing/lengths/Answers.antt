-- The two lengths, each where all offsets resolve.
use mathlib.Core.Path.{sym, ◌∙◌}
use native.Mathlib.Omega.{arith}
use Rattle.format.proofs.KnownLaws.{lent, known_room, lent_small}
use Rattle.verdicts.proofs.VerdictLaws.{Judging, judging, undue_tests, undue_writes, due_found}
use Rattle.verdicts.proofs.writing.lengths.Goals as goal

pub data_end-to-requires : goal.data_end-to-requires
data_end-to-requires c = omega (arith, known_room c.requires.0)

pub slice_bounds-measure-end : goal.slice_bounds-measure-end
slice_bounds-measure-end c = omega (arith, c.data_end-to.ensures, known_room c.requires.0)

pub measure-requires : goal.measure-requires
measure-requires c = (c.requires.1.tests, lent_small c.requires.0 c.data_end-to.ensures)

pub reach-requires : goal.reach-requires
reach-requires c = (c.requires.1, omega (arith, known_room c.requires.0))

pub returns-in_err-reply : goal.returns-in_err-reply
returns-in_err-reply c =
    let J : let a = c.args in Judging a.c.now a.q.now (lent a.c.now c.data_end-to.result) a.frame a.t =
    judging c.requires c.data_end-to.ensures in
    c.from_residual.ensures ∙ sym (undue_tests J 0 (sym c.measure.ensures ∙ c.in_err-reply.was))

pub returns-in_err-reached : goal.returns-in_err-reached
returns-in_err-reached c =
    let J : let a = c.args in Judging a.c.now a.q.now (lent a.c.now c.data_end-to.result) a.frame a.t =
    judging c.requires c.data_end-to.ensures in
    let w = sym c.measure.ensures ∙ c.in_ok-reply.was in
    c.from_residual-in_err-reached.ensures ∙ sym (undue_writes J 0 w (sym c.reach.ensures ∙ c.in_err-reached.was))

pub returns : goal.returns
returns c =
    let J : let a = c.args in Judging a.c.now a.q.now (lent a.c.now c.data_end-to.result) a.frame a.t =
    judging c.requires c.data_end-to.ensures in
    let w = sym c.measure.ensures ∙ c.in_ok-reply.was in
    let x = sym c.reach.ensures ∙ c.in_ok-reached.was in
    sym (due_found J 0 w x _ c.cut_size-size.ensures)
