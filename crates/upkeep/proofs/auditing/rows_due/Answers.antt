-- Each answer of the judgement, and then of the count, is one of the audit's. Assumes nothing.
use mathlib.Core.Path.{ap, subst, ◌∙◌}
use Rattle.std.proofs.lemmas.Result.{err_from_is_err_and}
use Rattle.format.specs.Judging.{Judges}
use Rattle.format.proofs.JudgingLaws.{judged_formed}
use Rattle.rules.specs.Outcomes.{answer_of, no_node}
use Rattle.upkeep_rules.proofs.AuditLaws.{answer_flawed, answer_narrow, answer-done}
use Rattle.upkeep.proofs.auditing.rows_due.Goals as goal

pub returns-in_err-frame : goal.returns-in_err-frame
returns-in_err-frame c =
    let p = err_from_is_err_and c.from_residual.result c.from_residual.ensures.1 in
    rw (p.1, p.2)
    (answer_flawed c.args.c.now c.args.room _ (subst (Judges _) c.in_err-frame.was c.judge.ensures))

pub returns-then-room-count : goal.returns-then-room-count
returns-then-room-count c =
    let k = judged_formed _ _ (subst (Judges _) c.in_ok-frame.was c.judge.ensures) in
    answer_narrow c.args.c.now c.args.room k.formed (rw (← c.count-count.ensures) c.if-room-count.true)

pub returns : goal.returns
returns c =
    let k = judged_formed _ _ (subst (Judges _) c.in_ok-frame.was c.judge.ensures) in
    ap (answer_of 0 no_node) c.count-count.ensures
    ∙ answer-done c.args.c.now c.args.room k.formed (rw (← c.count-count.ensures) c.if-room-count.false)
