-- The container first, then the request.
use mathlib.Core.Path.{subst, ◌∙◌}
use Rattle.format.specs.Judging.{Judges}
use Rattle.rules.proofs.RefusalLaws.{flawed}
use Rattle.container.proofs.requesting.apply.Goals as goal

pub returns-in-Err : goal.returns-in-Err
returns-in-Err c =
    let r = flawed _ c.args.c.now c.args.q.now c.args.r.now (subst (Judges _) c.in-Err.is c.judge.ensures) in
    record { value = c.refused.ensures ∙ rw c.into.ensures r.answer; c_after = r.container; r_after = r.reply }
