-- The container first, then the request.
use mathlib.Core.Path.{subst, ◌∙◌}
use Rattle.format.specs.Judging.{Judges}
use Rattle.rules.proofs.RefusalLaws.{flawed}
use Rattle.container.specs.Looking.{read_of}
use Rattle.container.proofs.looking.read_only.Goals as goal

pub returns-in-Err : goal.returns-in-Err
returns-in-Err c =
    let r = flawed _ c.args.c.now (read_of c.args.q.now) c.args.r.now (subst (Judges _) c.in-Err.is c.judge.ensures) in
    record { value = c.refused.ensures ∙ rw c.into.ensures r.answer; r_after = r.reply }
