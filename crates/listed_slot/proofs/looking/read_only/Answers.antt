-- The container first, then the list and the request.
use mathlib.Core.Path.{ap, subst, ◌∙◌}
use Rattle.rules.specs.Outcomes.{answer_of, no_node}
use Rattle.rules.specs.Refusals.{number_of}
use Rattle.rules.specs.declared.outcomes.Refusal.{Refusal}
use Rattle.format.specs.Judging.{Judges}
use Rattle.format.proofs.JudgingLaws.{judged_formed}
use Rattle.container.specs.Looking.{read_of}
use Rattle.listed_slot.proofs.ServingLaws.{flawed_served}
use Rattle.listed_slot.proofs.looking.read_only.Goals as goal

pub read_judged-requires : goal.read_judged-requires
read_judged-requires c = judged_formed _ _ (subst (Judges _) c.in-Ok.is c.judge.ensures)

pub returns-in-Err : goal.returns-in-Err
returns-in-Err c =
    let a = c.args in
    let j = subst (Judges _) c.in-Err.is c.judge.ensures in
    let both = flawed_served a.c.now a.l.now (read_of a.q.now) a.r.now _ j (c.refused.ensures ∙ ap (λ (e : Refusal). answer_of (number_of e) no_node 0) c.from.ensures) in
    record { value = both.0; r_after = both.1.1.1 }
