-- A fault of the head is the first that applies; else the body is asked.
use mathlib.Core.Path.{sym, ◌∙◌}
use native.Mathlib.Omega.{arith}
use Rattle.std.proofs.lemmas.Result.{err_from_is_err_and}
use Rattle.share_contents.proofs.FaultLaws.{number_of-above}
use Rattle.share_judging.proofs.JudgingLaws.{outcome-head, outcome_body, head_facts}
use Rattle.share_judging.proofs.judging.outcome.Goals as goal

pub body_outcome-requires : goal.body_outcome-requires
body_outcome-requires c = head_facts _ _ (sym c.in_ok-head_outcome.ensures)

pub returns-in_err-head_outcome : goal.returns-in_err-head_outcome
returns-in_err-head_outcome c =
    let p = err_from_is_err_and c.from_residual.result c.from_residual.ensures.1 in
    let h = rw c.of-edition.ensures at c.in_err-head_outcome.ensures in
    let a = number_of-above c.in_err-head_outcome.field-0.0 in
    rw (p.1, p.2) (h ∙ sym (outcome-head _ (λ z. omega (arith, a, h ∙ z))))

pub returns : goal.returns
returns c =
    let e = c.of-edition.ensures in
    rw e at c.body_outcome.ensures ∙ sym (outcome_body _ (rw e at (sym c.in_ok-head_outcome.ensures)))
