-- The digits are those of the run.
use Rattle.std.proofs.Common.{sym, ◌∙◌, ◌-◌, ◌<◌, length, take, drop, length-take, length-drop, arith}
use Rattle.replaying.specs.Numerals.{decimal_at, decimal_to}
use Rattle.replaying.proofs.TextLaws.{decimal_none, decimal_large, decimal_value}
use Rattle.replaying.proofs.numerals.decimal_at.Goals as goal
use Rattle.replaying.proofs.numerals.decimal_at.Goals.{After-value}

-- There is a digit.
some : (c : After-value) → 0 < length (take (c.run_end-end.result - c.args.at) (drop c.args.at c.args.s.now))
some c = simp (length-take, length-drop) (omega arith)

pub returns-then-end-at-clause-answer : goal.returns-then-end-at-clause-answer
unfolding decimal_at decimal_to
returns-then-end-at-clause-answer c =
    rw (← c.run_end-end.ensures.end)
    (sym (decimal_none _ _ _ (simp (length-take, length-drop) (omega arith))))

pub returns-in-Some-clause-answer : goal.returns-in-Some-clause-answer
unfolding decimal_at decimal_to
returns-in-Some-clause-answer c =
    rw (← c.run_end-end.ensures.end)
    (sym (decimal_value _ _ _ (some (goal.at.returns-in-Some-clause-answer c).After-value) c.in-Some.value
    (sym c.value.ensures.answer ∙ c.in-Some.is)))

pub returns-in-None-clause-answer : goal.returns-in-None-clause-answer
unfolding decimal_at decimal_to
returns-in-None-clause-answer c =
    rw (← c.run_end-end.ensures.end)
    (sym (decimal_large _ _ _ (some (goal.at.returns-in-None-clause-answer c).After-value)
    (sym c.value.ensures.answer ∙ c.in-None.is)))
