-- The value of all digits is that of the digits left, behind those passed over; it only grows.
use Rattle.std.proofs.Common.{◌≡◌, refl, sym, ◌∙◌, ap, ℕ, ◌+◌, ◌*◌, arith, drop}
use Rattle.replaying.specs.Numerals.{value_of, value_after}
use Rattle.replaying.proofs.TextLaws.{value_more, value_end, value_grows, within_value, within_none}
use Rattle.replaying.proofs.numerals.value.Goals as goal
use Rattle.replaying.proofs.numerals.value.Goals.{After-from}

-- The value with one digit more.
valued : (c : After-from) → value_of c.args.digits.now
    ≡ value_after (c.loop-digit.value * 10 + c.from.result) (drop (c.loop-digit.digit-index + 1) c.args.digits.now)
valued c =
    c.loop-digit.invariant.value ∙ value_more _ _ _ c.loop-digit-test.true
    ∙ ap (λ (x : ℕ). value_after (c.loop-digit.value * 10 + x) (drop (c.loop-digit.digit-index + 1) c.args.digits.now))
    (sym (c.from.ensures ∙ c.saturating_sub.ensures))

pub loop-digit-init : goal.loop-digit-init
unfolding value_of
loop-digit-init c = record { bound = omega arith; value = refl }

pub loop-digit-preserved : goal.loop-digit-preserved
loop-digit-preserved c = record { bound = omega arith; value = valued (goal.at.loop-digit-preserved c).After-from }

pub returns-then-value-from-clause-answer : goal.returns-then-value-from-clause-answer
returns-then-value-from-clause-answer c =
    within_none c.args.digits.now c.args.most (rw (valued (goal.at.returns-then-value-from-clause-answer c).After-from)
    (omega (
      arith,
      value_grows (c.loop-digit.value * 10 + c.from.result)
          (drop (c.loop-digit.digit-index + 1) c.args.digits.now),
    )))

pub returns-clause-answer : goal.returns-clause-answer
returns-clause-answer c =
    within_value c.args.digits.now c.args.most c.loop-digit.value
    (sym (c.loop-digit.invariant.value ∙ value_end _ _ _ c.loop-digit-test.false)) c.loop-digit.invariant.bound
