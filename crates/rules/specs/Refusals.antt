-- The outcomes' numbers, for each case of what the code answers (docs/RULES.md, O1 to O16).
use Rattle.std.specs.Prelude.{ℕ, Result, Ok, Err}
use Rattle.format.specs.declared.judging.Flaw.{Flaw}
use Rattle.format.specs.declared.judging.Flaw.TheVariants as flaw
use Rattle.rules.specs.Outcomes.{answer_of, no_node}
use Rattle.rules.specs.declared.Answer.{Answer}
use Rattle.rules.specs.declared.outcomes.Refusal.{Refusal}
use Rattle.rules.specs.declared.outcomes.Refusal.TheVariants.{BadLength, Malformed, BadRequest, BeforeStart, WrongEnabler}
use Rattle.rules.specs.declared.outcomes.Refusal.TheVariants.{ShortReply, NoLease, LeasesFull, NoRoom, AlreadyContainer}
use Rattle.rules.specs.declared.outcomes.Refusal.TheVariants.{TooManyStretches, BadList}

-- The number of each refusal.
abbrev pub number_of : Refusal → ℕ
number_of BadLength = 1
number_of Malformed = 2
number_of BadRequest = 3
number_of BeforeStart = 4
number_of WrongEnabler = 5
number_of ShortReply = 7
number_of NoLease = 9
number_of LeasesFull = 10
number_of NoRoom = 11
number_of AlreadyContainer = 12
number_of TooManyStretches = 13
number_of BadList = 16

-- What refuses a call on a buffer that is no container.
abbrev pub refusal_of : Flaw → Refusal
refusal_of flaw.BadLength = BadLength
refusal_of flaw.Malformed = Malformed

-- The answer to a call that is done, with what it counts, or refused.
abbrev pub answer_from : Result ℕ Refusal → Answer
answer_from (Ok n) = answer_of 0 no_node n
answer_from (Err e) = answer_of (number_of e) no_node 0
