-- Digits below 16 are those of the definition.
use Rattle.replaying.proofs.TextLaws.{hex_is}
use Rattle.replaying.proofs.numerals.hex_digit.Goals as goal

pub returns-clause-value : goal.returns-clause-value
returns-clause-value c = hex_is c.args.b c.to_digit.result (rw c.from.ensures at c.to_digit.ensures.value)
