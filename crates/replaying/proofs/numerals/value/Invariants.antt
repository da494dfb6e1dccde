-- The value of all digits is that of the digits left, behind those passed over.
use Rattle.std.proofs.Common.{◌≡◌, ◌≤◌, drop}
use Rattle.replaying.specs.Numerals.{value_of, value_after}
use Rattle.replaying.proofs.numerals.value.Given as goal

abbrev pub invariant-loop-digit : goal.invariant-loop-digit
invariant-loop-digit l = record {
  bound : l.value ≤ l.most;
  value : value_of l.digits ≡ value_after l.value (drop l.digit-index l.digits);
}
