-- The invariant: what the first entries of the table give.
use Rattle.requests.proofs.FormLaws.{Testing}
use Rattle.requests.proofs.forms.pass_tests.Given as goal

abbrev pub invariant-loop : goal.invariant-loop
invariant-loop l = Testing l.q l.initial.cursor.at l.counter l.good l.length l.cursor.at
