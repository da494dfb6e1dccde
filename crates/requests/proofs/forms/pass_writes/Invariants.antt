-- The invariant: what the first entries of the table give.
use Rattle.requests.proofs.FormLaws.{Adding}
use Rattle.requests.proofs.forms.pass_writes.Given as goal

abbrev pub invariant-loop : goal.invariant-loop
invariant-loop l = Adding l.q l.initial.cursor.at l.counter l.length l.cursor.at
