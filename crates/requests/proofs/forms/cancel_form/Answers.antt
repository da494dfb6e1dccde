-- By the length.
use Rattle.requests.proofs.FormLaws.{cancel-length, cancel_taken}
use Rattle.requests.proofs.forms.cancel_form.Goals as goal

pub returns-then-q : goal.returns-then-q
returns-then-q c = cancel-length _ c.if-q.true

pub returns : goal.returns
returns c = cancel_taken _ _ c.if-q.false c.requires
