-- By the length, then by the first byte.
use mathlib.Core.Path.{sym, ap, ◌∙◌}
use borrow.Author.Tests.{eqb-true}
use Rattle.std.specs.Prelude.{Some}
use Rattle.requests.specs.declared.kinds.Kind.{Kind}
use Rattle.requests.proofs.FormLaws.{empty_kind, too_long, begins_at}
use Rattle.container.proofs.LookingLaws.{broken_other, looks_none, looks_other, looks_read}
use Rattle.container.proofs.looking.table_of.Goals as goal

pub returns-then-is_empty : goal.returns-then-is_empty
returns-then-is_empty c = broken_other _ (empty_kind _ (eqb-true _ _ (sym c.if-is_empty.ensures)))

pub returns-then-q-gt-REQUEST_LIMIT : goal.returns-then-q-gt-REQUEST_LIMIT
returns-then-q-gt-REQUEST_LIMIT c = broken_other _ (too_long _ c.if-q-gt-REQUEST_LIMIT.true)

pub read_form-requires : goal.read_form-requires
read_form-requires c = begins_at c.args.q.now c.byte-first.result c.start.ensures c.byte-first.ensures

pub returns-in_err-ok : goal.returns-in_err-ok
returns-in_err-ok c =
    rw c.from_residual.ensures
    (looks_none c.args.q.now c.byte-first.result c.start.ensures c.byte-first.ensures c.if-q-gt-REQUEST_LIMIT.false
    c.try_from.result c.try_from.ensures (sym c.ok.ensures.value ∙ c.in_err-ok.was))

pub returns-in-Read : goal.returns-in-Read
returns-in-Read c =
    looks_read c.args.q.now c.byte-first.result c.start.ensures c.byte-first.ensures c.if-q-gt-REQUEST_LIMIT.false
    c.try_from.result c.try_from.ensures _
    (sym c.ok.ensures.value ∙ c.in_ok-ok.was ∙ ap (λ (k : Kind). Some k) c.in-Read.is) c.read_form.ensures

pub returns-in_default : goal.returns-in_default
returns-in_default c =
    looks_other c.args.q.now c.byte-first.result c.start.ensures c.byte-first.ensures c.if-q-gt-REQUEST_LIMIT.false
    c.try_from.result c.try_from.ensures _ (sym c.ok.ensures.value ∙ c.in_ok-ok.was) c.in_default.not-Read
