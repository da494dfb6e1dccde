-- By the length, then by the first byte, each kind by its own form.
use mathlib.Core.Path.{◌≡◌, sym, ap, ◌∙◌}
use borrow.Author.Tests.{eqb-true}
use Rattle.std.specs.Prelude.{Some}
use Rattle.std.specs.Result.{result_ok}
use Rattle.requests.specs.declared.kinds.Kind.{Kind}
use Rattle.requests.specs.declared.kinds.Kind.TheVariants.{TestWrite, Add, Renew, Cancel, Read}
use Rattle.requests.proofs.FormLaws.{empty_kind, too_long, begins_at, takes_kind, takes_none}
use Rattle.requests.proofs.forms.form_of.Goals as goal

pub returns-then-is_empty : goal.returns-then-is_empty
returns-then-is_empty c = empty_kind _ (eqb-true _ _ (sym c.if-is_empty.ensures))

pub returns-then-q-gt-REQUEST_LIMIT : goal.returns-then-q-gt-REQUEST_LIMIT
returns-then-q-gt-REQUEST_LIMIT c = too_long _ c.if-q-gt-REQUEST_LIMIT.true

pub test_write_form-requires : goal.test_write_form-requires
test_write_form-requires c = (begins_at c.args.q.now c.byte-first.result c.start.ensures c.byte-first.ensures, c.if-q-gt-REQUEST_LIMIT.false)

pub add_form-requires : goal.add_form-requires
add_form-requires c = begins_at c.args.q.now c.byte-first.result c.start.ensures c.byte-first.ensures

pub renew_form-requires : goal.renew_form-requires
renew_form-requires c = begins_at c.args.q.now c.byte-first.result c.start.ensures c.byte-first.ensures

pub cancel_form-requires : goal.cancel_form-requires
cancel_form-requires c = begins_at c.args.q.now c.byte-first.result c.start.ensures c.byte-first.ensures

pub read_form-requires : goal.read_form-requires
read_form-requires c = begins_at c.args.q.now c.byte-first.result c.start.ensures c.byte-first.ensures

pub returns-in_err-ok : goal.returns-in_err-ok
returns-in_err-ok c =
    rw c.from_residual.ensures
    (takes_none c.args.q.now c.byte-first.result c.start.ensures c.byte-first.ensures c.if-q-gt-REQUEST_LIMIT.false c.try_from.result c.try_from.ensures (sym c.ok.ensures.value ∙ c.in_err-ok.was))

pub returns-in-TestWrite : goal.returns-in-TestWrite
returns-in-TestWrite c =
    let kind : result_ok c.try_from.result ≡ Some TestWrite = sym c.ok.ensures.value ∙ c.in_ok-ok.was ∙ ap (λ (k : Kind). Some k) c.in-TestWrite.is in
    takes_kind c.args.q.now c.byte-first.result c.start.ensures c.byte-first.ensures c.if-q-gt-REQUEST_LIMIT.false c.try_from.result c.try_from.ensures TestWrite _ kind c.test_write_form.ensures

pub returns-in-Add : goal.returns-in-Add
returns-in-Add c =
    let kind : result_ok c.try_from.result ≡ Some Add = sym c.ok.ensures.value ∙ c.in_ok-ok.was ∙ ap (λ (k : Kind). Some k) c.in-Add.is in
    takes_kind c.args.q.now c.byte-first.result c.start.ensures c.byte-first.ensures c.if-q-gt-REQUEST_LIMIT.false c.try_from.result c.try_from.ensures Add _ kind c.add_form.ensures

pub returns-in-Renew : goal.returns-in-Renew
returns-in-Renew c =
    let kind : result_ok c.try_from.result ≡ Some Renew = sym c.ok.ensures.value ∙ c.in_ok-ok.was ∙ ap (λ (k : Kind). Some k) c.in-Renew.is in
    takes_kind c.args.q.now c.byte-first.result c.start.ensures c.byte-first.ensures c.if-q-gt-REQUEST_LIMIT.false c.try_from.result c.try_from.ensures Renew _ kind c.renew_form.ensures

pub returns-in-Cancel : goal.returns-in-Cancel
returns-in-Cancel c =
    let kind : result_ok c.try_from.result ≡ Some Cancel = sym c.ok.ensures.value ∙ c.in_ok-ok.was ∙ ap (λ (k : Kind). Some k) c.in-Cancel.is in
    takes_kind c.args.q.now c.byte-first.result c.start.ensures c.byte-first.ensures c.if-q-gt-REQUEST_LIMIT.false c.try_from.result c.try_from.ensures Cancel _ kind c.cancel_form.ensures

pub returns-in_err-read_form-in-Read : goal.returns-in_err-read_form-in-Read
returns-in_err-read_form-in-Read c =
    let kind : result_ok c.try_from.result ≡ Some Read = sym c.ok.ensures.value ∙ c.in_ok-ok.was ∙ ap (λ (k : Kind). Some k) c.in-Read.is in
    rw c.from_residual-in_err-read_form-in-Read.ensures (takes_kind c.args.q.now c.byte-first.result c.start.ensures c.byte-first.ensures c.if-q-gt-REQUEST_LIMIT.false c.try_from.result c.try_from.ensures Read _ kind c.in_err-read_form-in-Read.ensures)

pub returns-in_ok-read_form-in-Read : goal.returns-in_ok-read_form-in-Read
returns-in_ok-read_form-in-Read c =
    let kind : result_ok c.try_from.result ≡ Some Read = sym c.ok.ensures.value ∙ c.in_ok-ok.was ∙ ap (λ (k : Kind). Some k) c.in-Read.is in
    takes_kind c.args.q.now c.byte-first.result c.start.ensures c.byte-first.ensures c.if-q-gt-REQUEST_LIMIT.false c.try_from.result c.try_from.ensures Read _ kind c.in_ok-read_form-in-Read.ensures
