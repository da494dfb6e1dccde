-- The length first, then the fields, then the contents: each answer is the one that the tests before it leave.
use mathlib.Core.Path.{◌≡◌, sym, ◌∙◌}
use native.Mathlib.Omega.{arith}
use Rattle.std.specs.Prelude.{None}
use Rattle.format.specs.declared.judging.Flaw.TheVariants.{Malformed}
use Rattle.format.proofs.JudgingLaws.{too_short, too_long, length-true, found_agree, found_disagree}
use Rattle.format.proofs.JudgingLaws.{judge_length, judge_fields, judge_formed, judge_contents}
use Rattle.std.proofs.lemmas.Result.{err_from_is_err_and}
use Rattle.format.proofs.judging.judge.Goals as goal

pub returns-then-c-lt-LEAST : goal.returns-then-c-lt-LEAST
returns-then-c-lt-LEAST c = judge_length _ (too_short _ c.if-c-lt-LEAST.true)

pub returns-then-c-gt-LIMIT : goal.returns-then-c-gt-LIMIT
returns-then-c-gt-LIMIT c = judge_length _ (too_long _ c.if-c-lt-LEAST.false c.if-c-gt-LIMIT.true)

pub find_fields-requires : goal.find_fields-requires
find_fields-requires c = length-true _ c.if-c-lt-LEAST.false c.if-c-gt-LIMIT.false

pub contents_ok-requires : goal.contents_ok-requires
contents_ok-requires c = (found_agree _ _ (sym c.in_ok-frame.ensures.ok_part ∙ c.find_fields.ensures), omega arith)

pub returns-in_err-frame : goal.returns-in_err-frame
returns-in_err-frame c =
    let p = err_from_is_err_and c.from_residual.result c.from_residual.ensures.1 in
    let n : c.find_fields.result ≡ None = c.in_err-frame.ensures.ok_part in
    let m : c.in_err-frame.field-0.0 ≡ Malformed = cc (rw n at c.in_err-frame.ensures.value) in
    rw (p.1, p.2, m)
    (judge_fields _ (length-true _ c.if-c-lt-LEAST.false c.if-c-gt-LIMIT.false)
    (found_disagree _ (sym n ∙ c.find_fields.ensures)))

pub returns-then-not-contents_ok : goal.returns-then-not-contents_ok
returns-then-not-contents_ok c =
    judge_contents _ _ (length-true _ c.if-c-lt-LEAST.false c.if-c-gt-LIMIT.false)
    (sym c.in_ok-frame.ensures.ok_part ∙ c.find_fields.ensures)
    (sym c.contents_ok.ensures ∙ c.if-not-contents_ok.true)

pub returns : goal.returns
returns c =
    judge_formed _ _ (length-true _ c.if-c-lt-LEAST.false c.if-c-gt-LIMIT.false)
    (sym c.in_ok-frame.ensures.ok_part ∙ c.find_fields.ensures)
    (sym c.contents_ok.ensures ∙ c.if-not-contents_ok.false)
