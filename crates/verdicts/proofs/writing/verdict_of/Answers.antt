-- The rows in turn, on what has been measured.
use mathlib.Core.Path.{◌≡◌, sym, ◌∙◌}
use Prim.Native.Nat.{◌+◌}
use native.Mathlib.Omega.{arith}
use Rattle.std.specs.Prelude.{None}
use Rattle.std.proofs.lemmas.Result.{err_from_is_err_and}
use Rattle.format.specs.Layout.{data_at}
use Rattle.format.proofs.WellFormed.{moved-below}
use Rattle.format.proofs.KnownLaws.{lent, known_room, lent_small}
use Rattle.rules.specs.declared.outcomes.Refusal.TheVariants.{BeforeStart}
use Rattle.verdicts.proofs.VerdictLaws.{Judging, judging, unmeasured, unreached, wrong_enabler, short_reply}
use Rattle.verdicts.proofs.VerdictLaws.{test_false, no_room, accepted, final_small}
use Rattle.verdicts.proofs.writing.verdict_of.Goals as goal

pub data_end-to-requires : goal.data_end-to-requires
data_end-to-requires c = omega (arith, known_room c.requires.0)

pub slice_bounds-d-end : goal.slice_bounds-d-end
slice_bounds-d-end c = omega (arith, c.data_end-to.ensures, known_room c.requires.0)

pub measure-requires : goal.measure-requires
measure-requires c = (c.requires.1.tests, lent_small c.requires.0 c.data_end-to.ensures)

pub returns-in_err-reply : goal.returns-in_err-reply
returns-in_err-reply c =
    let J : let a = c.args in Judging a.c.now a.q.now (lent a.c.now c.data_end-to.result) a.frame a.t =
    judging c.requires c.data_end-to.ensures in
    let p = err_from_is_err_and c.from_residual.result c.from_residual.ensures.1 in
    let n : c.measure.result ≡ None = c.in_err-reply.ensures.ok_part in
    let m : c.in_err-reply.field-0.0 ≡ BeforeStart = cc (rw n at c.in_err-reply.ensures.value) in
    rw (p.1, p.2, m) (unmeasured J c.args.space (sym c.measure.ensures ∙ n))

pub reach-requires : goal.reach-requires
reach-requires c = (c.requires.1, omega (arith, known_room c.requires.0))

pub returns-in_err-reached : goal.returns-in_err-reached
returns-in_err-reached c =
    let J : let a = c.args in Judging a.c.now a.q.now (lent a.c.now c.data_end-to.result) a.frame a.t =
    judging c.requires c.data_end-to.ensures in
    let w = sym c.measure.ensures ∙ c.in_ok-reply.ensures.ok_part in
    let p = err_from_is_err_and c.from_residual-in_err-reached.result c.from_residual-in_err-reached.ensures.1 in
    let n : c.reach.result ≡ None = c.in_err-reached.ensures.ok_part in
    let m : c.in_err-reached.field-0.0 ≡ BeforeStart = cc (rw n at c.in_err-reached.ensures.value) in
    rw (p.1, p.2, m) (unreached J c.args.space w (sym c.reach.ensures ∙ n))

pub enables-requires : goal.enables-requires
enables-requires c = (omega (arith, known_room c.requires.0), c.requires.1.enabler)

pub returns-then-not-enables : goal.returns-then-not-enables
returns-then-not-enables c =
    let J : let a = c.args in Judging a.c.now a.q.now (lent a.c.now c.data_end-to.result) a.frame a.t =
    judging c.requires c.data_end-to.ensures in
    let w = sym c.measure.ensures ∙ c.in_ok-reply.ensures.ok_part in
    let x = sym c.reach.ensures ∙ c.in_ok-reached.ensures.ok_part in
    wrong_enabler J c.args.space w x (sym c.enables.ensures ∙ c.if-not-enables.true)

pub returns-then-space-reply : goal.returns-then-space-reply
returns-then-space-reply c =
    let J : let a = c.args in Judging a.c.now a.q.now (lent a.c.now c.data_end-to.result) a.frame a.t =
    judging c.requires c.data_end-to.ensures in
    let w = sym c.measure.ensures ∙ c.in_ok-reply.ensures.ok_part in
    let x = sym c.reach.ensures ∙ c.in_ok-reached.ensures.ok_part in
    let e = sym c.enables.ensures ∙ c.if-not-enables.false in
    short_reply J c.args.space w x e c.if-space-reply.true

pub returns-then-not-all_hold : goal.returns-then-not-all_hold
returns-then-not-all_hold c =
    let J : let a = c.args in Judging a.c.now a.q.now (lent a.c.now c.data_end-to.result) a.frame a.t =
    judging c.requires c.data_end-to.ensures in
    let w = sym c.measure.ensures ∙ c.in_ok-reply.ensures.ok_part in
    let x = sym c.reach.ensures ∙ c.in_ok-reached.ensures.ok_part in
    let e = sym c.enables.ensures ∙ c.if-not-enables.false in
    test_false J c.args.space w x e c.if-space-reply.false (sym c.all_hold.ensures ∙ c.if-not-all_hold.true)

pub resized-after-requires : goal.resized-after-requires
resized-after-requires c =
    let J : let a = c.args in Judging a.c.now a.q.now (lent a.c.now c.data_end-to.result) a.frame a.t =
    judging c.requires c.data_end-to.ensures in
    let w = sym c.measure.ensures ∙ c.in_ok-reply.ensures.ok_part in
    let x = sym c.reach.ensures ∙ c.in_ok-reached.ensures.ok_part in
    let b = final_small J c.args.space w x _ c.cut_size-size.ensures in
    let k = known_room c.requires.0 in
    omega (arith, c.requires.1.short)

pub used-requires : goal.used-requires
used-requires c =
    let J : let a = c.args in Judging a.c.now a.q.now (lent a.c.now c.data_end-to.result) a.frame a.t =
    judging c.requires c.data_end-to.ensures in
    let w = sym c.measure.ensures ∙ c.in_ok-reply.ensures.ok_part in
    let x = sym c.reach.ensures ∙ c.in_ok-reached.ensures.ok_part in
    let b = final_small J c.args.space w x _ c.cut_size-size.ensures in
    let k = known_room c.requires.0 in
    rw c.resized-after.ensures (
      moved-below _ _ (data_at + 4294967296) (omega arith) (omega (arith, c.requires.1.short)),
      omega arith,
    )

pub returns-then-c-used : goal.returns-then-c-used
returns-then-c-used c =
    let J : let a = c.args in Judging a.c.now a.q.now (lent a.c.now c.data_end-to.result) a.frame a.t =
    judging c.requires c.data_end-to.ensures in
    let w = sym c.measure.ensures ∙ c.in_ok-reply.ensures.ok_part in
    let x = sym c.reach.ensures ∙ c.in_ok-reached.ensures.ok_part in
    let e = sym c.enables.ensures ∙ c.if-not-enables.false in
    let h = sym c.all_hold.ensures ∙ c.if-not-all_hold.false in
    no_room J c.args.space w x e c.if-space-reply.false h _ c.cut_size-size.ensures
    (rw (c.used.ensures, c.resized-after.ensures) at c.if-c-used.true)

pub returns : goal.returns
returns c =
    let J : let a = c.args in Judging a.c.now a.q.now (lent a.c.now c.data_end-to.result) a.frame a.t =
    judging c.requires c.data_end-to.ensures in
    let w = sym c.measure.ensures ∙ c.in_ok-reply.ensures.ok_part in
    let x = sym c.reach.ensures ∙ c.in_ok-reached.ensures.ok_part in
    let e = sym c.enables.ensures ∙ c.if-not-enables.false in
    let h = sym c.all_hold.ensures ∙ c.if-not-all_hold.false in
    accepted J c.args.space w x e c.if-space-reply.false h _ c.cut_size-size.ensures
    (rw (c.used.ensures, c.resized-after.ensures) at c.if-c-used.false)
