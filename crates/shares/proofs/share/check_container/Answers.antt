-- The container's own number comes first; on 0 what it lends is the share.
use mathlib.Core.Bool.{false}
use mathlib.Core.Path.{refl, ap, subst, ◌∙◌, ◌≡◌}
use Prim.Native.Nat.{ℕ}
use native.Mathlib.Omega.{arith}
use Rattle.container.specs.Data.{lent_as, lent_of}
use Rattle.container.proofs.DataLaws.{lent-inside}
use Rattle.format.specs.Judging.{flaw_number}
use Rattle.format.specs.declared.judging.Flaw.{Flaw}
use Rattle.format.specs.declared.judging.Flaw.TheVariants.{BadLength, Malformed}
use Rattle.rules.specs.Refusals.{number_of, refusal_of}
use Rattle.shares.specs.Share.{refused}
use Rattle.shares.proofs.ShareLaws.{lent-refused, lent_checked}
use Rattle.shares.proofs.share.check_container.Goals as goal

-- A flaw's number is that of its refusal, and none is 0.
flaw_named : (e : Flaw) → number_of (refusal_of e) ≡ flaw_number e
flaw_named BadLength = refl
flaw_named Malformed = refl

flaw-above : (e : Flaw) → flaw_number e ≡ 0 → ⊥
flaw-above BadLength h = omega arith
flaw-above Malformed h = omega arith

pub slice_bounds-checked_at-count : goal.slice_bounds-checked_at-count
slice_bounds-checked_at-count c =
    let e = subst (λ o. lent_as o ≡ lent_of c.args.c.now) c.in-Ok.is c.find_data.ensures in
    (lent-inside _ _ e).0

pub slice_bounds-checked_at-start : goal.slice_bounds-checked_at-start
slice_bounds-checked_at-start c =
    let e = subst (λ o. lent_as o ≡ lent_of c.args.c.now) c.in-Ok.is c.find_data.ensures in
    let h = lent-inside _ _ e in
    omega arith

pub slice_bounds-checked_at-end : goal.slice_bounds-checked_at-end
slice_bounds-checked_at-end c =
    let e = subst (λ o. lent_as o ≡ lent_of c.args.c.now) c.in-Ok.is c.find_data.ensures in
    (lent-inside _ _ e).1

pub returns-in-Ok : goal.returns-in-Ok
returns-in-Ok c =
    let e = subst (λ o. lent_as o ≡ lent_of c.args.c.now) c.in-Ok.is c.find_data.ensures in
    c.checked_at.ensures ∙ lent_checked _ _ e refl

pub returns-in-Err : goal.returns-in-Err
returns-in-Err c =
    let e = subst (λ o. lent_as o ≡ lent_of c.args.c.now) c.in-Err.is c.find_data.ensures in
    let n : c.number.result ≡ flaw_number c.in-Err.flaw =
    c.number.ensures ∙ ap number_of c.from.ensures ∙ flaw_named c.in-Err.flaw in
    c.refused.ensures ∙ ap (λ (k : ℕ). refused false k) n
    ∙ lent-refused c.args.c.now _ e (flaw-above c.in-Err.flaw)
