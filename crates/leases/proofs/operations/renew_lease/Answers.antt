-- The answer by where the token stands. Assumes nothing.
use mathlib.Core.Path.{◌≡◌, sym, ◌∙◌}
use Rattle.std.specs.Prelude.{None}
use Rattle.std.proofs.lemmas.Result.{err_from_is_err_and}
use Rattle.rules.specs.declared.outcomes.Refusal.TheVariants.{NoLease}
use Rattle.leases.proofs.OperationLaws.{renew_here, renew_unknown}
use Rattle.leases.proofs.operations.renew_lease.Goals as goal

pub extend-requires : goal.extend-requires
extend-requires c = (c.requires.0, rw c.in_ok-i.ensures.ok_part at c.with_token.ensures.inside)

pub returns-in_err-i : goal.returns-in_err-i
returns-in_err-i c =
    let a = c.args in
    let p = err_from_is_err_and c.from_residual.result c.from_residual.ensures.1 in
    let n : c.with_token.result ≡ None = c.in_err-i.ensures.ok_part in
    let m : c.in_err-i.field-0.0 ≡ NoLease = cc (rw n at c.in_err-i.ensures.value) in
    let both = renew_unknown a.c.now _ c.requires.0 a.token.now a.expiry (sym n ∙ c.with_token.ensures.first) in
    rw (p.1, p.2, m) record { value = both.0; c_after = both.1 }

pub returns : goal.returns
returns c =
    let a = c.args in
    let both = renew_here a.c.now _ c.requires.0 a.token.now a.expiry _ _ _
    (sym c.in_ok-i.ensures.ok_part ∙ c.with_token.ensures.first) c.count-count.ensures c.extend.ensures in
    record { value = both.0; c_after = both.1 }
