-- The answer by where the token stands; the lease that is cancelled was one of those present. Assumes nothing.
use mathlib.Core.Path.{◌≡◌, sym, ◌∙◌}
use native.Mathlib.Omega.{arith}
use Rattle.std.specs.Prelude.{None}
use Rattle.std.proofs.lemmas.Result.{err_from_is_err_and}
use Rattle.rules.specs.declared.outcomes.Refusal.TheVariants.{NoLease}
use Rattle.leases.proofs.OperationLaws.{cancelled-present, cancel_here, cancel_unknown}
use Rattle.leases.proofs.operations.cancel_lease.Goals as goal

pub drop_record-requires : goal.drop_record-requires
drop_record-requires c = (c.requires.0, rw c.in_ok-i.ensures.ok_part at c.with_token.ensures.inside)

pub overflow_sub-result : goal.overflow_sub-result
overflow_sub-result c =
    omega (
      arith,
      c.count-count.ensures,
      cancelled-present c.args.c.now _ c.requires.0 c.args.token.now _
          (sym c.in_ok-i.ensures.ok_part ∙ c.with_token.ensures.first),
    )

pub returns-in_err-i : goal.returns-in_err-i
returns-in_err-i c =
    let a = c.args in
    let p = err_from_is_err_and c.from_residual.result c.from_residual.ensures.1 in
    let n : c.with_token.result ≡ None = c.in_err-i.ensures.ok_part in
    let m : c.in_err-i.field-0.0 ≡ NoLease = cc (rw n at c.in_err-i.ensures.value) in
    let both = cancel_unknown a.c.now _ c.requires.0 a.token.now (sym n ∙ c.with_token.ensures.first) in
    rw (p.1, p.2, m) record { value = both.0; c_after = both.1 }

pub returns : goal.returns
returns c =
    let a = c.args in
    let both = cancel_here a.c.now _ c.requires.0 a.token.now _ _ _
    (sym c.in_ok-i.ensures.ok_part ∙ c.with_token.ensures.first) c.count-count.ensures c.drop_record.ensures in
    record { value = both.0; c_after = both.1 }
