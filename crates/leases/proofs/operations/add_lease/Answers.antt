-- The answer by where the token stands. Assumes nothing.
use mathlib.Core.Path.{◌≡◌, ap, subst, ◌∙◌}
use mathlib.Core.List.{List}
use Prim.Native.Nat.{ℕ}
use native.Mathlib.Omega.{arith}
use lib.ListN.{length, drop, length-drop}
use lib.Seq.{length-take-le}
use Rattle.std.specs.Prelude.{Some, None}
use Rattle.format.specs.Layout.{renewal_at, renewal_of, record_size, secret_size}
use Rattle.leases.specs.Places.{has_token}
use Rattle.leases.proofs.OperationLaws.{Finds, add_here, add_new}
use Rattle.leases.proofs.operations.add_lease.Goals as goal

renewal-length : (r : List ℕ) → length r ≡ record_size → length (renewal_of r) ≡ secret_size
unfolding renewal_of
renewal-length r h = length-take-le secret_size (drop renewal_at r) (rw length-drop (omega (arith, h)))

pub with_token-requires : goal.with_token-requires
with_token-requires c = (omega arith, ap length c.requires.3 ∙ renewal-length _ c.requires.1)

pub place_new-requires : goal.place_new-requires
place_new-requires c = (
  c.requires.0,
  c.requires.1,
  c.requires.2,
  add_new c.args.c.now _ c.requires.0 c.args.lease.now
      (subst (λ (t : List ℕ). Finds c.args.c.now (has_token renewal_at t) None) c.requires.3 c.in-None.ensures.first),
)

pub returns-in-Some : goal.returns-in-Some
returns-in-Some c =
    let a = c.args in
    let here = subst (λ (t : List ℕ). Finds a.c.now (has_token renewal_at t) (Some c.in-Some.i)) c.requires.3
    c.in-Some.ensures.first in
    let both = add_here a.c.now _ c.requires.0 a.lease.now _ _ _ _ here c.count-count.ensures c.requires.4
    c.extend.ensures in
    record { value = both.0; c_after = both.1 }
