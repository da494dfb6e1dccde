-- The least multiple at or above a number. Assumes nothing.
use mathlib.Core.Path.{◌≡◌, refl, ◌∙◌}
use mathlib.Core.Bool.{Bool, true, false, cond}
use Prim.Native.Nat.{ℕ, ◌+◌, ◌*◌, ◌-◌, ◌/◌, ◌%◌, ◌≤◌, ◌<◌}
use native.Mathlib.Nat.{mod-lt, mod-eq_of_lt, mod_self, mod-le, div-add-mod', add-mod_right, mul-mod_left, mul-le-mul_right, suc-mul}
use native.Mathlib.Omega.{arith}
use lib.Dec.{eqb, leb}
use borrow.Author.Tests.{eqb-true, eqb-false, leb-true, leb-false, eq-eqb, ne_eqb}
use Rattle.share_format.specs.Claims.{Least, MultipleIsLeast}
use Rattle.share_format.specs.Parts.{least_multiple}

pub least_whole : (k n : ℕ) → n % k ≡ 0 → least_multiple k n ≡ n
unfolding least_multiple
least_whole k n h = rw (eq-eqb _ _ h)

pub least_more : (k n : ℕ) → 0 < k → (n % k ≡ 0 → ⊥) → least_multiple k n ≡ n + (k - n % k)
unfolding least_multiple
least_more k n p h = rw (ne_eqb _ _ h) (omega (arith, mod-lt n p, mod-le n k))

-- As the library forms it.
pub least-next : (k n : ℕ) → 0 < k → least_multiple k n ≡ n + (k - n % k) % k
least-next k n p = go (eqb (n % k) 0) refl
  where
    go : (t : Bool) → eqb (n % k) 0 ≡ t → least_multiple k n ≡ n + (k - n % k) % k
    go true e =
        let z : n % k ≡ 0 = eqb-true _ _ e in
        let s : k - n % k ≡ k = omega (arith, z) in
        least_whole k n z ∙ rw (s, mod_self k) (omega arith)
    go false e =
        let z : n % k ≡ 0 → ⊥ = eqb-false _ _ e in
        let l : k - n % k < k = omega (arith, z, mod-lt n p) in
        least_more k n p z ∙ rw (mod-eq_of_lt l)

-- The claim about the least multiple: a multiple, at or above n, and none below it is.
whole_least : (k n : ℕ) → n % k ≡ 0 → Least k n n
whole_least k n h = record { multiple = h; reaches = omega arith; least = λ x m r. r }

more_multiple : (k n : ℕ) → (n - n % k + k) % k ≡ 0
more_multiple k n =
    let e : n - n % k ≡ n / k * k = omega (arith, div-add-mod' n k) in
    rw e (add-mod_right (n / k * k) k ∙ mul-mod_left (n / k) k)

-- A multiple x above n is beyond the quotient's own multiple.
quotient_below : (k n x : ℕ) → (n % k ≡ 0 → ⊥) → x % k ≡ 0 → n ≤ x → n / k < x / k
quotient_below k n x h m r = go (leb (x / k) (n / k)) refl
  where
    go : (t : Bool) → leb (x / k) (n / k) ≡ t → n / k < x / k
    go true e =
        absurd (h (omega (arith, div-add-mod' n k, div-add-mod' x k, mul-le-mul_right k (leb-true (x / k) (n / k) e))))
    go false e = leb-false _ _ e

more_least : (k n : ℕ) → 0 < k → (n % k ≡ 0 → ⊥) → Least k n (n - n % k + k)
more_least k n p h =
    record {
      multiple = more_multiple k n;
      reaches = omega (arith, mod-lt n p);
      least =
          λ x m r.
          omega (
            arith,
            div-add-mod' n k,
            div-add-mod' x k,
            suc-mul (n / k) k,
            mul-le-mul_right k (quotient_below k n x h m r),
          );
    }

pub least_multiple_lem : MultipleIsLeast
unfolding least_multiple
least_multiple_lem k n p = go (eqb (n % k) 0) refl
  where
    go : (t : Bool) → eqb (n % k) 0 ≡ t → Least k n (cond t n (n - n % k + k))
    go true e = whole_least k n (eqb-true _ _ e)
    go false e = more_least k n p (eqb-false _ _ e)
