-- Rows 27 and 28: rounding up, and the sizes of tree and blocks. Assumes nothing.
use Rattle.std.specs.Prelude.{min}
use mathlib.Core.Path.{◌≡◌, refl, ◌∙◌}
use mathlib.Core.Bool.{Bool, true, false}
use Prim.Native.Nat.{ℕ, suc, ◌+◌, ◌*◌, ◌-◌, ◌/◌, ◌%◌, ◌≤◌, ◌<◌}
use native.Mathlib.Nat.{mod-lt, div-add-mod', suc-mul, div-eq_of_lt-le, div-lt_iff_lt-mul}
use native.Mathlib.Numerals.{add-one}
use native.Mathlib.Omega.{arith}
use lib.Dec.{eqb}
use borrow.Author.Tests.{eqb-true, eqb-false, eq-eqb, ne_eqb}
use Rattle.share_numbers.proofs.CodingLaws.{some_segment}
use Rattle.share_contents.specs.Claims.{RoundedIsLeast}
use Rattle.share_contents.specs.Contents.{rounded_up, tree_size, blocks_size}
use Rattle.share_contents.specs.Nodes.{depth, power}
use Rattle.share_contents.proofs.NodeLaws.{depth-least}

-- ---- rounding up
pub rounded_whole : (n k : ℕ) → 0 < k → n % k ≡ 0 → rounded_up n k ≡ n / k
unfolding rounded_up
rounded_whole n k p h =
    div-eq_of_lt-le k (omega (arith, div-add-mod' n k))
    (omega (arith, div-add-mod' n k, suc-mul (n / k) k, add-one (n / k)))

pub rounded_more : (n k : ℕ) → 0 < k → (n % k ≡ 0 → ⊥) → rounded_up n k ≡ n / k + 1
unfolding rounded_up
rounded_more n k p h =
    div-eq_of_lt-le k (omega (arith, div-add-mod' n k, suc-mul (n / k) k, add-one (n / k)))
    (omega (
      arith,
      div-add-mod' n k,
      mod-lt n p,
      suc-mul (n / k) k,
      suc-mul (suc (n / k)) k,
      add-one (n / k),
      add-one (suc (n / k)),
    ))

-- As the library forms it.
pub rounded-ceil : (n k : ℕ) → 0 < k → rounded_up n k ≡ n / k + min 1 (n % k)
rounded-ceil n k p = go (eqb (n % k) 0) refl
  where
    go : (t : Bool) → eqb (n % k) 0 ≡ t → rounded_up n k ≡ n / k + min 1 (n % k)
    go true e =
        let z : n % k ≡ 0 = eqb-true _ _ e in
        rounded_whole n k p z ∙ omega (arith, z)
    go false e =
        let z : n % k ≡ 0 → ⊥ = eqb-false _ _ e in
        rounded_more n k p z ∙ omega (arith, z)

-- The claim about rounding up.
pub rounded_least : RoundedIsLeast
unfolding rounded_up
rounded_least n k p =
    let d = div-add-mod' (n + (k - 1)) k in
    let m = mod-lt (n + (k - 1)) p in (
      omega (arith, d, m),
      λ q h. omega (arith, (div-lt_iff_lt-mul {x = n + (k - 1)} {y = suc q} p).1 (omega (arith, suc-mul q k))),
    )

-- ---- tree and blocks of MDMF, in numbers of 64 bits
same_test : (a b c d : ℕ) → (a ≡ b → c ≡ d) → (c ≡ d → a ≡ b) → eqb a b ≡ eqb c d
same_test a b c d f g = go (eqb c d) refl
  where
    go : (t : Bool) → eqb c d ≡ t → eqb a b ≡ t
    go true e = eq-eqb a b (g (eqb-true c d e))
    go false e = ne_eqb a b (λ h. eqb-false c d e (f h))

module _ (n t : ℕ) where
  pub tree_none : n ≡ 0 → eqb t 0 ≡ eqb t (tree_size n)
  unfolding tree_size
  tree_none z = rw (eq-eqb n 0 z)

  module _ (h : n ≡ 0 → ⊥) where
    -- 2^d is at least n, which is at least 1.
    enough : (n ≤ power (depth n)) × (0 < n)
    enough = ((depth-least n).0, some_segment n n (λ z. z) h)

    pub tree_ragged : (t % 32 ≡ 0 → ⊥) → eqb t (tree_size n) ≡ false
    unfolding tree_size
    tree_ragged k = rw (ne_eqb n 0 h) (ne_eqb t _ (λ e. k (omega (arith, e))))

    pub tree_few : t / 32 < n → eqb t (tree_size n) ≡ false
    unfolding tree_size
    tree_few k = let f = enough in rw (ne_eqb n 0 h) (ne_eqb t _ (λ e. omega (arith, e)))

    pub tree_hashes : t % 32 ≡ 0 → eqb (t / 32) (2 * power (depth n) - 1) ≡ eqb t (tree_size n)
    unfolding tree_size
    tree_hashes k =
        rw (ne_eqb n 0 h)
        (same_test (t / 32) (2 * power (depth n) - 1) t (32 * (2 * power (depth n) - 1)) (λ e. omega (arith, e))
        (λ e. omega (arith, e)))

module _ (n k m t : ℕ) where
  pub salts_few : t / 16 < n → eqb t (blocks_size n k m) ≡ false
  unfolding blocks_size
  salts_few h = ne_eqb t _ (λ e. omega (arith, e))

  pub salts_off : n ≤ t / 16 → eqb (t - 16 * n) (rounded_up m k) ≡ eqb t (blocks_size n k m)
  unfolding blocks_size
  salts_off h =
      same_test (t - 16 * n) (rounded_up m k) t (16 * n + rounded_up m k) (λ e. omega (arith, e)) (λ e. omega (arith, e))
