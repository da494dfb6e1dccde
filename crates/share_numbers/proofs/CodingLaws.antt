-- Rows 23 and 24: k and N, and the segment size. Assumes nothing.
use mathlib.Core.Path.{◌≡◌, refl}
use mathlib.Core.Bool.{Bool, true, false, not, ◌&&◌, false≢true}
use Prim.Native.Nat.{ℕ, ◌%◌, ◌≤◌, ◌<◌}
use native.Mathlib.Omega.{arith}
use lib.Dec.{eqb, leb, ltb}
use borrow.Author.Tests.{ltb-true, ltb-false, leb-true, leb-false, eq-eqb, ne_eqb, lt-ltb, le-leb, not-true}
use Rattle.octets.proofs.ListLaws.{both}
use Rattle.share_format.specs.Header.{Edition}
use Rattle.share_numbers.specs.Coding.{coding_ok, segment_ok}

-- ---- row 23
pub coding_facts : (k n : ℕ) → coding_ok k n ≡ true → (0 < k) × (k ≤ n)
unfolding coding_ok
coding_facts k n e = let p = both _ _ e in (ltb-true _ _ p.0, leb-true _ _ p.1)

pub coding_true : (k n : ℕ) → 0 < k → k ≤ n → coding_ok k n ≡ true
unfolding coding_ok
coding_true k n h l = rw (lt-ltb 0 k h, le-leb k n l)

-- ---- row 24
pub segment_none : (n : ℕ) → eqb n 0 ≡ not (ltb 0 n)
segment_none n = go (ltb 0 n) refl
  where
    go : (t : Bool) → ltb 0 n ≡ t → eqb n 0 ≡ not t
    go true e = ne_eqb n 0 (λ z. omega (arith, ltb-true 0 n e))
    go false e = eq-eqb n 0 (omega (arith, ltb-false 0 n e))

-- Without a segment size there is no data.
pub segment_some : (e : Edition) (segment k n : ℕ) → segment_ok e segment k n ≡ true → e ≡ true → segment ≡ 0 → n ≡ 0
unfolding segment_ok
segment_some false segment k n h r z = absurd (false≢true r)
segment_some true segment k n h r z =
    let p = (both (eqb (segment % k) 0) (not (eqb segment 0 && ltb 0 n)) h).1 in
    let q : (eqb segment 0 && ltb 0 n) ≡ false = not-true _ p in
    let f : ltb 0 n ≡ false = rw (eq-eqb segment 0 z) at q in
    omega (arith, ltb-false 0 n f)

pub some_segment : (segment n : ℕ) → (segment ≡ 0 → n ≡ 0) → (n ≡ 0 → ⊥) → 0 < segment
some_segment segment n h k = go (leb 1 segment) refl
  where
    go : (t : Bool) → leb 1 segment ≡ t → 0 < segment
    go true e = leb-true 1 segment e
    go false e = absurd (k (h (omega (arith, leb-false 1 segment e))))
