-- Rows judged one by one, and a list as it is judged. Assumes nothing.
use mathlib.Core.Path.{◌≡◌, refl, sym, ap, ap₂, ◌∙◌}
use mathlib.Core.Bool.{Bool, true, false, ◌&&◌}
use mathlib.Core.List.{List, [], ◌∷◌}
use Prim.Native.Nat.{ℕ, zero, suc, ◌+◌, ◌*◌, ◌-◌, ◌≤◌, ◌<◌}
use native.Mathlib.Nat.{add-zero}
use native.Mathlib.Omega.{arith}
use lib.ListN.{length, take, drop, length-take}
use lib.Seq.{take_all}
use lib.Dec.{eqb, leb, ltb}
use borrow.Author.Tests.{lt-ltb, le-ltb, le-leb, lt-leb, leb-true, eq-eqb, ne_eqb}
use Rattle.std.specs.List.{list_all}
use Rattle.octets.specs.Lists.{every}
use Rattle.octets.specs.Numbers.{number, number_at}
use Rattle.octets.specs.Strings.{all_zero}
use Rattle.octets.proofs.ListLaws.{both, cond-false, part_part}
use Rattle.octets.proofs.StringLaws.{tail_is}
use Rattle.stretches.specs.Stretches.{Stretch, stretch, rising}
use Rattle.stretches.specs.List.{list_length, row_limit, rows_at, row_size, row_count, rows_from, stretches_of}
use Rattle.stretches.specs.List.{zero_in, list_ok}
use Rattle.lists.specs.declared.rows.Span.{Span}
use Rattle.lists.specs.Spans.{span_at, span_ok}

-- ---- bytes one by one
pub zero_each : (s : List ℕ) → list_all (λ x. eqb x 0) s ≡ all_zero s
unfolding all_zero
zero_each [] = refl
zero_each (x ∷ s) = rw (zero_each s) (sym (cond-false (eqb x 0) (all_zero s)))

-- ---- a row judged
module _ (low : ℕ) (s : Span) (d : List ℕ) where
  pub span_inside : span_ok low s d ≡ true → s.to ≤ length d
  unfolding span_ok
  span_inside e =
      let f = both (leb low s.from) _ e in
      let g = both (ltb s.from s.to) _ f.1 in
      leb-true s.to (length d) (both (leb s.to (length d)) _ g.1).0

-- ---- rows judged, from one on
abbrev pub rows_good : ℕ → List Stretch → List ℕ → Bool
rows_good low rs d = rising low rs (length d) && every (zero_in d) rs

-- a span and its stretch are empty alike
filled : (a k : ℕ) → ltb a (a + k) ≡ ltb 0 k
filled a zero = le-ltb a (a + 0) (omega arith) ∙ sym (le-ltb 0 0 (omega arith))
filled a (suc k) = lt-ltb a (a + suc k) (omega arith) ∙ sym (lt-ltb 0 (suc k) (omega arith))

-- the tests of a row and those of the rest, the row's first
row_first : (a b c z r e : Bool) → ((a && (b && (c && r))) && (z && e)) ≡ ((a && (b && (c && z))) && (r && e))
row_first false b c z r e = refl
row_first true false c z r e = refl
row_first true true false z r e = refl
row_first true true true true true e = refl
row_first true true true true false e = refl
row_first true true true false true e = refl
row_first true true true false false e = refl

good_next : (low n p : ℕ) (t d : List ℕ) →
    rows_good low (rows_from (suc n) p t) d
    ≡ (span_ok low (span_at p t) d && rows_good (suc (span_at p t).to) (rows_from n (p + row_size) t) d)
unfolding rows_from rising every span_ok zero_in
good_next low n p t d =
    let a : ℕ = number_at 4 p t in
    let k : ℕ = number_at 4 (p + 4) t in
    let rs : List Stretch = rows_from n (p + row_size) t in
    let e : a + k - a ≡ k = omega arith in
    rw (filled a k, e)
    (row_first (leb low a) (ltb 0 k) (leb (a + k) (length d)) (all_zero (take k (drop a d)))
    (rising (suc (a + k)) rs (length d)) (every (zero_in d) rs))

-- a turn at row i of n
module _ (t d : List ℕ) (n low i : ℕ) (s : Span) (whole : Bool) (h : i < n) (row : s ≡ span_at (row_size * i) t)
    (inv : whole ≡ rows_good low (rows_from (n - i) (row_size * i) t) d) where
  turn : whole ≡ (span_ok low s d && rows_good (s.to + 1) (rows_from (n - (i + 1)) (row_size * (i + 1)) t) d)
  turn =
      let e : n - i ≡ suc (n - (i + 1)) = omega arith in
      let p : row_size * (i + 1) ≡ row_size * i + row_size = omega arith in
      let u : s.to + 1 ≡ suc s.to = omega arith in
      inv ∙ rw (e, p, u, row) (good_next low (n - (i + 1)) (row_size * i) t d)

  pub good_fails : span_ok low s d ≡ false → false ≡ whole
  good_fails e = sym (turn ∙ rw e)

  pub good_turn : span_ok low s d ≡ true →
      whole ≡ rows_good (s.to + 1) (rows_from (n - (i + 1)) (row_size * (i + 1)) t) d
  good_turn e = turn ∙ rw e

pub good_start : (t d : List ℕ) (n : ℕ) →
    rows_good 0 (rows_from n 0 t) d ≡ rows_good 0 (rows_from (n - 0) (row_size * 0) t) d
good_start t d n =
    let e : n - 0 ≡ n = omega arith in
    rw e

pub good_end : (t d : List ℕ) (n low i : ℕ) (whole : Bool) → n ≤ i →
    whole ≡ rows_good low (rows_from (n - i) (row_size * i) t) d → true ≡ whole
unfolding rows_from rising every
good_end t d n low i whole h inv =
    let e : n - i ≡ 0 = omega arith in
    sym (inv ∙ rw e)

-- ---- rows are told by their bytes
pub rows_by : (n p q : ℕ) (s t : List ℕ) → take (row_size * n) (drop p s) ≡ take (row_size * n) (drop q t) →
    rows_from n p s ≡ rows_from n q t
unfolding rows_from number_at
rows_by zero p q s t e = refl
rows_by (suc n) p q s t e =
    let start : take 4 (drop p s) ≡ take 4 (drop q t) = rw (add-zero p, add-zero q) at (part 0 4 (omega arith)) in
    ap₂ (λ (r : Stretch) (rs : List Stretch). r ∷ rs)
    (ap₂ (λ (x y : List ℕ). stretch (number x) (number y)) start (part 4 4 (omega arith)))
    (rows_by n (p + row_size) (q + row_size) s t (part row_size (row_size * n) (omega arith)))
  where
    part : (f m : ℕ) → f + m ≤ row_size * suc n → take m (drop (p + f) s) ≡ take m (drop (q + f) t)
    part f m h =
        sym (part_part p (row_size * suc n) f m s h) ∙ ap (λ (x : List ℕ). take m (drop f x)) e
        ∙ part_part q (row_size * suc n) f m t h

-- ---- a list judged
module _ (l d : List ℕ) where
  pub ok_length : (length l ≡ list_length → ⊥) → false ≡ list_ok l d
  unfolding list_ok
  ok_length h = rw (ne_eqb (length l) list_length h)

  module _ (long : length l ≡ list_length) (n : ℕ) (count : n ≡ number_at 4 0 l) where
    pub ok_count : row_limit < n → false ≡ list_ok l d
    unfolding list_ok row_count
    ok_count g = rw (eq-eqb (length l) list_length long, lt-leb (number_at 4 0 l) row_limit (omega arith))

    module _ (few : n ≤ row_limit) (z : Bool)
        (rest : z ≡ all_zero (take (length l - (rows_at + row_size * n)) (drop (rows_at + row_size * n) l))) where
      zeros : all_zero (drop (rows_at + row_size * number_at 4 0 l) l) ≡ z
      zeros = rw (← count) (sym (rest ∙ ap all_zero (tail_is l (rows_at + row_size * n))))

      pub ok_rest : z ≡ false → false ≡ list_ok l d
      unfolding list_ok row_count
      ok_rest f = rw (eq-eqb (length l) list_length long, le-leb (number_at 4 0 l) row_limit (omega arith), zeros, f)

      pub ok_rows : (k : ℕ) → k ≡ row_size * n → z ≡ true →
          rows_good 0 (rows_from n 0 (take k (drop rows_at l))) d ≡ list_ok l d
      unfolding list_ok row_count stretches_of
      ok_rows k e f =
          let t : List ℕ = take k (drop rows_at l) in
          let same : take (row_size * n) t ≡ take (row_size * n) (drop rows_at l) =
          rw e (take_all (row_size * n) (take (row_size * n) (drop rows_at l)) (rw length-take (omega arith))) in
          let r : rows_from n 0 t ≡ rows_from (number_at 4 0 l) rows_at l = rows_by n 0 rows_at t l same ∙ rw count in
          rw (r, eq-eqb (length l) list_length long, le-leb (number_at 4 0 l) row_limit (omega arith), zeros, f)
