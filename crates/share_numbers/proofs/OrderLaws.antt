-- Row 25: boundaries in their places. Assumes nothing.
use mathlib.Core.Path.{◌≡◌, refl, sym, ap, ◌∙◌}
use mathlib.Core.Bool.{true, false, false≢true}
use mathlib.Core.List.{List, [], ◌∷◌}
use Prim.Native.Nat.{ℕ, suc, ◌+◌, ◌≤◌, ◌<◌}
use native.Mathlib.Numerals.{add-one}
use native.Mathlib.Omega.{arith}
use lib.Dec.{eqb}
use lib.ListN.{length, drop, get_or}
use borrow.Author.Tests.{eqb-true, eq-eqb, ne_eqb}
use Rattle.octets.proofs.ListLaws.{both}
use Rattle.share_format.specs.Bounds.{in_order}
use Rattle.share_format.specs.Facts.{PartsInside}
use Rattle.share_format.specs.Header.{Edition, header_size}
use Rattle.share_format.proofs.BoundLaws.{last_of, order-length, in_order_parts}
use Rattle.share_numbers.specs.Order.{least_sizes, placed_ok}

-- Boundaries in their places: the first is the header's end, and the others are in order behind it.
split : (e : Edition) (bs : List ℕ) → placed_ok e bs ≡ true
    → (bs ≡ header_size e ∷ drop 1 bs) × (in_order (least_sizes e) (header_size e) (drop 1 bs) ≡ true)
unfolding placed_ok
split e [] h = absurd (false≢true h)
split e (a ∷ bs) h =
    let p = both (eqb a (header_size e)) (in_order (least_sizes e) a bs) h in
    let f : a ≡ header_size e = eqb-true a (header_size e) p.0 in
    (rw f, rw (← f) p.1)

seven : (e : Edition) → length (least_sizes e) ≡ 7
seven false = refl
seven true = refl

pub placed_first : (e : Edition) (bs : List ℕ) → placed_ok e bs ≡ true → get_or bs 0 0 ≡ header_size e
placed_first e bs h = ap (λ (l : List ℕ). get_or l 0 0) (split e bs h).0

-- The parts of a slice that ends with the last of the boundaries: each lies inside, and has its least size.
module _ (e : Edition) (bs s : List ℕ) (h : placed_ok e bs ≡ true) (l : get_or bs 7 0 ≡ length s) where
  pub placed-tail : bs ≡ header_size e ∷ drop 1 bs
  placed-tail = (split e bs h).0

  pub placed-order : in_order (least_sizes e) (header_size e) (drop 1 bs) ≡ true
  placed-order = (split e bs h).1

  pub placed_last : last_of (header_size e) (drop 1 bs) ≡ length s
  placed_last =
      (order-length (least_sizes e) (header_size e) (drop 1 bs) placed-order).1
      ∙ rw (seven e) (ap (λ (l : List ℕ). get_or l 7 0) (sym placed-tail) ∙ l)

  placed_part : (i : ℕ) → i < 7
      → (get_or bs i 0 + get_or (least_sizes e) i 0 ≤ get_or bs (suc i) 0) × (get_or bs (suc i) 0 ≤ length s)
  placed_part i k =
      let n = (order-length (least_sizes e) (header_size e) (drop 1 bs) placed-order).0 in
      let q =
      in_order_parts (least_sizes e) (header_size e) (drop 1 bs) s placed-order placed_last i
      (omega (arith, n, seven e)) in
      let at : (j : ℕ) → get_or bs j 0 ≡ get_or (header_size e ∷ drop 1 bs) j 0 =
      λ j. ap (λ (l : List ℕ). get_or l j 0) placed-tail in
      (omega (arith, q.0, at i, at (suc i)), omega (arith, q.1, at (suc i)))

  pub placed-inside : PartsInside bs (length s)
  placed-inside i k =
      let p = placed_part i k in
      record { rises = rw add-one (omega (arith, p.0)); fits = rw add-one p.1 }

-- ---- boundaries as they come
pub placed-false : (e : Edition) (bs : List ℕ) → (get_or bs 0 0 ≡ header_size e → ⊥) → placed_ok e bs ≡ false
unfolding placed_ok
placed-false e [] h = refl
placed-false e (a ∷ bs) h = rw (ne_eqb a (header_size e) h)

pub placed_rest : (e : Edition) (bs : List ℕ) → get_or bs 0 0 ≡ header_size e
    → in_order (least_sizes e) (get_or bs 0 0) (drop 1 bs) ≡ placed_ok e bs
unfolding placed_ok in_order
placed_rest false [] h = refl
placed_rest true [] h = refl
placed_rest e (a ∷ bs) h = rw (eq-eqb a (header_size e) h)
