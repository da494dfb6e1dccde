-- Boundaries in order bound parts that lie inside the slice, for any edition of a share. Assumes nothing.
use mathlib.Core.Path.{◌≡◌, refl, ◌∙◌}
use mathlib.Core.Bool.{true, false, ◌&&◌, false≢true}
use mathlib.Core.List.{List, [], ◌∷◌}
use Prim.Native.Nat.{ℕ, zero, suc, ◌+◌, ◌-◌, ◌≤◌, ◌<◌}
use native.Mathlib.Nat.{not-suc-le-zero}
use native.Mathlib.Numerals.{add-one}
use native.Mathlib.Omega.{arith}
use lib.Dec.{leb}
use lib.ListN.{length, take, drop, get_or, length-take, length-drop, drop_of_length-le}
use lib.Seq.{drop-cons}
use borrow.Author.Tests.{leb-true, le-leb, lt-leb}
use Rattle.octets.proofs.ListLaws.{both}
use Rattle.share_format.specs.Bounds.{in_order, part_of}
use Rattle.share_format.specs.Facts.{PartInside}

-- The last of a boundary and those after it.
unfoldable pub last_of : ℕ → List ℕ → ℕ
last_of a [] = a
last_of a (b ∷ bs) = last_of b bs

-- What the test says of the next boundary and those behind it.
next : (m a b : ℕ) (ms bs : List ℕ) → in_order (m ∷ ms) a (b ∷ bs) ≡ true → (a + m ≤ b) × (in_order ms b bs ≡ true)
unfolding in_order
next m a b ms bs e = let p = both (leb (a + m) b) (in_order ms b bs) e in (leb-true (a + m) b p.0, p.1)

pub below_last : (ms : List ℕ) (a : ℕ) (bs : List ℕ) → in_order ms a bs ≡ true → a ≤ last_of a bs
unfolding in_order last_of
below_last [] a [] e = omega arith
below_last [] a (b ∷ bs) e = absurd (false≢true e)
below_last (m ∷ ms) a [] e = absurd (false≢true e)
below_last (m ∷ ms) a (b ∷ bs) e =
    let p = next m a b ms bs e in
    omega (arith, below_last ms b bs p.1)

-- There are as many as parts, and the last is that behind the last part.
pub order-length : (ms : List ℕ) (a : ℕ) (bs : List ℕ) → in_order ms a bs ≡ true
    → (length bs ≡ length ms) × (last_of a bs ≡ get_or (a ∷ bs) (length ms) 0)
unfolding in_order last_of
order-length [] a [] e = (refl, refl)
order-length [] a (b ∷ bs) e = absurd (false≢true e)
order-length (m ∷ ms) a [] e = absurd (false≢true e)
order-length (m ∷ ms) a (b ∷ bs) e =
    let r = order-length ms b bs (next m a b ms bs e).1 in
    (omega (arith, r.0), r.1)

-- Each boundary lies between its neighbours, and none beyond the last; each part has its least size.
pub in_order_parts : (ms : List ℕ) (a : ℕ) (bs s : List ℕ) → in_order ms a bs ≡ true → last_of a bs ≡ length s
    → (i : ℕ) → i < length bs
    → (get_or (a ∷ bs) i 0 + get_or ms i 0 ≤ get_or (a ∷ bs) (suc i) 0) × (get_or (a ∷ bs) (suc i) 0 ≤ length s)
unfolding in_order last_of
in_order_parts [] a [] s e l i h = absurd (not-suc-le-zero h)
in_order_parts [] a (b ∷ bs) s e l i h = absurd (false≢true e)
in_order_parts (m ∷ ms) a [] s e l i h = absurd (false≢true e)
in_order_parts (m ∷ ms) a (b ∷ bs) s e l zero h =
    let p = next m a b ms bs e in
    (p.0, omega (arith, l, below_last ms b bs p.1))
in_order_parts (m ∷ ms) a (b ∷ bs) s e l (suc i) h =
    in_order_parts ms b bs s (next m a b ms bs e).1 l i (omega arith)

-- ---- the test, one part after the other
module _ (ms bs : List ℕ) (i : ℕ) (h : i < length ms) (k : suc i < length bs) where
  order_step : in_order (drop i ms) (get_or bs i 0) (drop (i + 1) bs)
      ≡ (leb (get_or bs i 0 + get_or ms i 0) (get_or bs (i + 1) 0)
      && in_order (drop (i + 1) ms) (get_or bs (i + 1) 0) (drop (i + 1 + 1) bs))
  unfolding in_order
  order_step =
      let l : i + 1 < length bs = omega arith in
      rw (drop-cons ms i 0 h, drop-cons bs (i + 1) 0 l, add-one i, add-one (suc i))

  pub order_more : get_or bs i 0 + get_or ms i 0 ≤ get_or bs (i + 1) 0
      → in_order (drop i ms) (get_or bs i 0) (drop (i + 1) bs)
      ≡ in_order (drop (i + 1) ms) (get_or bs (i + 1) 0) (drop (i + 1 + 1) bs)
  order_more l = order_step ∙ rw (le-leb _ _ l)

  pub order_less : get_or bs (i + 1) 0 < get_or bs i 0 + get_or ms i 0
      → in_order (drop i ms) (get_or bs i 0) (drop (i + 1) bs) ≡ false
  order_less l = order_step ∙ rw (lt-leb _ _ l)

pub order-end : (ms bs : List ℕ) (i a : ℕ) → length ms ≤ i → length bs ≤ i + 1
    → in_order (drop i ms) a (drop (i + 1) bs) ≡ true
unfolding in_order
order-end ms bs i a h k = rw (drop_of_length-le ms {i = i} h, drop_of_length-le bs {i = i + 1} k)

-- A part, from boundary i to boundary i + 1, as the code takes it.
pub part_is : (i : ℕ) (bs s : List ℕ)
    → take (get_or bs (i + 1) 0 - get_or bs i 0) (drop (get_or bs i 0) s) ≡ part_of i bs s
unfolding part_of
part_is i bs s = rw add-one

-- Parts of a slice, one after the other.
module _ (bs s : List ℕ) (i : ℕ) (h : PartInside bs (length s) i) where
  pub risen : (get_or bs i 0 ≤ get_or bs (suc i) 0) × (get_or bs (suc i) 0 ≤ length s)
  risen = (rw (← add-one i) h.rises, rw (← add-one i) h.fits)

  pub part_length : get_or bs i 0 + length (part_of i bs s) ≡ get_or bs (suc i) 0
  unfolding part_of
  part_length = simp (length-take, length-drop) (omega (arith, risen.0, risen.1))
