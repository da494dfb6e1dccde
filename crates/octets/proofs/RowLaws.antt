-- The first row that applies, and lists of rows one after the other. Assumes nothing.
use mathlib.Core.Path.{◌≡◌, refl}
use mathlib.Core.Bool.{Bool, true, false, cond}
use mathlib.Core.List.{List, [], ◌∷◌, ◌++◌, map}
use Prim.Native.Nat.{ℕ, ◌<◌}
use native.Mathlib.Omega.{arith}
use lib.Dec.{eqb}
use borrow.Author.Tests.{eq-eqb, ne_eqb}
use Rattle.octets.specs.Facts.{Each}
use Rattle.octets.specs.Lists.{any_of}
use Rattle.octets.specs.Rows.{Row, row, first_row}

-- Every row has a number above 0.
abbrev pub Numbered : List Row → Type 0
Numbered rs = Each (λ r. 0 < r.number) rs

-- 0 is given only where no row applies.
pub clear : (n : ℕ) (b : Bool) (rs : List Row) → 0 < n → first_row (row n b ∷ rs) ≡ 0 → (b ≡ false) × (first_row rs ≡ 0)
unfolding first_row
clear n true rs h e = absurd (omega arith)
clear n false rs h e = (refl, e)

-- Of two lists, the first decides unless none of its rows applies.
pub rows_append : (a b : List Row) → Numbered a → first_row (a ++ b)
    ≡ cond (eqb (first_row a) 0) (first_row b) (first_row a)
unfolding first_row
rows_append [] b h = refl
rows_append (r ∷ a) b h = go r.applies (rows_append a b h.1)
  where
    go : (t : Bool) → first_row (a ++ b) ≡ cond (eqb (first_row a) 0) (first_row b) (first_row a) →
        cond t r.number (first_row (a ++ b))
        ≡ cond (eqb (cond t r.number (first_row a)) 0) (first_row b) (cond t r.number (first_row a))
    go true ih = rw (ne_eqb r.number 0 (λ z. omega (arith, h.0)))
    go false ih = ih

pub rows_second : (a b : List Row) → Numbered a → first_row a ≡ 0 → first_row (a ++ b) ≡ first_row b
rows_second a b h e = rw (rows_append a b h, eq-eqb (first_row a) 0 e)

pub rows_first : (a b : List Row) → Numbered a → (first_row a ≡ 0 → ⊥) → first_row (a ++ b) ≡ first_row a
rows_first a b h e = rw (rows_append a b h, ne_eqb (first_row a) 0 e)

pub rows_clear : (a b : List Row) → Numbered a → first_row (a ++ b) ≡ 0 → (first_row a ≡ 0) × (first_row b ≡ 0)
unfolding first_row
rows_clear [] b h e = (refl, e)
rows_clear (r ∷ a) b h e =
    let z = clear r.number r.applies (a ++ b) h.0 e in
    let k = rows_clear a b h.1 z.1 in
    (rw z.0 k.0, k.1)

-- ---- the number is 0 or one of the rows'
occurs_here : (x : ℕ) (ys : List ℕ) → any_of (eqb x) (x ∷ ys) ≡ true
unfolding any_of
occurs_here x ys = rw (eq-eqb x x refl)

pub occurs_later : (x y : ℕ) (ys : List ℕ) → any_of (eqb x) ys ≡ true → any_of (eqb x) (y ∷ ys) ≡ true
unfolding any_of
occurs_later x y ys h = go (eqb x y)
  where
    go : (t : Bool) → cond t true (any_of (eqb x) ys) ≡ true
    go true = refl
    go false = h

occurs_past : (x y z : ℕ) (ys : List ℕ) → any_of (eqb x) (y ∷ ys) ≡ true → any_of (eqb x) (y ∷ (z ∷ ys)) ≡ true
unfolding any_of
occurs_past x y z ys h = go (eqb x y) h
  where
    go : (t : Bool) → cond t true (any_of (eqb x) ys) ≡ true → cond t true (any_of (eqb x) (z ∷ ys)) ≡ true
    go true e = refl
    go false e = occurs_later x z ys e

pub first_among : (rs : List Row) → any_of (eqb (first_row rs)) (0 ∷ map (λ r. r.number) rs) ≡ true
unfolding first_row
first_among [] = occurs_here 0 []
first_among (r ∷ rs) = go r.applies (first_among rs)
  where
    go : (t : Bool) → any_of (eqb (first_row rs)) (0 ∷ map (λ x. x.number) rs) ≡ true
        → any_of (eqb (cond t r.number (first_row rs))) (0 ∷ (r.number ∷ map (λ x. x.number) rs)) ≡ true
    go true ih = occurs_later r.number 0 _ (occurs_here r.number _)
    go false ih = occurs_past (first_row rs) 0 r.number _ ih
