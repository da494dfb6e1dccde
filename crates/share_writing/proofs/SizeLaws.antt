-- A list of seven numbers, as the sizes of a share's parts are, by its elements. Assumes nothing.
use mathlib.Core.Path.{◌≡◌, refl, sym, ap}
use mathlib.Core.List.{List, [], ◌∷◌}
use Prim.Native.Nat.{ℕ, ◌+◌}
use native.Mathlib.Omega.{arith}
use lib.ListN.{length, get_or}
use Rattle.octets.specs.Lists.{sum}
use Rattle.share_format.specs.Bounds.{packed}

pub seven_listed : (l : List ℕ) → length l ≡ 7
    → l ≡ get_or l 0 0 ∷ get_or l 1 0 ∷ get_or l 2 0 ∷ get_or l 3 0 ∷ get_or l 4 0 ∷ get_or l 5 0 ∷ get_or l 6 0 ∷ []
seven_listed (a ∷ b ∷ c ∷ d ∷ e ∷ f ∷ g ∷ []) h = refl
seven_listed [] h = absurd (omega arith)
seven_listed (a ∷ []) h = absurd (omega arith)
seven_listed (a ∷ b ∷ []) h = absurd (omega arith)
seven_listed (a ∷ b ∷ c ∷ []) h = absurd (omega arith)
seven_listed (a ∷ b ∷ c ∷ d ∷ []) h = absurd (omega arith)
seven_listed (a ∷ b ∷ c ∷ d ∷ e ∷ []) h = absurd (omega arith)
seven_listed (a ∷ b ∷ c ∷ d ∷ e ∷ f ∷ []) h = absurd (omega arith)
seven_listed (a ∷ b ∷ c ∷ d ∷ e ∷ f ∷ g ∷ i ∷ l) h = absurd (omega arith)

pub sum_seven : (l : List ℕ) → length l ≡ 7
    → sum l
    ≡ get_or l 0 0
    + (get_or l 1 0 + (get_or l 2 0 + (get_or l 3 0 + (get_or l 4 0 + (get_or l 5 0 + (get_or l 6 0 + 0))))))
unfolding sum
sum_seven l h = ap sum (seven_listed l h)

pub packed_seven : (a : ℕ) (l : List ℕ) → length l ≡ 7
    → packed a (get_or l 0 0 ∷ get_or l 1 0 ∷ get_or l 2 0 ∷ get_or l 3 0 ∷ get_or l 4 0 ∷ get_or l 5 0 ∷ get_or l 6 0 ∷ [])
    ≡ packed a l
packed_seven a l h = ap (packed a) (sym (seven_listed l h))
