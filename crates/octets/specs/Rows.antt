-- Rows of a table of outcomes (docs/RULES.md, O0 to O20).
use Rattle.std.specs.Prelude.{ℕ, Bool, cond, List, [], ◌∷◌}

-- A row: its number, and whether it applies.
pub record Row : Type 0 where
  pub number : ℕ
  pub applies : Bool

abbrev pub row : ℕ → Bool → Row
row n b = record { number = n; applies = b }

-- The number of the first row that applies, 0 where none does. The order of the rows is the table's own (O20).
unfoldable pub first_row : List Row → ℕ
first_row [] = 0
first_row (r ∷ rs) = cond r.applies r.number (first_row rs)
