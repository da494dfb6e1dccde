-- The never-written list as bytes, and when it is good beside data (docs/RULES.md, N1 to N7).
use Rattle.std.specs.Prelude.{ℕ, zero, suc, ◌+◌, ◌*◌, ◌-◌, Bool, ◌&&◌, List, [], ◌∷◌, ◌++◌, map, length, take, drop, replicate, eqb, leb}
use Rattle.octets.specs.Numbers.{number_at, digits}
use Rattle.octets.specs.Strings.{all_zero, join}
use Rattle.octets.specs.Lists.{every}
use Rattle.stretches.specs.Stretches.{Stretch, stretch, rising}

-- A list has 2,052 bytes, room for 256 rows of 8 behind a number of 4 (N1 to N3).
abbrev pub list_length : ℕ
list_length = 2052

abbrev pub row_limit : ℕ
row_limit = 256

abbrev pub rows_at : ℕ
rows_at = 4

abbrev pub row_size : ℕ
row_size = 8

-- How many rows it says it has (N2).
unfoldable pub row_count : List ℕ → ℕ
row_count l = number_at 4 0 l

-- The n rows from p on: start 4, length 4 (N3).
unfoldable pub rows_from : ℕ → ℕ → List ℕ → List Stretch
rows_from zero p l = []
rows_from (suc n) p l = stretch (number_at 4 p l) (number_at 4 (p + 4) l) ∷ rows_from n (p + row_size) l

-- The stretches that a list names (N2, N3).
unfoldable pub stretches_of : List ℕ → List Stretch
stretches_of l = rows_from (row_count l) rows_at l

-- Stretches written out as a list: their number, a row for each, then zeros (N2, N3, N6).
unfoldable pub row_bytes : Stretch → List ℕ
row_bytes r = digits 4 r.start ++ digits 4 r.count

unfoldable pub list_bytes : List Stretch → List ℕ
list_bytes rs =
    digits 4 (length rs) ++ (join (map row_bytes rs) ++ replicate (list_length - (rows_at + row_size * length rs)) 0)

-- The list beside a fresh container: all zeros, which name nothing (N7).
unfoldable pub fresh_list : List ℕ
fresh_list = replicate list_length 0

-- Every byte of the data that a stretch names is zero (N5).
unfoldable pub zero_in : List ℕ → Stretch → Bool
zero_in d r = all_zero (take r.count (drop r.start d))

-- A list is good beside data d: its length, at most 256 rows, zeros behind the last, rows in rising order, apart, not
-- empty and inside the data, zeros in all that they name (N1 to N6).
unfoldable pub list_ok : List ℕ → List ℕ → Bool
list_ok l d =
    eqb (length l) list_length
    && (leb (row_count l) row_limit
    && (all_zero (drop (rows_at + row_size * row_count l) l)
    && (rising 0 (stretches_of l) (length d)
    && every (zero_in d) (stretches_of l))))
