-- Decimal numbers and pairs of hexadecimal digits in a text.
use Rattle.std.specs.Prelude.{ℕ, ◌+◌, ◌-◌, ◌*◌, cond, List, [], ◌∷◌, eqb, ltb, length, take, drop, get_or}
use Rattle.std.specs.Prelude.{Option, Some, None, Result, Ok, Err}
use Rattle.replaying.specs.Scanning.{run}
use Rattle.replaying.specs.declared.scanning.Sort.TheVariants.{Digit}
use Rattle.replaying.specs.declared.numerals.NumberFault.{NumberFault}
use Rattle.replaying.specs.declared.numerals.NumberFault.TheVariants.{Missing, TooLarge}

-- The value of the digits of `a` and then these, at base 10.
unfoldable pub value_after : ℕ → List ℕ → ℕ
value_after a [] = a
value_after a (d ∷ ds) = value_after (a * 10 + (d - 48)) ds

unfoldable pub value_of : List ℕ → ℕ
value_of ds = value_after 0 ds

-- The value of digits where it is at most `most`.
unfoldable pub value_within : List ℕ → ℕ → Option ℕ
value_within ds most = cond (ltb most (value_of ds)) None (Some (value_of ds))

-- The number whose digits are ds, with the position behind it: no digit, above the bound `most`, or its value.
unfoldable pub decimal_of : List ℕ → ℕ → ℕ → Result (ℕ × ℕ) NumberFault
decimal_of ds next most =
    cond (eqb (length ds) 0) (Err Missing)
    (cond (ltb most (value_of ds)) (Err (TooLarge most)) (Ok (value_of ds, next)))

-- The number at a position: its digits are the run of digits there.
unfoldable pub decimal_to : List ℕ → ℕ → ℕ → ℕ → Result (ℕ × ℕ) NumberFault
decimal_to s at e most = decimal_of (take (e - at) (drop at s)) e most

unfoldable pub decimal_at : List ℕ → ℕ → ℕ → Result (ℕ × ℕ) NumberFault
decimal_at s at most = decimal_to s at (at + run Digit (drop at s)) most

-- The value of a hexadecimal digit, 0 to 9, A to F or a to f.
unfoldable pub hex_of : ℕ → Option ℕ
hex_of b =
    cond (ltb b 48) None
    (cond (ltb b 58) (Some (b - 48))
    (cond (ltb b 65) None
    (cond (ltb b 71) (Some (b - 55))
    (cond (ltb b 97) None
    (cond (ltb b 103) (Some (b - 87)) None)))))

-- The byte that two hexadecimal digits are.
unfoldable pub pair_of : Option ℕ → Option ℕ → Option ℕ
pair_of None lo = None
pair_of (Some hi) None = None
pair_of (Some hi) (Some lo) = Some (hi * 16 + lo)

unfoldable pub pair_at : List ℕ → ℕ → Option ℕ
pair_at s at = cond (ltb (length s - at) 2) None (pair_of (hex_of (get_or s at 0)) (hex_of (get_or s (at + 1) 0)))
