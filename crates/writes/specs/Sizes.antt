-- What the sizes are found to be before anything is written.
use Rattle.std.specs.Prelude.{ℕ, zero, suc, ◌-◌, min, cond, List, [], ◌∷◌, length, ltb}
use Rattle.std.specs.Prelude.{Option, Some, None}
use Rattle.rules.specs.Requests.{Write}
use Rattle.rules.specs.Writing.{Placed, grow, placed, writes_resolve}
use Rattle.rules.specs.Sizes.{size_all}

-- The end of the last gap, b so far: a write of k bytes past the size n leaves one up to its position.
unfoldable pub gap_end : ℕ → ℕ → ℕ → ℕ → ℕ
gap_end b n at zero = b
gap_end b n at (suc k) = cond (ltb n at) at b

-- The end of the last gap that the writes leave on the way from the size n. Behind it they cover every byte of the data
-- that they add.
unfoldable pub last_gap : List Placed → ℕ → ℕ → ℕ
last_gap [] n b = b
last_gap (w ∷ ws) n b =
    last_gap ws (grow n w.at (length w.bytes)) (gap_end b n w.at (length w.bytes))

-- The size after the writes, where every offset resolves.
abbrev pub reached_by : List Write → ℕ → Option ℕ
reached_by ws size = cond (writes_resolve ws size) (Some (size_all (placed ws size) size)) None

-- How many of the bytes that data of a size grows by, to f bytes, must be cleared: those up to the last gap's end.
abbrev pub bare_by : List Write → ℕ → ℕ → ℕ
bare_by ws size f = min (last_gap (placed ws size) size size) f - size
