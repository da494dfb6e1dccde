-- Sizes that the writes and the cut of a test-and-write give, and the writes as they fall into data of its final size.
use Rattle.std.specs.Prelude.{ℕ, ◌-◌, min, List, [], ◌∷◌, length, take}
use Rattle.std.proofs.Math.Option.{Option, none, some}
use Rattle.rules.specs.Writing.{Placed, pad_to, grow, placed}
use Rattle.rules.specs.Requests.{Write}

-- The size after the writes (docs/RULES.md, W4).
unfoldable pub size_all : List Placed → ℕ → ℕ
size_all [] n = n
size_all (w ∷ ws) n = size_all ws (grow n w.at (length w.bytes))

-- The size after the cut (W5).
unfoldable pub cut_size : Option ℕ → ℕ → ℕ
cut_size none n = n
cut_size (some m) n = min m n

-- The size after a test-and-write (W7).
unfoldable pub final_size : List Write → Option ℕ → ℕ → ℕ
final_size ws cut n = cut_size cut (size_all (placed ws n) n)

-- A write's bytes below F, and old data brought to the length F: cut, or filled with zeros.
unfoldable pub clip : ℕ → Placed → Placed
clip F w = record { at = w.at; bytes = take (F - w.at) w.bytes }

unfoldable pub resize : ℕ → List ℕ → List ℕ
resize F d = take F (pad_to d F)
