-- Writes and the cut (docs/RULES.md, W1 to W6).
use Rattle.std.specs.Prelude.{ℕ, zero, suc, ◌+◌, ◌-◌, max, Bool, true, ◌&&◌, List, [], ◌∷◌, ◌++◌, length, take, drop, replicate}
use Rattle.std.proofs.Math.Option.{Option, none, some}
use Rattle.rules.specs.Requests.{Write}
use Rattle.rules.specs.Testing.{resolves, position}

-- Zeros fill up to n (W3).
unfoldable pub pad_to : List ℕ → ℕ → List ℕ
pad_to d n = d ++ replicate (n - length d) 0

-- One write at a position: an empty one does nothing; otherwise zeros up to it, and the new bytes go in (W2, W3).
unfoldable pub write_at : List ℕ → ℕ → List ℕ → List ℕ
write_at d at [] = d
write_at d at (b ∷ bs) = (take at (pad_to d at) ++ (b ∷ bs)) ++ drop (at + suc (length bs)) d

-- The size after a write of k bytes: the larger of the old size and position plus length (W4).
unfoldable pub grow : ℕ → ℕ → ℕ → ℕ
grow n at zero = n
grow n at (suc k) = max n (at + suc k)

-- A write whose position is known (W1).
pub record Placed : Type 0 where
  pub at : ℕ
  pub bytes : List ℕ

-- The writes in order, each offset resolved on the size that those before it give (W1).
unfoldable pub placed : List Write → ℕ → List Placed
placed [] n = []
placed (w ∷ ws) n =
    record { at = position w.offset n; bytes = w.bytes }
    ∷ placed ws (grow n (position w.offset n) (length w.bytes))

unfoldable pub writes_resolve : List Write → ℕ → Bool
writes_resolve [] n = true
writes_resolve (w ∷ ws) n =
    resolves w.offset n && writes_resolve ws (grow n (position w.offset n) (length w.bytes))

unfoldable pub write_all : List Placed → List ℕ → List ℕ
write_all [] d = d
write_all (w ∷ ws) d = write_all ws (write_at d w.at w.bytes)

-- The cut follows the writes: a new length below the size cuts, a larger one does nothing (W5, W6).
unfoldable pub cut_to : Option ℕ → List ℕ → List ℕ
cut_to none d = d
cut_to (some n) d = take n d

-- The data after a test-and-write (W1 to W6).
unfoldable pub rewritten : List Write → Option ℕ → List ℕ → List ℕ
rewritten ws cut d = cut_to cut (write_all (placed ws (length d)) d)
