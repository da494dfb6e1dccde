-- The writes and cuts of a request as changes, the size that changes give and what they leave at a position.
use Rattle.std.specs.Prelude.{ℕ, ◌+◌, ◌-◌, min, Bool, false, cond, ◌&&◌, List, [], ◌∷◌, length, get_or, leb, ltb}
use Rattle.std.proofs.Math.Option.{Option, none, some}
use Rattle.rules.specs.Writing.{Placed, grow, placed}
use Rattle.rules.specs.Requests.{Request, test_write, add, renew, cancel, read}
use Rattle.octets.specs.Lists.{or_else}
use Rattle.octets.specs.Last.{last_said}

-- Whether position i stands from a on and before b.
abbrev pub within : ℕ → ℕ → ℕ → Bool
within a b i = leb a i && ltb i b

-- Whether a write of k bytes at a position covers position i (docs/RULES.md, H12).
unfoldable pub covers : ℕ → ℕ → ℕ → Bool
covers at k i = within at (at + k) i

-- A write of bytes at a position, or a cut to a new length (H10).
pub data Change : Type 0 where
  wrote : ℕ → List ℕ → Change
  cut_at : ℕ → Change

-- Whether a change writes position i (H12).
abbrev pub writes_at : ℕ → Change → Bool
writes_at i (wrote at bs) = covers at (length bs) i
writes_at i (cut_at m) = false

-- The size: a write that is not empty raises it to position plus length, a cut lowers it to the new length (H11).
unfoldable pub size_by : Change → ℕ → ℕ
size_by (wrote at bs) n = grow n at (length bs)
size_by (cut_at m) n = min m n

unfoldable pub size_after : List Change → ℕ → ℕ
size_after [] n = n
size_after (o ∷ os) n = size_after os (size_by o n)

-- What one change says of a position: a write over it its byte, a cut at or below it zero, any other nothing (H12).
unfoldable pub says : ℕ → Change → Option ℕ
says i (wrote at bs) = cond (covers at (length bs) i) (some (get_or bs (i - at) 0)) none
says i (cut_at m) = cond (leb m i) (some 0) none

-- The byte at a position: what the last change that says anything says, otherwise the byte b that was there (H12, H14).
unfoldable pub byte_over : List Change → ℕ → ℕ → ℕ
byte_over os i b = or_else (last_said (says i) os) b

-- On data that begins empty the byte that was there is zero (H12).
unfoldable pub byte_after : List Change → ℕ → ℕ
byte_after os i = byte_over os i 0

-- A request's changes on data of a size: its writes in order, then its cut (H10).
unfoldable pub cut_change : Option ℕ → List Change
cut_change none = []
cut_change (some n) = cut_at n ∷ []

unfoldable pub write_changes : List Placed → List Change → List Change
write_changes [] os = os
write_changes (w ∷ ws) os = wrote w.at w.bytes ∷ write_changes ws os

unfoldable pub changes_of : Option Request → ℕ → List Change
changes_of none n = []
changes_of (some (test_write k ts ws cut)) n = write_changes (placed ws n) (cut_change cut)
changes_of (some (add r)) n = []
changes_of (some (renew t x)) n = []
changes_of (some (cancel t)) n = []
changes_of (some (read rs)) n = []
