-- Offsets, pieces, tests and replies (docs/RULES.md, T1 to T6, R1).
use Rattle.std.specs.Prelude.{ℕ, ◌-◌, Bool, true, false, cond, not, List, ◌++◌, map, length, take, drop, eqb, leb, ℤ, pos, negsuc}
use Rattle.std.proofs.Math.Option.{Option, none, some}
use Rattle.octets.specs.Numbers.{digits}
use Rattle.octets.specs.Strings.{order, join}
use Rattle.rules.specs.Requests.{Test, Read}
use Rattle.octets.specs.Lists.{is_some, or_else}

-- How an offset is resolved on data of a size. One that is not negative is a position. -(k + 1) names the position k
-- bytes before the end, so that -1 names the end; where that would be before byte 0 there is none, and row 4 applies
-- (T1).
unfoldable pub resolve : ℤ → ℕ → Option ℕ
resolve (pos n) size = some n
resolve (negsuc k) size = cond (leb k size) (some (size - k)) none

unfoldable pub resolves : ℤ → ℕ → Bool
resolves o size = is_some (resolve o size)

unfoldable pub position : ℤ → ℕ → ℕ
position o size = or_else (resolve o size) 0

-- The data from an offset on, at most so many bytes, stopping at the end of data (T2, T6).
unfoldable pub piece : List ℕ → ℤ → ℕ → List ℕ
piece d o n = take n (drop (position o (length d)) d)

-- A test and a read have their pieces alike.
unfoldable pub test_piece : List ℕ → Test → List ℕ
test_piece d t = piece d t.offset t.count

unfoldable pub read_piece : List ℕ → Read → List ℕ
read_piece d r = piece d r.offset r.count

-- What the opcodes lt, le, eq, ne, ge, gt make of -1, 0 or 1 (T4).
unfoldable pub below : ℤ → Bool
below (pos n) = false
below (negsuc k) = true

unfoldable pub level : ℤ → Bool
level (pos n) = eqb n 0
level (negsuc k) = false

unfoldable pub at_most : ℤ → Bool
at_most z = cond (below z) true (level z)

unfoldable pub decides : ℕ → ℤ → Bool
decides op z =
    cond (eqb op 1) (below z) (cond (eqb op 2) (at_most z)
    (cond (eqb op 3) (level z) (cond (eqb op 4) (not (level z))
    (cond (eqb op 5) (not (below z)) (not (at_most z))))))

-- The piece on the left, the specimen on the right (T3).
unfoldable pub holds : List ℕ → Test → Bool
holds d t = decides t.opcode (order (test_piece d t) t.specimen)

-- A reply: a table of 4-byte lengths, one for each piece, then the pieces (R1).
abbrev pub length_size : ℕ
length_size = 4

unfoldable pub reply_of : List (List ℕ) → List ℕ
reply_of ps = join (map (λ s. digits length_size (length s)) ps) ++ join ps
