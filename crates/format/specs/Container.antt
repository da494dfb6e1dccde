-- Well-formedness of a container (docs/RULES.md, F1 to F10).
use Rattle.std.specs.Prelude.{ℕ, Bool, true, cond, not, ◌&&◌, List, [], ◌∷◌, length, take, drop, eqb, leb}
use Rattle.octets.specs.Strings.{all_zero, same}
use Rattle.octets.specs.Lists.{every}
use Rattle.octets.specs.Rows.{Row, row}
use Rattle.format.specs.Layout.{magic, node_at, fixed_places, extra_limit, count_at, least, limit, extras_of}
use Rattle.format.specs.Layout.{data_end, used_end, slack_of, leases_of, owner_of}

-- Buffer length is 472 to 16,777,216 (F1).
unfoldable pub length_allowed : List ℕ → Bool
length_allowed c = leb least (length c) && leb (length c) limit

-- A place with an owner holds a lease; owner 0 means none (C20).
unfoldable pub held : List ℕ → Bool
held r = not (eqb (owner_of r) 0)

-- A record with owner 0 is zero bytes (F6).
unfoldable pub record_ok : List ℕ → Bool
record_ok r = cond (held r) true (all_zero r)

-- The last extra lease, if any, has an owner (F7).
unfoldable pub last_held : List (List ℕ) → Bool
last_held [] = true
last_held (r ∷ []) = held r
last_held (r ∷ (s ∷ rs)) = last_held (s ∷ rs)

-- The fields agree with each other and with the buffer: magic, no count before the data's end, at most 60 extras, all
-- inside (F2 to F5).
unfoldable pub fields_ok : List ℕ → Bool
fields_ok c =
    same (take node_at c) magic
    && (leb (data_end c) (count_at c)
    && (leb (extras_of c) extra_limit
    && leb (used_end c) (length c)))

-- What the fields lay out is in order: every record, the last extra, zeros after the used end and as slack (F6 to F8,
-- F10).
unfoldable pub contents_ok : List ℕ → Bool
contents_ok c =
    every record_ok (leases_of c)
    && (last_held (drop fixed_places (leases_of c))
    && (all_zero (drop (used_end c) c)
    && all_zero (take (slack_of c) (drop (data_end c) c))))

-- Well formed (F1 to F10).
unfoldable pub well_formed : List ℕ → Bool
well_formed c = length_allowed c && (fields_ok c && contents_ok c)

-- Outcomes 1 and 2 (O1, O2).
abbrev pub container_rows : List ℕ → List Row
container_rows c = row 1 (not (length_allowed c)) ∷ row 2 (not (well_formed c)) ∷ []
