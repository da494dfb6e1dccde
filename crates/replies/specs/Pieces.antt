-- The pieces that the entries of a table ask for, entry by entry. Tests and reads begin alike, with offset and length,
-- and differ in how far apart their entries stand.
use Rattle.std.specs.Prelude.{ℕ, zero, suc, ◌+◌, Bool, cond, List, [], ◌∷◌, length, Option, Some, None}
use Rattle.rules.specs.Requests.{entry_offset, entry_count, all_from}
use Rattle.rules.specs.Testing.{resolves, piece, reply_of}
use Rattle.requests.specs.declared.forms.Table.{Table}

-- The pieces of d for the n entries from p on.
unfoldable pub pieces_from : ℕ → ℕ → ℕ → List ℕ → List ℕ → List (List ℕ)
pieces_from stride zero p q d = []
pieces_from stride (suc n) p q d = piece d (entry_offset p q) (entry_count p q) ∷ pieces_from stride n (p + stride) q d

abbrev pub pieces_in : Table → List ℕ → List ℕ → List (List ℕ)
pieces_in t q d = pieces_from t.stride t.count t.first.at q d

-- Every offset resolves on data of a size.
unfoldable pub resolve_from : ℕ → ℕ → ℕ → List ℕ → ℕ → Bool
resolve_from stride n p q size = all_from (λ k. resolves (entry_offset k q) size) stride n p

-- The length of the reply to a table, if all of its offsets resolve on d.
abbrev pub measured_of : Table → List ℕ → List ℕ → Option ℕ
measured_of t q d =
    cond (resolve_from t.stride t.count t.first.at q (length d)) (Some (length (reply_of (pieces_in t q d)))) None
