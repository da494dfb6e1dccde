-- Row 25, for both editions (docs/RULES.md, S25), of boundaries.
use Rattle.std.specs.Prelude.{ℕ, Bool, false, ◌&&◌, List, [], ◌∷◌, eqb}
use Rattle.share_format.specs.Bounds.{in_order}
use Rattle.share_format.specs.Header.{Edition, by_edition, header_size}

-- Row 25: from the header's end on, key, signature and private key have a byte at least, the other parts any number.
-- SDMF: header < signature < chain <= tree <= share data <= private key < end.
-- MDMF: header = private key < chain <= signature < key < key's end <= share data <= tree <= end.
abbrev pub least_sizes : Edition → List ℕ
least_sizes e =
    by_edition e (1 ∷ 1 ∷ 0 ∷ 0 ∷ 0 ∷ 1 ∷ 0 ∷ []) (1 ∷ 0 ∷ 1 ∷ 1 ∷ 0 ∷ 0 ∷ 0 ∷ [])

unfoldable pub placed_ok : Edition → List ℕ → Bool
placed_ok e [] = false
placed_ok e (a ∷ bs) = eqb a (header_size e) && in_order (least_sizes e) a bs
