-- Outcomes 21 to 29 of a share, for both editions (docs/RULES.md, S21 to S30).
use Rattle.std.specs.Prelude.{ℕ, Bool, not, ◌&&◌, List, [], ◌∷◌, ◌++◌, length, get_or, eqb, ltb}
use Rattle.octets.specs.Rows.{Row, row, first_row}
use Rattle.share_format.specs.Bounds.{part_of}
use Rattle.share_format.specs.Header.{Edition, edition_of, header_size, version, sequence, required, total}
use Rattle.share_format.specs.Header.{segment_size, data_length, bounds_of}
use Rattle.share_format.specs.Parts.{chain_part, tree_part, share_data_part}
use Rattle.share_numbers.specs.Coding.{coding_ok, segment_ok}
use Rattle.share_numbers.specs.Order.{placed_ok}
use Rattle.share_contents.specs.Contents.{content_rows}

-- Row 25: the boundaries are in their places, and the end is the byte length.
unfoldable pub ordered : Edition → List ℕ → Bool
ordered e s = placed_ok e (bounds_of e s) && eqb (get_or (bounds_of e s) 7 0) (length s)

-- Rows 21 to 24 need no offset.
unfoldable pub head_rows : Edition → List ℕ → List Row
head_rows e s =
    row 21 (ltb (length s) (header_size e))
    ∷ row 22 (ltb 1 (version s))
    ∷ row 23 (not (coding_ok (required e s) (total e s)))
    ∷ row 24 (not (segment_ok e (segment_size e s) (required e s) (data_length e s))) ∷ []

-- Rows 26 to 29, of the parts between these boundaries.
unfoldable pub laid_rows : Edition → List ℕ → List ℕ → List Row
laid_rows e bounds s =
    content_rows e (sequence s) (required e s) (total e s) (segment_size e s) (data_length e s)
    (part_of (chain_part e) bounds s) (part_of (tree_part e) bounds s) (part_of (share_data_part e) bounds s)

-- Rows 25 to 29, from the order of the offsets on.
unfoldable pub body_rows : Edition → List ℕ → List Row
body_rows e s = row 25 (not (ordered e s)) ∷ laid_rows e (bounds_of e s) s

-- The lowest number that applies (S30).
unfoldable pub share_outcome : List ℕ → ℕ
share_outcome s = first_row (head_rows (edition_of s) s ++ body_rows (edition_of s) s)
