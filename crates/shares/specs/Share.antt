-- What the checker answers for a share's bytes, and for a container that holds a share as its data (S35 to S40, S52,
-- S53).
use Rattle.std.specs.Prelude.{ℕ, ◌+◌, false, cond, List, map, get_or, replicate, eqb}
use Rattle.container.specs.Data.{lent_of, data_lent}
use Rattle.share_format.specs.Bounds.{part_of}
use Rattle.share_format.specs.Header.{Edition, version_of, edition_of, bounds_of}
use Rattle.share_format.specs.Parts.{Share, read_by}
use Rattle.share_judging.specs.Judging.{share_outcome}
use Rattle.shares.specs.declared.share.Checked.{Checked}

-- The boundaries of the seven parts, counted from the start of a slice in which the share begins at byte `base`.
unfoldable pub bounds_at : ℕ → List ℕ → List ℕ
bounds_at base s = map (λ b. base + b) (bounds_of (edition_of s) s)

-- On a refusal all boundaries are 0, so that every part is empty and stands at the slice's start (S36, S52).
abbrev pub refused : Edition → ℕ → Checked
refused e n = record { number = n; edition = version_of e; bounds = replicate 8 0 }

-- The number, the edition that the first byte names, and on 0 the boundaries (S35, S52).
unfoldable pub checked_at : ℕ → List ℕ → Checked
checked_at base s =
    cond (eqb (share_outcome s) 0)
    (record { number = 0; edition = version_of (edition_of s); bounds = bounds_at base s })
    (refused (edition_of s) (share_outcome s))

-- A share by itself begins at byte 0 (S35).
unfoldable pub checked_of : List ℕ → Checked
checked_of s = checked_at 0 s

-- Part i of a share, and where in the slice it begins (S35).
unfoldable pub share_part : ℕ → List ℕ → List ℕ
share_part i s = part_of i (checked_of s).bounds s

unfoldable pub part_at : ℕ → List ℕ → ℕ
part_at i s = get_or (checked_of s).bounds i 0

-- A share as the check hands it back: the header's numbers, and the parts (S35, S40, S53).
unfoldable pub handed_back : List ℕ → Share
handed_back s = read_by (edition_of s) (checked_of s).bounds s

-- A share in a container is judged after it, so 1 or 2 comes first, and names SDMF; bounds count from its first byte
-- (S37 to S39, S52).
unfoldable pub checked_container : List ℕ → Checked
checked_container c =
    cond (eqb (lent_of c).number 0) (checked_at (lent_of c).from (data_lent c)) (refused false (lent_of c).number)

-- Part i of the share in a container, and where in the container's slice it begins (S39).
unfoldable pub container_part : ℕ → List ℕ → List ℕ
container_part i c = part_of i (checked_container c).bounds c

unfoldable pub container_part_at : ℕ → List ℕ → ℕ
container_part_at i c = get_or (checked_container c).bounds i 0
