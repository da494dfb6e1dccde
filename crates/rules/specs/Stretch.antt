-- What a test-and-write can change, and what is claimed of all other bytes (docs/RULES.md, W9, D7). Proved in
-- proofs/Stretch.antt.
use Rattle.std.specs.Prelude.{ℕ, ◌-◌, min, max, ◌≡◌, Bool, false, ◌&&◌, List, get_or}
use Rattle.octets.specs.Facts.{Octets}
use Rattle.octets.specs.Lists.{any_of}
use Rattle.format.specs.Layout.{size_at, offset_at, leases_at, data_at, size_of, count_at, data_end, used_end}
use Rattle.rules.specs.Requests.{kind_of, request_of}
use Rattle.rules.specs.Changes.{within, writes_at, changes_of}
use Rattle.rules.specs.Outcomes.{answered, container_after}

-- Whether position i of the buffer belongs to the size field or the offset field (W9, C4, C5).
unfoldable pub in_fields : ℕ → Bool
in_fields i = within size_at leases_at i

-- Whether a write of request q on container c covers it, and it is data of the container afterwards, e (W9).
unfoldable pub in_written : List ℕ → List ℕ → List ℕ → ℕ → Bool
in_written c q e i =
    within data_at (data_end e) i && any_of (writes_at (i - data_at)) (changes_of (request_of q) (size_of c))

-- The stretch begins at the lower of the data ends before and after, and ends at the higher of the used ends (W9).
unfoldable pub stretch_from : List ℕ → List ℕ → ℕ
stretch_from c e = min (data_end c) (data_end e)

unfoldable pub stretch_to : List ℕ → List ℕ → ℕ
stretch_to c e = max (used_end c) (used_end e)

-- Of any bytes as container, request of kind 1 and reply space, where the request is done (D7).
pub record OnlyTheStretch (c q r : List ℕ) : Type 0 where
  -- a byte outside the two fields, the written bytes and the stretch is the byte that was there
  pub elsewhere : kind_of q ≡ 1 → (answered c q r).number ≡ 0 → (i : ℕ) → in_fields i ≡ false →
      in_written c q (container_after c q r) i ≡ false →
      within (stretch_from c (container_after c q r)) (stretch_to c (container_after c q r)) i ≡ false →
      get_or (container_after c q r) i 0 ≡ get_or c i 0
  -- where the size stays, so is every byte outside the written ones, of a container made of bytes
  pub still : kind_of q ≡ 1 → (answered c q r).number ≡ 0 → size_of (container_after c q r) ≡ size_of c → Octets c →
      (i : ℕ) → in_written c q (container_after c q r) i ≡ false → get_or (container_after c q r) i 0 ≡ get_or c i 0
  -- where the count stays, so is every byte outside the size field, the written ones and those that a cut frees
  pub in_place : kind_of q ≡ 1 → (answered c q r).number ≡ 0 → count_at (container_after c q r) ≡ count_at c → Octets c →
      (i : ℕ) → within size_at offset_at i ≡ false → in_written c q (container_after c q r) i ≡ false →
      within (data_end (container_after c q r)) (data_end c) i ≡ false → get_or (container_after c q r) i 0 ≡ get_or c i 0
