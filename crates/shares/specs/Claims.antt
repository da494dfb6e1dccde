-- What is claimed of the share checks (demand 1; docs/RULES.md, D1), and of check and writers together (D8). Proved in
-- proofs/.
use Rattle.std.specs.Prelude.{◌≡◌, ℕ, suc, ◌+◌, ◌≤◌, ◌<◌, false, List, [], ◌∷◌, ◌++◌, length, take, drop}
use Rattle.container.specs.Data.{lent_of, data_lent}
use Rattle.share_format.specs.Header.{version_of, edition_of, header_size}
use Rattle.shares.specs.Share.{checked_of, share_part, part_at, checked_container, container_part, container_part_at}
use Rattle.shares.specs.Share.{handed_back}
use Rattle.octets.specs.Facts.{Among, Octets}
use Rattle.share_format.specs.Claims.{ArgumentsFit, OctetShare}
use Rattle.share_format.specs.Parts.{Share, encode}
use Rattle.share_rules.specs.Writing.{written_answer, space_after}

-- The numbers of the table for a share, and for a container that holds one.
abbrev pub share_numbers : List ℕ
share_numbers = 0 ∷ 21 ∷ 22 ∷ 23 ∷ 24 ∷ 25 ∷ 26 ∷ 27 ∷ 28 ∷ 29 ∷ []

abbrev pub container_numbers : List ℕ
container_numbers = 1 ∷ 2 ∷ share_numbers

-- The parts lie one after the other, from the header's end to the share's last byte (S34, S51).
pub record InTurn (s : List ℕ) : Type 0 where
  -- the first begins at the header's end
  pub first : part_at 0 s ≡ header_size (edition_of s)
  -- each ends where the next begins
  pub next : (i : ℕ) → i < 7 → part_at i s + length (share_part i s) ≡ part_at (suc i) s
  -- the last ends with the share
  pub last : part_at 7 s ≡ length s
  -- header and parts are the share
  pub whole :
      take (header_size (edition_of s)) s
      ++ (share_part 0 s
      ++ (share_part 1 s
      ++ (share_part 2 s
      ++ (share_part 3 s
      ++ (share_part 4 s
      ++ (share_part 5 s
      ++ share_part 6 s))))))
      ≡ s
  -- SDMF has six
  pub six : edition_of s ≡ false → share_part 6 s ≡ []

-- Demand 1 of the check of a share, of any bytes (D1).
pub record Demand1Share (s : List ℕ) : Type 0 where
  -- the call ends in a number of the table
  pub number : Among (checked_of s).number share_numbers
  -- done or refused: the edition is the one that the first byte names
  pub edition : (checked_of s).edition ≡ version_of (edition_of s)
  -- refused: every part is empty and stands at the slice's start
  pub refused : ((checked_of s).number ≡ 0 → ⊥) → (i : ℕ) → i < 7 → (share_part i s ≡ []) × (part_at i s ≡ 0)
  -- accepted: nothing stands between the parts
  pub accepted : (checked_of s).number ≡ 0 → InTurn s

-- Demand 1 of the check of the share in a container, of any bytes (D1).
pub record Demand1Container (c : List ℕ) : Type 0 where
  pub number : Among (checked_container c).number container_numbers
  -- the edition is that of the data; of a container that is refused there is none, which names SDMF
  pub edition : (checked_container c).edition ≡ version_of (edition_of (data_lent c))
  pub refused : ((checked_container c).number ≡ 0 → ⊥) → (i : ℕ) → i < 7
      → (container_part i c ≡ []) × (container_part_at i c ≡ 0)
  -- accepted: the parts of the share that the data are, as parts of the container
  pub accepted : (checked_container c).number ≡ 0 → (i : ℕ) → i < 7
      → (container_part i c ≡ share_part i (data_lent c)) × (container_part_at i c ≡ (lent_of c).from + part_at i (data_lent c))

-- Both round trips between a share's bytes and its numbers and parts, for SDMF and MDMF (D8).
pub record ShareRoundTrip : Type 0 where
  -- what a writer writes is accepted, and handed back as the same numbers and parts; an argument has 64 bits
  pub written : (x : Share) (d : List ℕ) → ArgumentsFit x → (written_answer x (length d)).number ≡ 0 →
      let s : List ℕ = take (written_answer x (length d)).length (space_after x d) in
      ((checked_of s).number ≡ 0) × (handed_back s ≡ x)
  -- what is accepted, written again from its own numbers and parts into any space that is long enough, is the same
  -- share, and the bytes behind it stay
  pub again : (s d : List ℕ) → Octets s → (checked_of s).number ≡ 0 → length s ≤ length d →
      ((written_answer (handed_back s) (length d)).number ≡ 0)
      × ((written_answer (handed_back s) (length d)).length ≡ length s)
      × (space_after (handed_back s) d ≡ s ++ drop (length s) d)
  -- numbers and parts made of bytes are written as bytes, and bytes are handed back as such
  pub octets : (x : Share) → OctetShare x → Octets (encode x)
  pub octet_parts : (s : List ℕ) → Octets s → (checked_of s).number ≡ 0 → OctetShare (handed_back s)
