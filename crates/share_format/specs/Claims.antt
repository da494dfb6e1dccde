-- What the least multiple means (docs/RULES.md, S31), proved in proofs/; numbers that fit their fields; shares made of
-- bytes.
use Rattle.std.specs.Prelude.{◌≡◌, List, [], ◌∷◌, ℕ, ◌%◌, ◌^◌, ◌≤◌, ◌<◌}
use Rattle.octets.specs.Facts.{Each, Octets, Fits64}
use Rattle.share_format.specs.Parts.{Share, sdmf, mdmf, least_multiple, sequence_in, root_in, iv_in, required_in}
use Rattle.share_format.specs.Parts.{total_in, length_in, part_list}

-- m is the least multiple of k at or above n (S31).
pub record Least (k n m : ℕ) : Type 0 where
  pub multiple : m % k ≡ 0
  pub reaches : n ≤ m
  pub least : (x : ℕ) → x % k ≡ 0 → n ≤ x → m ≤ x

abbrev pub MultipleIsLeast : Type 0
MultipleIsLeast = (k n : ℕ) → 0 < k → Least k n (least_multiple k n)

-- Each number fits its field of so many bytes; what `each_fits` tests (S9 to S14, S50).
abbrev pub FitEach : List ℕ → List ℕ → Type 0
FitEach (n ∷ ns) (v ∷ vs) = (v < 256 ^ n) × FitEach ns vs
FitEach (n ∷ ns) [] = Unit {0}
FitEach [] vs = Unit {0}

-- What the types of a writer's arguments say of numbers, where no row says it (S40, S53).
abbrev pub ArgumentsFit : Share → Type 0
ArgumentsFit (sdmf x) = Fits64 x.sequence
ArgumentsFit (mdmf x) = Fits64 x.sequence × Fits64 x.data_length

-- The segment size that MDMF is given fits its field (S53).
abbrev pub GivenFits : Share → Type 0
GivenFits (sdmf x) = Unit {0}
GivenFits (mdmf x) = Fits64 x.segment_size

-- The numbers fit their fields, and the rest is made of bytes (S2 to S8, S40, S46 to S49, S53).
pub record OctetShare (x : Share) : Type 0 where
  pub sequence : Fits64 (sequence_in x)
  pub root : Octets (root_in x)
  pub iv : Octets (iv_in x)
  pub required : required_in x < 256
  pub total : total_in x < 256
  pub segment : GivenFits x
  pub data_length : Fits64 (length_in x)
  pub parts : Each Octets (part_list x)
