-- What is claimed of the share writers (docs/RULES.md, D1, D8). Proved in proofs/.
use Rattle.std.specs.Prelude.{ℕ, ◌*◌, ◌-◌, ◌/◌, ◌%◌, ◌≤◌, ◌<◌, ◌≡◌, List, [], ◌∷◌, ◌↔◌, ◌⊎◌, length, take, drop}
use Rattle.octets.specs.Facts.{Each, Distinct, Among, Fits64}
use Rattle.share_format.specs.Claims.{FitEach}
use Rattle.share_format.specs.Header.{hash_size, iv_size, offset_sizes, told_of}
use Rattle.share_contents.specs.Nodes.{depth, power, chain_entry_size, nodes_from}
use Rattle.share_format.specs.Parts.{Share, sdmf, mdmf, least_multiple, edition_in, sequence_in, root_in, iv_in, required_in}
use Rattle.share_format.specs.Parts.{total_in, segment_in, key_in, signature_in, private_key_in, chain_in, places_of}
use Rattle.share_format.specs.Parts.{share_length, encode}
use Rattle.share_contents.specs.Contents.{segments, tree_size, blocks_size, last_sequence}
use Rattle.share_rules.specs.Writing.{written_answer, space_after}

-- The writers' numbers (S42).
abbrev pub writer_numbers : List ℕ
writer_numbers = 0 ∷ 3 ∷ 7 ∷ 23 ∷ 24 ∷ 25 ∷ 26 ∷ 27 ∷ 28 ∷ 29 ∷ []

-- Demand 1 of the writers, of any numbers and parts beside any space (D1).
pub record Demand1Writer (x : Share) (d : List ℕ) : Type 0 where
  -- the call ends in a number of the table
  pub number : Among (written_answer x (length d)).number writer_numbers
  -- refused: no byte of the space changes, and the length is 0
  pub refused : ((written_answer x (length d)).number ≡ 0 → ⊥) → space_after x d ≡ d
  pub no_length : ((written_answer x (length d)).number ≡ 0 → ⊥) → (written_answer x (length d)).length ≡ 0
  -- done: the first bytes, as many as the length says, are the share
  pub share : (written_answer x (length d)).number ≡ 0 →
      take (written_answer x (length d)).length (space_after x d) ≡ encode x
  pub share_length_holds : (written_answer x (length d)).number ≡ 0 → (written_answer x (length d)).length ≡ length (encode x)
  -- done or refused: the bytes behind them stay, and so does the space's length
  pub behind : drop (written_answer x (length d)).length (space_after x d) ≡ drop (written_answer x (length d)).length d
  pub space_length : length (space_after x d) ≡ length d

-- 24: SDMF's segment size follows, so nothing is asked of it but that it fits; MDMF's is a multiple of k, and 0 only
-- without data (S54).
abbrev pub SegmentRight : Share → Type 0
SegmentRight (sdmf x) = Unit {0}
SegmentRight (mdmf x) = (x.segment_size % x.required ≡ 0) × (x.segment_size ≡ 0 → x.data_length ≡ 0)

-- 27: SDMF, one hash; without data, one or none (S27). MDMF, the tree over the segments (S56).
abbrev pub TreeRight : Share → Type 0
TreeRight (sdmf x) = (length x.tree ≡ hash_size) ⊎ ((x.data_length ≡ 0) × (length x.tree ≡ 0))
TreeRight (mdmf x) = length x.tree ≡ tree_size (segments x.data_length x.segment_size)

-- 28: SDMF, one block (S28). MDMF, a salt and a block for each segment (S57).
abbrev pub BlocksRight : Share → Type 0
BlocksRight (sdmf x) = length x.share_data ≡ least_multiple x.required x.data_length / x.required
BlocksRight (mdmf x) =
    length x.share_data ≡ blocks_size (segments x.data_length x.segment_size) x.required x.data_length

-- The writers' conditions, each by itself, for a space of n bytes (S42, S58, D8).
pub record Writable (x : Share) (n : ℕ) : Type 0 where
  -- 3: R and IV have their sizes
  pub root_size : length (root_in x) ≡ hash_size
  pub iv_size_holds : length (iv_in x) ≡ iv_size (edition_in x)
  -- 7: the space has room for header and parts
  pub room : share_length x ≤ n
  -- 23: k is neither 0 nor above N
  pub some_required : 0 < required_in x
  pub enough : required_in x ≤ total_in x
  -- 24: the segment size fits its field, and is right
  pub segment_fits_holds : Fits64 (segment_in x)
  pub segment : SegmentRight x
  -- 25: three parts are not empty, and each offset fits its field
  pub some_key : 0 < length (key_in x)
  pub some_signature : 0 < length (signature_in x)
  pub some_private_key : 0 < length (private_key_in x)
  pub offsets : FitEach (offset_sizes (edition_in x)) (told_of (edition_in x) (places_of x))
  -- 26: an entry for each level of the tree over N shares, with node numbers of it of which none repeats
  pub chain_size : length (chain_in x) ≡ chain_entry_size * depth (total_in x)
  pub nodes_below : Each (λ v. v < 2 * power (depth (total_in x)) - 1) (nodes_from (depth (total_in x)) 0 (chain_in x))
  pub nodes_differ : Distinct (nodes_from (depth (total_in x)) 0 (chain_in x))
  -- 27, 28
  pub tree_size_holds : TreeRight x
  pub block_size : BlocksRight x
  -- 29: a sequence number can follow
  pub not_last : sequence_in x ≡ last_sequence → ⊥

-- The writers are done exactly when no refusal applies (D8).
abbrev pub WritesExactly : Type 0
WritesExactly = (x : Share) (n : ℕ) → ((written_answer x n).number ≡ 0) ↔ Writable x n
