-- A share as numbers and parts (docs/RULES.md, S40, S41, S53): what reading gives, and the bytes that they determine.
use Rattle.std.specs.Prelude.{ℕ, ◌+◌, ◌-◌, ◌%◌, true, false, cond, List, [], ◌∷◌, ◌++◌, map, eqb, length}
use Rattle.octets.specs.Lists.{sum}
use Rattle.octets.specs.Strings.{join}
use Rattle.share_format.specs.Bounds.{part_of, packed}
use Rattle.share_format.specs.Header.{Edition, by_edition, edition_of, header_size, sequence, root, iv, required}
use Rattle.share_format.specs.Header.{total, segment_size, data_length, bounds_of, number_fields, offset_fields}

-- SDMF: sequence number, R, IV, k, N, data length; then the six parts, in the order in which they lie (S40).
pub record Sdmf : Type 0 where
  pub sequence : ℕ
  pub root : List ℕ
  pub iv : List ℕ
  pub required : ℕ
  pub total : ℕ
  pub data_length : ℕ
  pub key : List ℕ
  pub signature : List ℕ
  pub chain : List ℕ
  pub tree : List ℕ
  pub share_data : List ℕ
  pub private_key : List ℕ

-- MDMF: sequence number, R, k, N, segment size, data length; then the seven parts, in their order (S53).
pub record Mdmf : Type 0 where
  pub sequence : ℕ
  pub root : List ℕ
  pub required : ℕ
  pub total : ℕ
  pub segment_size : ℕ
  pub data_length : ℕ
  pub private_key : List ℕ
  pub chain : List ℕ
  pub signature : List ℕ
  pub key : List ℕ
  pub spare : List ℕ
  pub share_data : List ℕ
  pub tree : List ℕ

pub data Share : Type 0 where
  sdmf : Sdmf → Share
  mdmf : Mdmf → Share

-- The least multiple of k at or above n (S31).
unfoldable pub least_multiple : ℕ → ℕ → ℕ
least_multiple k n = cond (eqb (n % k) 0) n (n - n % k + k)

-- The numbers of a share of either edition. MDMF has no IV; SDMF's segment size is the least multiple of k at or above
-- the data length (S41).
abbrev pub edition_in : Share → Edition
edition_in (sdmf x) = false
edition_in (mdmf x) = true

abbrev pub sequence_in : Share → ℕ
sequence_in (sdmf x) = x.sequence
sequence_in (mdmf x) = x.sequence

abbrev pub root_in : Share → List ℕ
root_in (sdmf x) = x.root
root_in (mdmf x) = x.root

abbrev pub iv_in : Share → List ℕ
iv_in (sdmf x) = x.iv
iv_in (mdmf x) = []

abbrev pub required_in : Share → ℕ
required_in (sdmf x) = x.required
required_in (mdmf x) = x.required

abbrev pub total_in : Share → ℕ
total_in (sdmf x) = x.total
total_in (mdmf x) = x.total

abbrev pub segment_in : Share → ℕ
segment_in (sdmf x) = least_multiple x.required x.data_length
segment_in (mdmf x) = x.segment_size

abbrev pub length_in : Share → ℕ
length_in (sdmf x) = x.data_length
length_in (mdmf x) = x.data_length

-- Its parts: three that are never empty, three that the rows look into, and all, in the order in which they lie. SDMF
-- has no spare bytes, so its seventh part is empty (S34, S51).
abbrev pub key_in : Share → List ℕ
key_in (sdmf x) = x.key
key_in (mdmf x) = x.key

abbrev pub signature_in : Share → List ℕ
signature_in (sdmf x) = x.signature
signature_in (mdmf x) = x.signature

abbrev pub private_key_in : Share → List ℕ
private_key_in (sdmf x) = x.private_key
private_key_in (mdmf x) = x.private_key

abbrev pub chain_in : Share → List ℕ
chain_in (sdmf x) = x.chain
chain_in (mdmf x) = x.chain

abbrev pub tree_in : Share → List ℕ
tree_in (sdmf x) = x.tree
tree_in (mdmf x) = x.tree

abbrev pub share_data_in : Share → List ℕ
share_data_in (sdmf x) = x.share_data
share_data_in (mdmf x) = x.share_data

unfoldable pub part_list : Share → List (List ℕ)
part_list (sdmf x) = x.key ∷ x.signature ∷ x.chain ∷ x.tree ∷ x.share_data ∷ x.private_key ∷ [] ∷ []
part_list (mdmf x) = x.private_key ∷ x.chain ∷ x.signature ∷ x.key ∷ x.spare ∷ x.share_data ∷ x.tree ∷ []

-- Which part has which name (S34, S51).
abbrev pub key_part : Edition → ℕ
key_part e = by_edition e 0 3

abbrev pub signature_part : Edition → ℕ
signature_part e = by_edition e 1 2

abbrev pub chain_part : Edition → ℕ
chain_part e = by_edition e 2 1

abbrev pub tree_part : Edition → ℕ
tree_part e = by_edition e 3 6

abbrev pub share_data_part : Edition → ℕ
share_data_part e = by_edition e 4 5

abbrev pub private_key_part : Edition → ℕ
private_key_part e = by_edition e 5 0

abbrev pub spare_part : Edition → ℕ
spare_part e = by_edition e 6 4

-- Reading a share whose parts have these boundaries, and one whose header says where they lie (S40, S53).
unfoldable pub read_by : Edition → List ℕ → List ℕ → Share
read_by false bounds s =
    sdmf (record {
      sequence = sequence s;
      root = root s;
      iv = iv false s;
      required = required false s;
      total = total false s;
      data_length = data_length false s;
      key = part_of (key_part false) bounds s;
      signature = part_of (signature_part false) bounds s;
      chain = part_of (chain_part false) bounds s;
      tree = part_of (tree_part false) bounds s;
      share_data = part_of (share_data_part false) bounds s;
      private_key = part_of (private_key_part false) bounds s;
    })
read_by true bounds s =
    mdmf (record {
      sequence = sequence s;
      root = root s;
      required = required true s;
      total = total true s;
      segment_size = segment_size true s;
      data_length = data_length true s;
      private_key = part_of (private_key_part true) bounds s;
      chain = part_of (chain_part true) bounds s;
      signature = part_of (signature_part true) bounds s;
      key = part_of (key_part true) bounds s;
      spare = part_of (spare_part true) bounds s;
      share_data = part_of (share_data_part true) bounds s;
      tree = part_of (tree_part true) bounds s;
    })

unfoldable pub share_of : List ℕ → Share
share_of s = read_by (edition_of s) (bounds_of (edition_of s) s) s

-- The boundaries of the parts, packed tightly behind the header (S41).
unfoldable pub places_of : Share → List ℕ
places_of x = packed (header_size (edition_in x)) (map length (part_list x))

-- How many bytes the share has: the header's, and those of the parts (S41).
unfoldable pub share_length : Share → ℕ
share_length x = header_size (edition_in x) + sum (map length (part_list x))

-- Writing a share out: the header's numbers, its offsets, the parts (S41).
unfoldable pub encode : Share → List ℕ
encode x =
    join (number_fields (edition_in x) (sequence_in x) (root_in x) (iv_in x) (required_in x) (total_in x) (segment_in x)
    (length_in x))
    ++ (join (offset_fields (edition_in x) (places_of x))
    ++ join (part_list x))
