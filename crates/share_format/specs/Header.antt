-- The two editions of a share and their headers, field by field (docs/RULES.md, S1 to S15, S34, S45 to S51).
use Rattle.std.specs.Prelude.{ℕ, ◌+◌, ◌*◌, Bool, true, false, cond, ◌&&◌, List, [], ◌∷◌, ◌++◌, map, eqb, take, drop, get_or}
use Rattle.octets.specs.Numbers.{number_at, digits, fits}

-- SDMF is false, MDMF is true; what is SDMF's stands first (S45).
abbrev pub Edition : Type 0
Edition = Bool

abbrev pub by_edition : {A : Type 0} → Edition → A → A → A
by_edition e small large = cond e large small

-- The version byte of an edition, and the edition that a version byte names: any but 1 names SDMF (S1, S45).
abbrev pub version_of : Edition → ℕ
version_of e = by_edition e 0 1

abbrev pub version : List ℕ → ℕ
version s = get_or s 0 0

unfoldable pub edition_of : List ℕ → Edition
edition_of s = eqb (version s) 1

-- The sizes of the fields: a hash, which R is; a salt, which IV is, and MDMF's header has none; sequence number,
-- segment size and data length; SDMF's first four offsets; all others (S2 to S14, S46 to S50).
abbrev pub hash_size : ℕ
hash_size = 32

abbrev pub salt_size : ℕ
salt_size = 16

abbrev pub iv_size : Edition → ℕ
iv_size e = by_edition e salt_size 0

abbrev pub number_size : ℕ
number_size = 8

abbrev pub offset_size : ℕ
offset_size = 4

abbrev pub far_offset_size : ℕ
far_offset_size = 8

-- The table: where each field begins, after the version's byte; R is `root`, k is `required`, N is `total` (S2 to S8,
-- S46 to S49).
abbrev pub sequence_at : ℕ
sequence_at = 1

abbrev pub root_at : ℕ
root_at = sequence_at + number_size

abbrev pub iv_at : ℕ
iv_at = root_at + hash_size

abbrev pub required_at : Edition → ℕ
required_at e = iv_at + iv_size e

abbrev pub total_at : Edition → ℕ
total_at e = required_at e + 1

abbrev pub segment_at : Edition → ℕ
segment_at e = total_at e + 1

abbrev pub length_at : Edition → ℕ
length_at e = segment_at e + number_size

-- The sizes of the offsets, one behind the other, where the first is, and where the header ends (S9 to S15, S50, S51).
abbrev pub offset_sizes : Edition → List ℕ
offset_sizes e =
    by_edition e
    (offset_size ∷ offset_size ∷ offset_size ∷ offset_size ∷ far_offset_size ∷ far_offset_size ∷ [])
    (far_offset_size ∷ far_offset_size ∷ far_offset_size ∷ far_offset_size
    ∷ far_offset_size ∷ far_offset_size ∷ far_offset_size ∷ far_offset_size ∷ [])

abbrev pub offsets_at : Edition → ℕ
offsets_at e = length_at e + number_size

abbrev pub header_size : Edition → ℕ
header_size e = offsets_at e + by_edition e (4 * offset_size + 2 * far_offset_size) (8 * far_offset_size)

-- What the fields hold (S2 to S8, S46 to S49).
abbrev pub sequence : List ℕ → ℕ
sequence s = number_at number_size sequence_at s

abbrev pub root : List ℕ → List ℕ
root s = take hash_size (drop root_at s)

abbrev pub iv : Edition → List ℕ → List ℕ
iv e s = take (iv_size e) (drop iv_at s)

abbrev pub required : Edition → List ℕ → ℕ
required e s = get_or s (required_at e) 0

abbrev pub total : Edition → List ℕ → ℕ
total e s = get_or s (total_at e) 0

abbrev pub segment_size : Edition → List ℕ → ℕ
segment_size e s = number_at number_size (segment_at e) s

abbrev pub data_length : Edition → List ℕ → ℕ
data_length e s = number_at number_size (length_at e) s

-- Numbers in fields of these sizes, one behind the other: reading them from p on, writing them, whether each fits (S9
-- to S14, S50).
unfoldable pub numbers_from : ℕ → List ℕ → List ℕ → List ℕ
numbers_from p [] s = []
numbers_from p (n ∷ ns) s = number_at n p s ∷ numbers_from (p + n) ns s

unfoldable pub digits_of : List ℕ → List ℕ → List (List ℕ)
digits_of (n ∷ ns) (v ∷ vs) = digits n v ∷ digits_of ns vs
digits_of (n ∷ ns) [] = []
digits_of [] vs = []

unfoldable pub each_fits : List ℕ → List ℕ → Bool
each_fits (n ∷ ns) (v ∷ vs) = fits n v && each_fits ns vs
each_fits (n ∷ ns) [] = true
each_fits [] vs = true

-- The offsets as they stand in the header (S9 to S14, S50).
unfoldable pub offsets_of : Edition → List ℕ → List ℕ
offsets_of e s = numbers_from (offsets_at e) (offset_sizes e) s

-- The boundaries of seven parts (S34, S51). SDMF's first is its header's end, which no offset says; it has no seventh
-- part, so its end stands twice.
unfoldable pub bounds_of : Edition → List ℕ → List ℕ
bounds_of false s = header_size false ∷ (offsets_of false s ++ (get_or (offsets_of false s) 5 0 ∷ []))
bounds_of true s = offsets_of true s

-- The boundaries that the header says, by their numbers: SDMF's all but the first, and its end once (S9 to S14, S50).
abbrev pub told : Edition → List ℕ
told e = by_edition e (1 ∷ 2 ∷ 3 ∷ 4 ∷ 5 ∷ 6 ∷ []) (0 ∷ 1 ∷ 2 ∷ 3 ∷ 4 ∷ 5 ∷ 6 ∷ 7 ∷ [])

unfoldable pub told_of : Edition → List ℕ → List ℕ
told_of e bounds = map (λ i. get_or bounds i 0) (told e)

-- The header as it is written, from top to bottom: version and numbers (S1 to S8, S45 to S49).
unfoldable pub number_fields :
    Edition → (sequence : ℕ) (root iv : List ℕ) (required total segment_size data_length : ℕ) → List (List ℕ)
number_fields e sequence root iv required total segment_size data_length =
    (version_of e ∷ [])
    ∷ digits number_size sequence
    ∷ root
    ∷ iv
    ∷ (required ∷ [])
    ∷ (total ∷ [])
    ∷ digits number_size segment_size
    ∷ digits number_size data_length ∷ []

-- Then the offsets, and whether each fits its field (S9 to S14, S50).
unfoldable pub offset_fields : Edition → List ℕ → List (List ℕ)
offset_fields e bounds = digits_of (offset_sizes e) (told_of e bounds)

unfoldable pub offsets_fit : Edition → List ℕ → Bool
offsets_fit e bounds = each_fits (offset_sizes e) (told_of e bounds)
