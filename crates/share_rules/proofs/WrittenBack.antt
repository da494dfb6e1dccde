-- The round trip from the parts: what a writable share is written as is accepted, and read back as the same numbers and
-- parts, for both editions. Assumes nothing.
use mathlib.Core.Path.{◌≡◌, refl, sym, ap, ◌∙◌}
use mathlib.Core.Bool.{true, false}
use mathlib.Core.List.{List, [], ◌∷◌, ◌++◌, map, append_assoc, append-nil}
use Prim.Native.Nat.{ℕ, suc, ◌+◌, ◌-◌, ◌^◌, ◌≤◌, ◌<◌}
use native.Mathlib.Nat.{add-zero}
use native.Mathlib.Omega.{arith}
use lib.ListN.{length, take, drop, get_or, length-append}
use lib.Seq.{get_or-take, get_or-drop, drop_at}
use borrow.Author.Tests.{eq-eqb, le-ltb}
use Rattle.octets.specs.Facts.{Each, Octets, Fits64}
use Rattle.octets.specs.Numbers.{number, number_at, digits, fits}
use Rattle.octets.specs.Rows.{first_row}
use Rattle.octets.specs.Strings.{join}
use Rattle.octets.proofs.ListLaws.{both}
use Rattle.octets.proofs.NumberLaws.{length_digits, number_digits, octets_digits, octets_one}
use Rattle.octets.proofs.StringLaws.{octets_append, octets_join}
use Rattle.share_format.specs.Bounds.{part_of, packed}
use Rattle.share_format.specs.Claims.{ArgumentsFit, OctetShare, FitEach}
use Rattle.share_format.specs.Header.{Edition, version_of, version, edition_of, sequence_at, root_at, iv_at, required_at}
use Rattle.share_format.specs.Header.{total_at, segment_at, length_at, hash_size, iv_size, number_size, offset_sizes}
use Rattle.share_format.specs.Header.{offsets_at, header_size, sequence, root, iv, required, total, segment_size}
use Rattle.share_format.specs.Header.{data_length, offsets_of, bounds_of, told_of, number_fields, offset_fields, offsets_fit}
use Rattle.share_format.specs.Parts.{Share, sdmf, mdmf, edition_in, sequence_in, root_in, iv_in, required_in, total_in}
use Rattle.share_format.specs.Parts.{segment_in, length_in, chain_in, tree_in, share_data_in, chain_part, tree_part}
use Rattle.share_format.specs.Parts.{share_data_part, part_list, read_by, share_of, places_of, share_length, encode}
use Rattle.share_numbers.specs.Coding.{segment_ok}
use Rattle.share_numbers.specs.Order.{placed_ok}
use Rattle.share_judging.specs.Judging.{ordered, head_rows, laid_rows, body_rows, share_outcome}
use Rattle.share_format.proofs.HeaderLaws.{length-numbers, length_offsets, numbers-back, octets_each}
use Rattle.share_format.proofs.PackedLaws.{packed_part}
use Rattle.share_format.proofs.MultipleLaws.{least_multiple_lem}
use Rattle.share_judging.proofs.JudgingLaws.{outcome_body}
use Rattle.share_numbers.proofs.CodingLaws.{coding_true}
use Rattle.share_rules.specs.Claims.{Writable}
use Rattle.share_rules.specs.Writing.{segment_fits, bounds_fit}
use Rattle.share_rules.proofs.WritingLaws.{share_joined, places_end, written, Passed, passed}

-- A field of one byte.
byte_of : (c : List ℕ) (a v : ℕ) → take 1 (drop a c) ≡ v ∷ [] → get_or c a 0 ≡ v
byte_of c a v e =
    let k : a + 0 ≡ a = omega arith in
    ap (λ (i : ℕ). get_or c i 0) (sym k) ∙ sym (get_or-drop a c 0 0) ∙ sym (get_or-take 1 (drop a c) 0 0 (omega arith))
    ∙ ap (λ (l : List ℕ). get_or l 0 0) e

-- A field of n bytes that was written as a number.
number-back : (c : List ℕ) (n a v : ℕ) → take n (drop a c) ≡ digits n v → v < 256 ^ n → number_at n a c ≡ v
unfolding number_at
number-back c n a v e h = ap number e ∙ number_digits n v h

-- ---- the header's numbers
abbrev pub numbers : Share → List (List ℕ)
numbers x =
    number_fields (edition_in x) (sequence_in x) (root_in x) (iv_in x) (required_in x) (total_in x) (segment_in x) (length_in x)

-- Where they stand.
abbrev pub number_places : Edition → List ℕ
number_places e =
    0 ∷ sequence_at ∷ root_at ∷ iv_at ∷ required_at e ∷ total_at e ∷ segment_at e ∷ length_at e ∷ offsets_at e ∷ []

pub length-encode : (x : Share) → length (root_in x) ≡ hash_size → length (iv_in x) ≡ iv_size (edition_in x)
    → length (encode x) ≡ share_length x
unfolding encode
length-encode x r t =
    simp length-append (omega (
      arith,
      share_joined x,
      length-numbers (edition_in x) (sequence_in x) (root_in x) (iv_in x) (required_in x) (total_in x) (segment_in x)
          (length_in x) r t,
      length_offsets (edition_in x) (places_of x),
    ))

edition_is : (e : Edition) (c : List ℕ) → version c ≡ version_of e → edition_of c ≡ e
unfolding edition_of
edition_is false c h = rw h
edition_is true c h = rw h

module _ (x : Share) (r : length (root_in x) ≡ hash_size) (t : length (iv_in x) ≡ iv_size (edition_in x)) where
  abbrev e : Edition
  e = edition_in x

  widths : map length (numbers x)
      ≡ 1 ∷ number_size ∷ hash_size ∷ iv_size e ∷ 1 ∷ 1 ∷ number_size ∷ number_size ∷ []
  unfolding number_fields
  widths = simp (length_digits, r, t)

  numbers-packed : packed 0 (map length (numbers x)) ≡ number_places e
  unfolding packed
  numbers-packed = ap (packed 0) widths

  -- Each number stands where it is read.
  field_is : (i : ℕ) → i < 8 → part_of i (number_places e) (encode x) ≡ get_or (numbers x) i []
  unfolding encode number_fields
  field_is i h =
      ap (λ (bs : List ℕ). part_of i bs (encode x)) (sym numbers-packed)
      ∙ packed_part 0 (encode x) (join (offset_fields e (places_of x)) ++ join (part_list x)) (numbers x) i h refl

  -- The same, of n bytes.
  field_of : (i n : ℕ) → i < 8 → get_or (number_places e) (suc i) 0 - get_or (number_places e) i 0 ≡ n
      → take n (drop (get_or (number_places e) i 0) (encode x)) ≡ get_or (numbers x) i []
  unfolding part_of
  field_of i n h k = rw (← k) (field_is i h)

  version-back : version (encode x) ≡ version_of e
  unfolding part_of number_fields
  version-back = byte_of (encode x) 0 (version_of e) (field_is 0 (omega arith))

  pub edition_back : edition_of (encode x) ≡ e
  edition_back = edition_is e (encode x) version-back

  root-back : root (encode x) ≡ root_in x
  unfolding part_of number_fields
  root-back = field_is 2 (omega arith)

  iv-back : iv e (encode x) ≡ iv_in x
  unfolding part_of number_fields
  iv-back = let k : required_at e - iv_at ≡ iv_size e = omega arith in field_of 3 (iv_size e) (omega arith) k

  required-back : required e (encode x) ≡ required_in x
  unfolding part_of number_fields
  required-back =
      let k : total_at e - required_at e ≡ 1 = omega arith in
      byte_of (encode x) (required_at e) (required_in x) (field_of 4 1 (omega arith) k)

  total-back : total e (encode x) ≡ total_in x
  unfolding part_of number_fields
  total-back =
      let k : segment_at e - total_at e ≡ 1 = omega arith in
      byte_of (encode x) (total_at e) (total_in x) (field_of 5 1 (omega arith) k)

  sequence-back : Fits64 (sequence_in x) → sequence (encode x) ≡ sequence_in x
  unfolding part_of number_fields
  sequence-back h = number-back (encode x) number_size sequence_at (sequence_in x) (field_is 1 (omega arith)) h

  segment_back : Fits64 (segment_in x) → segment_size e (encode x) ≡ segment_in x
  unfolding part_of number_fields
  segment_back h =
      let k : length_at e - segment_at e ≡ number_size = omega arith in
      number-back (encode x) number_size (segment_at e) (segment_in x) (field_of 6 number_size (omega arith) k) h

  data_back : Fits64 (length_in x) → data_length e (encode x) ≡ length_in x
  unfolding part_of number_fields
  data_back h =
      let k : offsets_at e - length_at e ≡ number_size = omega arith in
      number-back (encode x) number_size (length_at e) (length_in x) (field_of 7 number_size (omega arith) k) h

  -- ---- the offsets and the parts
  behind_numbers : drop (offsets_at e) (encode x) ≡ join (offset_fields e (places_of x)) ++ join (part_list x)
  unfolding encode
  behind_numbers =
      drop_at (join (numbers x)) _ (offsets_at e)
      (length-numbers e (sequence_in x) (root_in x) (iv_in x) (required_in x) (total_in x) (segment_in x) (length_in x) r t)

  behind_header : drop (header_size e) (encode x) ≡ join (part_list x)
  unfolding encode
  behind_header =
      let a : List ℕ = join (numbers x) in
      let b : List ℕ = join (offset_fields e (places_of x)) in
      let l : length (a ++ b) ≡ header_size e =
      simp length-append (omega (
        arith,
        length-numbers e (sequence_in x) (root_in x) (iv_in x) (required_in x) (total_in x) (segment_in x) (length_in x) r t,
        length_offsets e (places_of x),
      )) in
      rw (← append_assoc a b (join (part_list x))) (drop_at (a ++ b) (join (part_list x)) (header_size e) l)

  told-length : (e : Edition) (bs : List ℕ) → length (offset_sizes e) ≡ length (told_of e bs)
  unfolding told_of
  told-length false bs = refl
  told-length true bs = refl

  offsets_back : FitEach (offset_sizes e) (told_of e (places_of x)) → offsets_of e (encode x) ≡ told_of e (places_of x)
  unfolding offsets_of offset_fields
  offsets_back f =
      numbers-back (encode x) (join (part_list x)) (offsets_at e) (offset_sizes e) (told_of e (places_of x))
      (told-length e (places_of x)) f behind_numbers

  part_back : (i : ℕ) → i < length (part_list x) → part_of i (places_of x) (encode x) ≡ get_or (part_list x) i []
  unfolding places_of
  part_back i h =
      packed_part (header_size e) (encode x) [] (part_list x) i h
      (behind_header ∙ sym (append-nil (join (part_list x))))

-- The boundaries that are told are the share's.
told_bounds : (x : Share) (c : List ℕ) → offsets_of (edition_in x) c ≡ told_of (edition_in x) (places_of x)
    → bounds_of (edition_in x) c ≡ places_of x
unfolding bounds_of told_of places_of packed part_list
told_bounds (sdmf x) c h = rw h (simp add-zero)
told_bounds (mdmf x) c h = h

bounds_back : (x : Share) (n : ℕ) → Writable x n → bounds_of (edition_in x) (encode x) ≡ places_of x
bounds_back x n w = told_bounds x (encode x) (offsets_back x w.root_size w.iv_size_holds w.offsets)

read_back : (x : Share) (n : ℕ) → Writable x n → Fits64 (sequence_in x) → Fits64 (length_in x)
    → read_by (edition_in x) (places_of x) (encode x) ≡ x
unfolding read_by part_list
read_back (sdmf x) n w q d =
    let r = w.root_size in
    let t = w.iv_size_holds in
    let p = part_back (sdmf x) r t in
    rw (
      sequence-back (sdmf x) r t q,
      root-back (sdmf x) r t,
      iv-back (sdmf x) r t,
      required-back (sdmf x) r t,
      total-back (sdmf x) r t,
      data_back (sdmf x) r t d,
    )
    (rw (
      p 0 (omega arith),
      p 1 (omega arith),
      p 2 (omega arith),
      p 3 (omega arith),
      p 4 (omega arith),
      p 5 (omega arith),
    ))
read_back (mdmf x) n w q d =
    let r = w.root_size in
    let t = w.iv_size_holds in
    let p = part_back (mdmf x) r t in
    rw (
      sequence-back (mdmf x) r t q,
      root-back (mdmf x) r t,
      required-back (mdmf x) r t,
      total-back (mdmf x) r t,
      segment_back (mdmf x) r t w.segment_fits_holds,
      data_back (mdmf x) r t d,
    )
    (rw (
      p 0 (omega arith),
      p 1 (omega arith),
      p 2 (omega arith),
      p 3 (omega arith),
      p 4 (omega arith),
      p 5 (omega arith),
      p 6 (omega arith),
    ))

-- Each of the three parts that the rows look into has its place.
chain_at : (x : Share) → get_or (part_list x) (chain_part (edition_in x)) [] ≡ chain_in x
unfolding part_list
chain_at (sdmf x) = refl
chain_at (mdmf x) = refl

tree_at : (x : Share) → get_or (part_list x) (tree_part (edition_in x)) [] ≡ tree_in x
unfolding part_list
tree_at (sdmf x) = refl
tree_at (mdmf x) = refl

data_at_lem : (x : Share) → get_or (part_list x) (share_data_part (edition_in x)) [] ≡ share_data_in x
unfolding part_list
data_at_lem (sdmf x) = refl
data_at_lem (mdmf x) = refl

below_seven : (x : Share)
    → (chain_part (edition_in x) < length (part_list x)) × (tree_part (edition_in x) < length (part_list x))
    × (share_data_part (edition_in x) < length (part_list x))
unfolding part_list
below_seven (sdmf x) = (omega arith, omega arith, omega arith)
below_seven (mdmf x) = (omega arith, omega arith, omega arith)

least-version : (e : Edition) → version_of e ≤ 1
least-version false = omega arith
least-version true = omega arith

-- ---- the rows, of a share that is writable
module _ (x : Share) (n : ℕ) (w : Writable x n) (q : Fits64 (sequence_in x)) (d : Fits64 (length_in x)) where
  abbrev g : Edition
  g = edition_in x

  abbrev c : List ℕ
  c = encode x

  rows_passed : Passed x n
  rows_passed = passed x n (written x n w)

  order-back : ordered g c ≡ true
  unfolding ordered bounds_fit
  order-back =
      let b = bounds_back x n w in
      let l = length-encode x w.root_size w.iv_size_holds in
      let p = both (placed_ok g (places_of x)) (offsets_fit g (places_of x)) rows_passed.placed in
      rw (b, p.0) (eq-eqb _ _ (places_end x ∙ sym l))

  -- Rows 21 to 24.
  head-back : first_row (head_rows g c) ≡ 0
  unfolding head_rows first_row segment_fits share_length
  head-back =
      let r = w.root_size in
      let t = w.iv_size_holds in
      let long : header_size g ≤ length c = omega (arith, length-encode x r t) in
      let v : version c ≤ 1 = rw (version-back x r t) (least-version g) in
      rw (
        le-ltb (length c) (header_size g) long,
        le-ltb 1 (version c) v,
        required-back x r t,
        total-back x r t,
        coding_true _ _ w.some_required w.enough,
        segment_back x r t w.segment_fits_holds,
        data_back x r t d,
        (both (fits number_size (segment_in x)) (segment_ok g (segment_in x) (required_in x) (length_in x))
            rows_passed.segment).1,
      )

  -- Rows 26 to 29 of the checker are the writer's.
  laid_back : first_row (laid_rows g (places_of x) c) ≡ 0
  unfolding laid_rows
  laid_back =
      let r = w.root_size in
      let t = w.iv_size_holds in
      let p = part_back x r t in
      let h = below_seven x in
      rw (
        sequence-back x r t q,
        required-back x r t,
        total-back x r t,
        segment_back x r t w.segment_fits_holds,
        data_back x r t d,
        p (chain_part g) h.0 ∙ chain_at x,
        p (tree_part g) h.1 ∙ tree_at x,
        p (share_data_part g) h.2 ∙ data_at_lem x,
      )
      rows_passed.content

  accepted-back : share_outcome c ≡ 0
  unfolding body_rows first_row
  accepted-back =
      let e = edition_back x w.root_size w.iv_size_holds in
      outcome_body c (rw e head-back) ∙ rw (e, order-back, bounds_back x n w) laid_back

  share_back : share_of c ≡ x
  unfolding share_of
  share_back =
      rw (edition_back x w.root_size w.iv_size_holds, bounds_back x n w) (read_back x n w q d)

-- What the arguments' types say of numbers, where no row says it: SDMF's data length is at most its segment size, which
-- fits.
pub data_fits : (x : Share) (n : ℕ) → Writable x n → ArgumentsFit x → Fits64 (length_in x)
data_fits (mdmf x) n w a = a.1
data_fits (sdmf x) n w a =
    omega (arith, w.segment_fits_holds, (least_multiple_lem x.required x.data_length w.some_required).reaches)

sequence-fits : (x : Share) → ArgumentsFit x → Fits64 (sequence_in x)
sequence-fits (sdmf x) a = a
sequence-fits (mdmf x) a = a.0

-- What a writable share is written as is accepted, and read back as the same numbers and parts.
pub written_back : (x : Share) (n : ℕ) → Writable x n → ArgumentsFit x
    → (share_outcome (encode x) ≡ 0) × (share_of (encode x) ≡ x)
written_back x n w a =
    let q = sequence-fits x a in
    let d = data_fits x n w a in
    (accepted-back x n w q d, share_back x n w q d)

-- ---- bytes
octets_numbers : (x : Share) → OctetShare x → Each Octets (numbers x)
unfolding number_fields
octets_numbers x o =
    let v = octets_one (version_of (edition_in x)) (omega (arith, least-version (edition_in x))) in
    let q = octets_digits number_size (sequence_in x) in
    let k = octets_one (required_in x) o.required in
    let n = octets_one (total_in x) o.total in
    let g = octets_digits number_size (segment_in x) in
    let d = octets_digits number_size (length_in x) in
    (v, (q, (o.root, (o.iv, (k, (n, (g, (d, tt))))))))

octets_offsets : (e : Edition) (bounds : List ℕ) → Each Octets (offset_fields e bounds)
unfolding offset_fields
octets_offsets e bounds = octets_each (offset_sizes e) (told_of e bounds)

pub octets_encode : (x : Share) → OctetShare x → Octets (encode x)
unfolding encode
octets_encode x o =
    let a : List ℕ = join (numbers x) in
    let b : List ℕ = join (offset_fields (edition_in x) (places_of x)) in
    let c : List ℕ = join (part_list x) in
    octets_append a (b ++ c) (octets_join (numbers x) (octets_numbers x o))
    (octets_append b c
    (octets_join (offset_fields (edition_in x) (places_of x)) (octets_offsets (edition_in x) (places_of x)))
    (octets_join (part_list x) o.parts))
