-- The round trip from the bytes: a share that is accepted is writable into any space that has room for it, and is
-- written as it was, for both editions. Assumes nothing.
use mathlib.Core.Path.{◌≡◌, refl, sym, ap, ◌∙◌}
use mathlib.Core.Bool.{Bool, true, false}
use mathlib.Core.List.{List, [], ◌∷◌, ◌++◌, append_assoc}
use Prim.Native.Nat.{ℕ, suc, ◌+◌, ◌-◌, ◌≤◌, ◌<◌}
use native.Mathlib.Nat.{sub_self}
use native.Mathlib.Omega.{arith}
use lib.Dec.{eqb}
use lib.ListN.{length, take, drop, get_or, length-drop}
use lib.Seq.{drop-cons, length-take-le}
use borrow.Author.Tests.{eqb-true, eqb-false, eq-eqb, ltb-false, not-false}
use Rattle.octets.specs.Facts.{Octets}
use Rattle.octets.specs.Numbers.{number_at, digits}
use Rattle.octets.specs.Rows.{first_row}
use Rattle.octets.specs.Strings.{join}
use Rattle.octets.proofs.ListLaws.{field_then}
use Rattle.octets.proofs.NumberLaws.{digits_at, number_at-below}
use Rattle.octets.proofs.RowLaws.{clear}
use Rattle.octets.proofs.StringLaws.{octets_take, octets_drop}
use Rattle.share_format.specs.Bounds.{in_order, part_of}
use Rattle.share_format.specs.Claims.{OctetShare}
use Rattle.share_format.specs.Header.{Edition, version_of, version, edition_of, sequence_at, root_at, iv_at, required_at}
use Rattle.share_format.specs.Header.{total_at, segment_at, length_at, hash_size, iv_size, number_size, offset_sizes}
use Rattle.share_format.specs.Header.{offsets_at}
use Rattle.share_format.specs.Header.{header_size, sequence, root, iv, required, total, segment_size, data_length}
use Rattle.share_format.specs.Header.{numbers_from, offsets_of, bounds_of, told_of, number_fields, offset_fields, offsets_fit}
use Rattle.share_format.specs.Parts.{Share, edition_in, sequence_in, root_in, iv_in, required_in, total_in, segment_in}
use Rattle.share_format.specs.Parts.{length_in, chain_in, tree_in, share_data_in, part_list, read_by, share_of}
use Rattle.share_format.specs.Parts.{places_of, share_length, encode, chain_part, tree_part, share_data_part}
use Rattle.share_numbers.specs.Coding.{coding_ok, segment_ok}
use Rattle.share_numbers.specs.Order.{least_sizes, placed_ok}
use Rattle.share_judging.specs.Judging.{ordered, head_rows, laid_rows, body_rows, share_outcome}
use Rattle.share_format.proofs.BoundLaws.{last_of}
use Rattle.share_format.proofs.HeaderLaws.{fits_64, offsets_fit_lem, sizes_sum, numbers_again, numbers_fit}
use Rattle.share_format.proofs.PackedLaws.{parts_between, between-packed, between_join}
use Rattle.share_judging.proofs.JudgingLaws.{order_facts}
use Rattle.share_numbers.proofs.OrderLaws.{placed-tail, placed-order, placed_last}
use Rattle.share_rules.specs.Claims.{Writable}
use Rattle.share_rules.specs.Writing.{sizes_ok, segment_fits, bounds_fit}
use Rattle.share_rules.proofs.WritingLaws.{share_joined, done, writable}
use Rattle.share_rules.proofs.WrittenBack.{numbers}

-- ---- what holds where no row applies
record Accepted (e : Edition) (s : List ℕ) : Type 0 where
  pub long : header_size e ≤ length s
  pub version : version s ≡ version_of e
  pub coding : coding_ok (required e s) (total e s) ≡ true
  pub segment : segment_ok e (segment_size e s) (required e s) (data_length e s) ≡ true
  pub order : ordered e s ≡ true
  pub content : first_row (laid_rows e (bounds_of e s) s) ≡ 0

-- A version below 2 is that of the edition that it names.
version_is : (v : ℕ) → v ≤ 1 → v ≡ version_of (eqb v 1)
version_is v h = go (eqb v 1) refl
  where
    go : (t : Bool) → eqb v 1 ≡ t → v ≡ version_of t
    go true e = eqb-true v 1 e
    go false e = let k = eqb-false v 1 e in below_one k
      where
        below_one : (v ≡ 1 → ⊥) → v ≡ 0
        below_one k = omega arith

accepted : (s : List ℕ) → share_outcome s ≡ 0 → Accepted (edition_of s) s
unfolding share_outcome head_rows body_rows edition_of
accepted s z =
    let a = clear 21 _ _ (omega arith) z in
    let b = clear 22 _ _ (omega arith) a.1 in
    let c = clear 23 _ _ (omega arith) b.1 in
    let d = clear 24 _ _ (omega arith) c.1 in
    let f = clear 25 _ _ (omega arith) d.1 in
    record {
      long = ltb-false _ _ a.0;
      version = version_is (version s) (ltb-false _ _ b.0);
      coding = not-false _ c.0;
      segment = not-false _ d.0;
      order = not-false _ f.0;
      content = f.1;
    }

-- ---- what reading gives
-- A field of one byte.
byte_at : (c : List ℕ) (a : ℕ) → a < length c → take 1 (drop a c) ≡ get_or c a 0 ∷ []
byte_at c a h = rw (drop-cons c a 0 h)

-- The numbers of what is read.
record Reads (e : Edition) (bs s : List ℕ) : Type 0 where
  pub edition : edition_in (read_by e bs s) ≡ e
  pub sequence : sequence_in (read_by e bs s) ≡ sequence s
  pub root : root_in (read_by e bs s) ≡ root s
  pub iv : iv_in (read_by e bs s) ≡ iv e s
  pub required : required_in (read_by e bs s) ≡ required e s
  pub total : total_in (read_by e bs s) ≡ total e s
  pub length : length_in (read_by e bs s) ≡ data_length e s
  pub chain : chain_in (read_by e bs s) ≡ part_of (chain_part e) bs s
  pub tree : tree_in (read_by e bs s) ≡ part_of (tree_part e) bs s
  pub share_data : share_data_in (read_by e bs s) ≡ part_of (share_data_part e) bs s

reads : (e : Edition) (bs s : List ℕ) → Reads e bs s
unfolding read_by
reads false bs s =
    record {
      edition = refl;
      sequence = refl;
      root = refl;
      iv = refl;
      required = refl;
      total = refl;
      length = refl;
      chain = refl;
      tree = refl;
      share_data = refl;
    }
reads true bs s =
    record {
      edition = refl;
      sequence = refl;
      root = refl;
      iv = refl;
      required = refl;
      total = refl;
      length = refl;
      chain = refl;
      tree = refl;
      share_data = refl;
    }

segment_read : (e : Edition) (bs s : List ℕ) → segment_ok e (segment_size e s) (required e s) (data_length e s) ≡ true
    → segment_in (read_by e bs s) ≡ segment_size e s
unfolding read_by segment_ok
segment_read false bs s h = sym (eqb-true _ _ h)
segment_read true bs s h = refl

-- The parts that are read are those between the boundaries; SDMF's seventh is empty.
parts_read : (e : Edition) (s : List ℕ)
    → part_list (read_by e (bounds_of e s) s) ≡ parts_between (get_or (bounds_of e s) 0 0) (drop 1 (bounds_of e s)) s
unfolding read_by part_list bounds_of offsets_of numbers_from part_of parts_between
parts_read false s = rw (sub_self)
parts_read true s = refl

-- The offsets are those that the boundaries tell.
told-read : (e : Edition) (s : List ℕ) → told_of e (bounds_of e s) ≡ offsets_of e s
unfolding told_of bounds_of offsets_of numbers_from
told-read false s = refl
told-read true s = refl

octets_part : (i : ℕ) (bounds s : List ℕ) → Octets s → Octets (part_of i bounds s)
unfolding part_of
octets_part i bounds s o =
    let a : ℕ = get_or bounds i 0 in
    octets_take (get_or bounds (suc i) 0 - a) (drop a s) (octets_drop a s o)

octets_none : Octets []
octets_none i = omega arith

octets_read : (e : Edition) (bs s : List ℕ) → Octets s → OctetShare (read_by e bs s)
unfolding read_by part_list
octets_read false bs s o =
    record {
      sequence = number_at-below number_size sequence_at s o;
      root = octets_take hash_size (drop root_at s) (octets_drop root_at s o);
      iv = octets_take (iv_size false) (drop iv_at s) (octets_drop iv_at s o);
      required = o (required_at false);
      total = o (total_at false);
      segment = tt;
      data_length = number_at-below number_size (length_at false) s o;
      parts =
          let p : (i : ℕ) → Octets (part_of i bs s) = λ i. octets_part i bs s o in
          (p 0, (p 1, (p 2, (p 3, (p 4, (p 5, (octets_none, tt)))))));
    }
octets_read true bs s o =
    record {
      sequence = number_at-below number_size sequence_at s o;
      root = octets_take hash_size (drop root_at s) (octets_drop root_at s o);
      iv = octets_none;
      required = o (required_at true);
      total = o (total_at true);
      segment = number_at-below number_size (segment_at true) s o;
      data_length = number_at-below number_size (length_at true) s o;
      parts =
          let p : (i : ℕ) → Octets (part_of i bs s) = λ i. octets_part i bs s o in
          (p 0, (p 1, (p 2, (p 3, (p 4, (p 5, (p 6, tt)))))));
    }

pub octets_share : (s : List ℕ) → Octets s → OctetShare (share_of s)
unfolding share_of
octets_share s o = octets_read (edition_of s) (bounds_of (edition_of s) s) s o

-- ---- the bytes again
-- Fields one after the other before a rest.
unfoldable spread : List (List ℕ) → List ℕ → List ℕ
spread [] t = t
spread (b ∷ bs) t = b ++ spread bs t

join-spread : (bs : List (List ℕ)) (t : List ℕ) → join bs ++ t ≡ spread bs t
unfolding join spread
join-spread [] t = refl
join-spread (b ∷ bs) t = append_assoc b (join bs) t ∙ ap (λ (l : List ℕ). b ++ l) (join-spread bs t)

module _ (e : Edition) (s : List ℕ) (f : Accepted e s) where
  abbrev bs : List ℕ
  bs = bounds_of e s

  abbrev x : Share
  x = read_by e bs s

  r : Reads e bs s
  r = reads e bs s

  placed : placed_ok e bs ≡ true
  placed = (order_facts e s f.order).0

  ends : get_or bs 7 0 ≡ length s
  ends = (order_facts e s f.order).1

  tail : bs ≡ header_size e ∷ drop 1 bs
  tail = placed-tail e bs s placed ends

  order : in_order (least_sizes e) (header_size e) (drop 1 bs) ≡ true
  order = placed-order e bs s placed ends

  last : last_of (header_size e) (drop 1 bs) ≡ length s
  last = placed_last e bs s placed ends

  parts_are : part_list x ≡ parts_between (header_size e) (drop 1 bs) s
  parts_are =
      let h : get_or bs 0 0 ≡ header_size e = ap (λ (l : List ℕ). get_or l 0 0) tail in
      parts_read e s ∙ ap (λ (a : ℕ). parts_between a (drop 1 bs) s) h

  places_are : places_of x ≡ bs
  unfolding places_of
  places_are =
      rw (r.edition, parts_are) (between-packed (least_sizes e) (header_size e) (drop 1 bs) s order last ∙ sym tail)

  parts_joined : join (part_list x) ≡ drop (header_size e) s
  parts_joined = ap join parts_are ∙ between_join (least_sizes e) (header_size e) (drop 1 bs) s order last

  size_again : share_length x ≡ length s
  size_again = rw (share_joined x, r.edition, parts_joined, length-drop) (omega (arith, f.long))

  segment_is : segment_in x ≡ segment_size e s
  segment_is = segment_read e bs s f.segment

  offsets_are : Octets s
      → drop (offsets_at e) s ≡ join (offset_fields (edition_in x) (places_of x)) ++ drop (header_size e) s
  unfolding offset_fields offsets_of
  offsets_are o =
      rw (r.edition, places_are, told-read e s, ← sizes_sum e)
      (numbers_again s (offsets_at e) (offset_sizes e) o (omega (arith, sizes_sum e, f.long)))

  numbers_are : Octets s → s ≡ join (numbers x) ++ drop (offsets_at e) s
  unfolding number_fields spread
  numbers_are o =
      let number : (a : ℕ) → a + number_size ≤ header_size e
      → take number_size (drop a s) ≡ digits number_size (number_at number_size a s) =
      λ a h. digits_at s number_size a (number_at number_size a s) (omega (arith, f.long)) o refl in
      let byte : (a : ℕ) → a < header_size e → take 1 (drop a s) ≡ get_or s a 0 ∷ [] =
      λ a h. byte_at s a (omega (arith, f.long)) in
      let first : take 1 s ≡ version_of e ∷ [] =
      byte 0 (omega arith) ∙ ap (λ (v : ℕ). v ∷ []) f.version in
      let l = field_then s (length_at e) number_size (offsets_at e) _ _ refl (number (length_at e) (omega arith)) refl in
      let g = field_then s (segment_at e) number_size (length_at e) _ _ refl (number (segment_at e) (omega arith)) l in
      let n = field_then s (total_at e) 1 (segment_at e) _ _ refl (byte (total_at e) (omega arith)) g in
      let k = field_then s (required_at e) 1 (total_at e) _ _ refl (byte (required_at e) (omega arith)) n in
      let i = field_then s iv_at (iv_size e) (required_at e) _ _ refl refl k in
      let h = field_then s root_at hash_size iv_at _ _ refl refl i in
      let q = field_then s sequence_at number_size root_at _ _ refl (number sequence_at (omega arith)) h in
      rw (r.edition, r.sequence, r.root, r.iv, r.required, r.total, segment_is, r.length)
      (field_then s 0 1 sequence_at _ _ refl first q ∙ sym (join-spread _ (drop (offsets_at e) s)))

  bytes_again : Octets s → encode x ≡ s
  unfolding encode
  bytes_again o =
      ap (λ (l : List ℕ). join (numbers x) ++ (join (offset_fields (edition_in x) (places_of x)) ++ l)) parts_joined
      ∙ ap (λ (l : List ℕ). join (numbers x) ++ l) (sym (offsets_are o))
      ∙ sym (numbers_are o)

  -- ---- the writer's rows
  sizes_again : sizes_ok (edition_in x) (root_in x) (iv_in x) ≡ true
  unfolding sizes_ok
  sizes_again =
      let h : length (root s) ≡ hash_size =
      length-take-le hash_size (drop root_at s) (rw length-drop (omega (arith, f.long))) in
      let i : length (iv e s) ≡ iv_size e =
      length-take-le (iv_size e) (drop iv_at s) (rw length-drop (omega (arith, f.long))) in
      rw (r.edition, r.root, r.iv, eq-eqb _ _ h, eq-eqb _ _ i)

  fit_again : Octets s → offsets_fit (edition_in x) (places_of x) ≡ true
  unfolding offsets_of
  fit_again o =
      rw (r.edition, places_are)
      (offsets_fit_lem e bs (rw (told-read e s) (numbers_fit s (offsets_at e) (offset_sizes e) o)))

  writable_again : (n : ℕ) → Octets s → length s ≤ n → Writable x n
  unfolding segment_fits bounds_fit laid_rows
  writable_again n o h =
      writable x n (done x n (record {
        sizes = sizes_again;
        room = rw size_again h;
        coding = rw (r.required, r.total) f.coding;
        segment =
            rw (
              r.edition,
              segment_is,
              r.required,
              r.length,
              fits_64 (segment_size e s) (number_at-below number_size (segment_at e) s o),
            )
            f.segment;
        placed = rw (fit_again o, r.edition, places_are, placed);
        content =
            rw (
              r.edition,
              r.sequence,
              r.required,
              r.total,
              segment_is,
              r.length,
              r.chain,
              r.tree,
              r.share_data,
            )
            f.content;
      }))

-- What is accepted is writable into any space that has room for it, and is written as it was.
pub read_again : (s : List ℕ) (n : ℕ) → Octets s → share_outcome s ≡ 0 → length s ≤ n
    → Writable (share_of s) n × (encode (share_of s) ≡ s) × (share_length (share_of s) ≡ length s)
unfolding share_of
read_again s n o z h =
    let e : Edition = edition_of s in
    let f = accepted s z in
    (writable_again e s f n o h, bytes_again e s f o, size_again e s f)
