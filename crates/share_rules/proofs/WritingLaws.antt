-- The writers' rows, one by one, and that they are the conditions of `Writable`. Assumes nothing.
use mathlib.Core.Path.{◌≡◌, refl, sym, ap, ◌∙◌}
use mathlib.Core.Bool.{Bool, true, false, cond, not, ◌&&◌}
use mathlib.Core.List.{List, ◌++◌, map}
use mathlib.Core.Logic.{◌⊎◌, inl, inr}
use Prim.Native.Nat.{ℕ, ◌+◌, ◌%◌, ◌≤◌, ◌<◌}
use native.Mathlib.Omega.{arith}
use lib.Dec.{eqb, ltb}
use lib.ListN.{length, get_or}
use borrow.Author.Tests.{eqb-true, eqb-false, eq-eqb, ne_eqb, ltb-false, lt-ltb, le-ltb, not-false}
use Rattle.octets.specs.Lists.{sum}
use Rattle.octets.specs.Moves.{put}
use Rattle.octets.specs.Rows.{first_row}
use Rattle.octets.specs.Strings.{join}
use Rattle.octets.proofs.ListLaws.{both}
use Rattle.octets.proofs.RowLaws.{clear}
use Rattle.octets.proofs.StringLaws.{length-join}
use Rattle.share_format.specs.Bounds.{packed}
use Rattle.share_format.specs.Header.{Edition, hash_size, iv_size, header_size, number_fields, offset_fields, offsets_fit}
use Rattle.share_format.specs.Parts.{Share, sdmf, mdmf, edition_in, sequence_in, root_in, iv_in, required_in}
use Rattle.share_format.specs.Parts.{total_in, segment_in, length_in, key_in, signature_in, private_key_in, chain_in, tree_in}
use Rattle.share_format.specs.Parts.{share_data_in, part_list, places_of, share_length, encode}
use Rattle.share_numbers.specs.Coding.{coding_ok, segment_ok}
use Rattle.share_numbers.specs.Order.{least_sizes, placed_ok}
use Rattle.share_contents.specs.Contents.{chain_ok, tree_ok, blocks_ok, content_rows}
use Rattle.share_format.proofs.HeaderLaws.{offset_facts, offsets_fit_lem, fits_64, within_64}
use Rattle.share_contents.proofs.NodeLaws.{nodes_facts, nodes-true}
use Rattle.share_format.proofs.PackedLaws.{EachLeast, packed-head, packed_facts, packed-order, packed_last}
use Rattle.share_numbers.proofs.CodingLaws.{coding_facts, coding_true, segment_some, segment_none}
use Rattle.share_numbers.proofs.OrderLaws.{placed_rest}
use Rattle.share_rules.specs.Writing.{sizes_ok, segment_fits, bounds_fit, rows_of, write_rows, write_outcome}
use Rattle.share_rules.specs.Writing.{written_answer, space_after}
use Rattle.share_rules.specs.Claims.{SegmentRight, TreeRight, BlocksRight, Writable}
use Rattle.share_rules.specs.declared.Written.{Written}

-- ---- the number, row by row
module _ (e : Edition) (sequence : ℕ) (root iv : List ℕ) (k n segment m : ℕ) (sizes chain tree share_data : List ℕ)
    (space : ℕ) where
  abbrev outcome : ℕ
  outcome = first_row (rows_of e sequence root iv k n segment m sizes chain tree share_data space)

  pub rows_3 : sizes_ok e root iv ≡ false → outcome ≡ 3
  unfolding rows_of first_row
  rows_3 h = rw h

  module _ (sized : sizes_ok e root iv ≡ true) where
    pub rows_7 : space < header_size e + sum sizes → outcome ≡ 7
    unfolding rows_of first_row
    rows_7 h = rw (sized, lt-ltb space (header_size e + sum sizes) h)

    module _ (room : header_size e + sum sizes ≤ space) where
      pub rows_23 : coding_ok k n ≡ false → outcome ≡ 23
      unfolding rows_of first_row
      rows_23 h = rw (sized, le-ltb space (header_size e + sum sizes) room, h)

      module _ (coding : coding_ok k n ≡ true) where
        pub rows_24 : segment_fits e segment k m ≡ false → outcome ≡ 24
        unfolding rows_of first_row
        rows_24 h = rw (sized, le-ltb space (header_size e + sum sizes) room, coding, h)

        module _ (fit : segment_fits e segment k m ≡ true) where
          pub rows_25 : bounds_fit e (packed (header_size e) sizes) ≡ false → outcome ≡ 25
          unfolding rows_of first_row
          rows_25 h = rw (sized, le-ltb space (header_size e + sum sizes) room, coding, fit, h)

          pub rows_rest : bounds_fit e (packed (header_size e) sizes) ≡ true
              → outcome ≡ first_row (content_rows e sequence k n segment m chain tree share_data)
          unfolding rows_of first_row
          rows_rest h = rw (sized, le-ltb space (header_size e + sum sizes) room, coding, fit, h)

-- ---- sizes and places
pub share_joined : (x : Share) → share_length x ≡ header_size (edition_in x) + length (join (part_list x))
unfolding share_length
share_joined x = rw (length-join (part_list x))

seven_parts : (x : Share) → length (map length (part_list x)) ≡ 7
unfolding part_list
seven_parts (sdmf x) = refl
seven_parts (mdmf x) = refl

-- The last boundary is the share's end.
pub places_end : (x : Share) → get_or (places_of x) 7 0 ≡ share_length x
unfolding places_of share_length
places_end x =
    ap (λ (i : ℕ). get_or (packed (header_size (edition_in x)) (map length (part_list x))) i 0) (sym (seven_parts x))
    ∙ packed_last (header_size (edition_in x)) (map length (part_list x))

-- ---- the conditions
placed-packed : (e : Edition) (ns : List ℕ) → placed_ok e (packed (header_size e) ns) ≡ true → EachLeast (least_sizes e) ns
placed-packed e ns h =
    let f : get_or (packed (header_size e) ns) 0 0 ≡ header_size e =
    ap (λ (l : List ℕ). get_or l 0 0) (packed-head (header_size e) ns) in
    packed_facts (least_sizes e) ns (header_size e) (rw f at (placed_rest e (packed (header_size e) ns) f ∙ h))

packed-placed : (e : Edition) (ns : List ℕ) → EachLeast (least_sizes e) ns → placed_ok e (packed (header_size e) ns) ≡ true
packed-placed e ns l =
    let f : get_or (packed (header_size e) ns) 0 0 ≡ header_size e =
    ap (λ (l : List ℕ). get_or l 0 0) (packed-head (header_size e) ns) in
    sym (placed_rest e (packed (header_size e) ns) f) ∙ rw f (packed-order (least_sizes e) ns (header_size e) l)

-- Three parts are never empty.
pub record Filled (x : Share) : Type 0 where
  pub key : 0 < length (key_in x)
  pub signature : 0 < length (signature_in x)
  pub private_key_holds : 0 < length (private_key_in x)

filled : (x : Share) → EachLeast (least_sizes (edition_in x)) (map length (part_list x)) → Filled x
unfolding part_list
filled (sdmf x) l = record { key = l.0; signature = l.1.0; private_key_holds = l.1.1.1.1.1.0 }
filled (mdmf x) l = record { key = l.1.1.1.0; signature = l.1.1.0; private_key_holds = l.0 }

pub placed_share : (x : Share) → Filled x → placed_ok (edition_in x) (places_of x) ≡ true
unfolding places_of part_list
placed_share x f = packed-placed (edition_in x) (map length (part_list x)) (least x f)
  where
    none : (n : ℕ) → 0 ≤ n
    none n = omega arith

    least : (x : Share) → Filled x → EachLeast (least_sizes (edition_in x)) (map length (part_list x))
    least (sdmf x) f =
        (f.key, (f.signature, (none _, (none _, (none _, (f.private_key_holds, (none _, tt)))))))
    least (mdmf x) f =
        (f.private_key_holds, (none _, (f.signature, (f.key, (none _, (none _, (none _, tt)))))))

-- Rows 24, 27 and 28, each edition's own.
segment_facts : (x : Share) → segment_ok (edition_in x) (segment_in x) (required_in x) (length_in x) ≡ true → SegmentRight x
unfolding segment_ok
segment_facts (sdmf x) h = tt
segment_facts (mdmf x) h =
    let p = both (eqb (x.segment_size % x.required) 0) (not (eqb x.segment_size 0 && ltb 0 x.data_length)) h in
    (eqb-true _ _ p.0, segment_some true x.segment_size x.required x.data_length (rw p.0 p.1) refl)

segment_true : (x : Share) → SegmentRight x → segment_ok (edition_in x) (segment_in x) (required_in x) (length_in x) ≡ true
unfolding segment_ok
segment_true (sdmf x) h = eq-eqb (segment_in (sdmf x)) (segment_in (sdmf x)) refl
segment_true (mdmf x) h = rw (eq-eqb _ _ h.0) (go (eqb x.segment_size 0) refl)
  where
    go : (t : Bool) → eqb x.segment_size 0 ≡ t → not (t && ltb 0 x.data_length) ≡ true
    go true z = sym (segment_none x.data_length) ∙ eq-eqb _ _ (h.1 (eqb-true _ _ z))
    go false z = refl

tree_facts : (x : Share) → tree_ok (edition_in x) (segment_in x) (length_in x) (tree_in x) ≡ true → TreeRight x
unfolding tree_ok
tree_facts (mdmf x) h = eqb-true _ _ h
tree_facts (sdmf x) h = go (eqb (length x.tree) hash_size) refl h
  where
    go : (t : Bool) → eqb (length x.tree) hash_size ≡ t
        → cond t true (eqb x.data_length 0 && eqb (length x.tree) 0) ≡ true
        → (length x.tree ≡ hash_size) ⊎ ((x.data_length ≡ 0) × (length x.tree ≡ 0))
    go true l k = inl (eqb-true _ _ l)
    go false l k =
        let p = both (eqb x.data_length 0) (eqb (length x.tree) 0) k in
        inr (eqb-true _ _ p.0, eqb-true _ _ p.1)

tree_true : (x : Share) → TreeRight x → tree_ok (edition_in x) (segment_in x) (length_in x) (tree_in x) ≡ true
unfolding tree_ok
tree_true (mdmf x) h = eq-eqb _ _ h
tree_true (sdmf x) (inl h) = rw (eq-eqb _ _ h)
tree_true (sdmf x) (inr h) = rw (h.1, eq-eqb _ _ h.0)

blocks_facts : (x : Share) → blocks_ok (edition_in x) (segment_in x) (required_in x) (length_in x) (share_data_in x) ≡ true
    → BlocksRight x
unfolding blocks_ok
blocks_facts (mdmf x) h = eqb-true _ _ h
blocks_facts (sdmf x) h = eqb-true _ _ h

blocks_true : (x : Share) → BlocksRight x
    → blocks_ok (edition_in x) (segment_in x) (required_in x) (length_in x) (share_data_in x) ≡ true
unfolding blocks_ok
blocks_true (mdmf x) h = eq-eqb _ _ h
blocks_true (sdmf x) h = eq-eqb _ _ h

-- What holds where no row applies.
pub record Passed (x : Share) (n : ℕ) : Type 0 where
  pub sizes : sizes_ok (edition_in x) (root_in x) (iv_in x) ≡ true
  pub room : share_length x ≤ n
  pub coding : coding_ok (required_in x) (total_in x) ≡ true
  pub segment : segment_fits (edition_in x) (segment_in x) (required_in x) (length_in x) ≡ true
  pub placed : bounds_fit (edition_in x) (places_of x) ≡ true
  pub content :
      first_row
      (content_rows (edition_in x) (sequence_in x) (required_in x) (total_in x) (segment_in x) (length_in x) (chain_in x)
      (tree_in x) (share_data_in x))
      ≡ 0

pub passed : (x : Share) (n : ℕ) → write_outcome x n ≡ 0 → Passed x n
unfolding write_outcome write_rows rows_of share_length places_of
passed x n z =
    let a = clear 3 _ _ (omega arith) z in
    let b = clear 7 _ _ (omega arith) a.1 in
    let c = clear 23 _ _ (omega arith) b.1 in
    let d = clear 24 _ _ (omega arith) c.1 in
    let e = clear 25 _ _ (omega arith) d.1 in
    record {
      sizes = not-false _ a.0;
      room = ltb-false _ _ b.0;
      coding = not-false _ c.0;
      segment = not-false _ d.0;
      placed = not-false _ e.0;
      content = e.1;
    }

pub done : (x : Share) (n : ℕ) → Passed x n → write_outcome x n ≡ 0
unfolding write_outcome write_rows share_length places_of
done x n p =
    rows_rest (edition_in x) (sequence_in x) (root_in x) (iv_in x) (required_in x) (total_in x) (segment_in x) (length_in x)
    (map length (part_list x)) (chain_in x) (tree_in x) (share_data_in x) n p.sizes p.room p.coding p.segment
    p.placed
    ∙ p.content

pub writable : (x : Share) (n : ℕ) → write_outcome x n ≡ 0 → Writable x n
unfolding sizes_ok segment_fits bounds_fit content_rows chain_ok places_of
writable x n z =
    let p = passed x n z in
    let a = both (eqb (length (root_in x)) hash_size) (eqb (length (iv_in x)) (iv_size (edition_in x))) p.sizes in
    let k = coding_facts (required_in x) (total_in x) p.coding in
    let s = both _ _ p.segment in
    let b = both (placed_ok (edition_in x) (places_of x)) (offsets_fit (edition_in x) (places_of x)) p.placed in
    let f = filled x (placed-packed (edition_in x) (map length (part_list x)) b.0) in
    let c = clear 26 _ _ (omega arith) p.content in
    let h = both _ _ (not-false _ c.0) in
    let nodes = nodes_facts _ _ h.1 in
    let t = clear 27 _ _ (omega arith) c.1 in
    let d = clear 28 _ _ (omega arith) t.1 in
    let q = clear 29 _ _ (omega arith) d.1 in
    record {
      root_size = eqb-true _ _ a.0;
      iv_size_holds = eqb-true _ _ a.1;
      room = p.room;
      some_required = k.0;
      enough = k.1;
      segment_fits_holds = within_64 (segment_in x) s.0;
      segment = segment_facts x s.1;
      some_key = f.key;
      some_signature = f.signature;
      some_private_key = f.private_key_holds;
      offsets = offset_facts (edition_in x) (places_of x) b.1;
      chain_size = eqb-true _ _ h.0;
      nodes_below = nodes.0;
      nodes_differ = nodes.1;
      tree_size_holds = tree_facts x (not-false _ t.0);
      block_size = blocks_facts x (not-false _ d.0);
      not_last = eqb-false _ _ q.0;
    }

pub written : (x : Share) (n : ℕ) → Writable x n → write_outcome x n ≡ 0
unfolding sizes_ok segment_fits bounds_fit content_rows chain_ok first_row
written x n w =
    let f : Filled x =
    record { key = w.some_key; signature = w.some_signature; private_key_holds = w.some_private_key } in
    done x n (record {
      sizes = rw (eq-eqb _ _ w.root_size, eq-eqb _ _ w.iv_size_holds);
      room = w.room;
      coding = coding_true _ _ w.some_required w.enough;
      segment = rw (fits_64 (segment_in x) w.segment_fits_holds, segment_true x w.segment);
      placed = rw (placed_share x f, offsets_fit_lem (edition_in x) (places_of x) w.offsets);
      content =
          rw (
            eq-eqb _ _ w.chain_size,
            nodes-true _ _ w.nodes_below w.nodes_differ,
            tree_true x w.tree_size_holds,
            blocks_true x w.block_size,
            ne_eqb _ _ w.not_last,
          );
    })

-- ---- the answer, and the space afterwards
pub answer-refused : (x : Share) (d : List ℕ) (m : ℕ) → m ≡ write_outcome x (length d) → (m ≡ 0 → ⊥)
    → (◌≡◌ {A = Written} (record { number = m; length = 0 }) (written_answer x (length d))) × (d ≡ space_after x d)
unfolding written_answer space_after
answer-refused x d m e h = (rw (← e, ne_eqb m 0 h), rw (← e, ne_eqb m 0 h))

pub answer-done : (x : Share) (d d' : List ℕ) (n : ℕ) → write_outcome x (length d) ≡ 0 → n ≡ share_length x
    → d' ≡ put 0 (encode x) d
    → (◌≡◌ {A = Written} (record { number = 0; length = n }) (written_answer x (length d))) × (d' ≡ space_after x d)
unfolding written_answer space_after
answer-done x d d' n z l e = (rw (z, l), rw (z, e))

-- ---- what is written
-- Numbers, offsets and parts are the share.
pub encoded : (x : Share) (d bs : List ℕ) (segment : ℕ) → segment ≡ segment_in x → bs ≡ places_of x
    → put 0
    (join
    (number_fields (edition_in x) (sequence_in x) (root_in x) (iv_in x) (required_in x) (total_in x) segment (length_in x))
    ++ (join (offset_fields (edition_in x) bs) ++ join (part_list x)))
    d
    ≡ put 0 (encode x) d
unfolding encode
encoded x d bs segment g b = rw (g, b)
