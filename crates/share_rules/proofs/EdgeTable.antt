-- The edge tables of the writers: closed cases by computing, one of many segments by a law, one over any key. Assumes nothing.
use mathlib.Core.Path.{◌≡◌, refl}
use mathlib.Core.Bool.{true, false}
use mathlib.Core.List.{List, map}
use Prim.Native.Nat.{ℕ, ◌≤◌}
use native.Mathlib.Omega.{arith}
use lib.Dec.{eqb}
use lib.ListN.{length}
use borrow.Author.Tests.{eq-eqb}
use Rattle.octets.specs.Facts.{Fits64}
use Rattle.octets.specs.Lists.{any_of, sum}
use Rattle.octets.specs.Numbers.{number_after, number, number_at, digits, fits}
use Rattle.octets.specs.Rows.{first_row}
use Rattle.octets.specs.Strings.{join}
use Rattle.octets.proofs.ListLaws.{both, by_refuting}
use Rattle.share_format.specs.Bounds.{in_order, packed}
use Rattle.share_format.specs.Header.{hash_size, salt_size, header_size, digits_of, each_fits, told_of, number_fields}
use Rattle.share_format.specs.Header.{offset_fields, offsets_fit}
use Rattle.share_contents.specs.Nodes.{depth_from, depth, power, nodes_from, nodes_ok}
use Rattle.share_format.specs.Parts.{Sdmf, sdmf, part_list, least_multiple, places_of, share_length, encode}
use Rattle.share_numbers.specs.Coding.{coding_ok, segment_ok}
use Rattle.share_numbers.specs.Order.{placed_ok}
use Rattle.share_contents.specs.Contents.{chain_ok, rounded_up, segments, tree_size, tree_ok}
use Rattle.share_contents.specs.Contents.{blocks_size, blocks_ok, content_rows}
use Rattle.share_format.proofs.HeaderLaws.{fits_64, offset_facts}
use Rattle.share_contents.proofs.ContentLaws.{tree_few}
use Rattle.share_rules.specs.Writing.{sizes_ok, segment_fits, bounds_fit, rows_of, write_rows, write_outcome}
use Rattle.share_rules.specs.Writing.{written_answer, space_after}
use Rattle.share_rules.specs.Edges.{segmented, into, result_of, refused, WriterEdgesHold}
use Rattle.share_rules.proofs.WritingLaws.{rows_25}

-- The signature stands behind the key.
narrow : (x : Sdmf) → 4294967189 ≤ length x.key
    → offsets_fit false (packed (header_size false) (map length (part_list (sdmf x)))) ≡ true → ⊥
unfolding part_list packed told_of
narrow x key h = let o = (offset_facts false _ h).0 in omega (arith, o)

far_offset : (x : Sdmf) (n : ℕ) → length x.root ≡ hash_size → length x.iv ≡ salt_size → share_length (sdmf x) ≤ n
    → coding_ok x.required x.total ≡ true → Fits64 (least_multiple x.required x.data_length)
    → 4294967189 ≤ length x.key → write_outcome (sdmf x) n ≡ 25
unfolding sizes_ok segment_fits segment_ok bounds_fit write_outcome write_rows share_length
far_offset x n hr hs room coding segment key =
    let m : ℕ = least_multiple x.required x.data_length in
    let bs : List ℕ = packed (header_size false) (map length (part_list (sdmf x))) in
    rows_25 false x.sequence x.root x.iv x.required x.total m x.data_length
    (map length (part_list (sdmf x))) x.chain x.tree x.share_data n
    (rw (eq-eqb _ _ hr, eq-eqb _ _ hs)) room coding (rw (fits_64 m segment, eq-eqb m m refl))
    (by_refuting _ (λ e. narrow x key (both (placed_ok false bs) (offsets_fit false bs) e).1))

-- A tree with fewer hashes than there are segments.
small_tree : eqb 32 (tree_size 6148914691236517205) ≡ false
small_tree = tree_few 6148914691236517205 32 (λ z. omega (arith, z)) (omega arith)

many-segments : result_of (into (segmented 3 3 18446744073709551615 20 32) 405) ≡ refused 27
unfolding any_of sum number_after number number_at digits fits first_row join in_order packed each_fits told_of offsets_fit
    depth_from depth power nodes_from nodes_ok part_list coding_ok segment_ok placed_ok chain_ok rounded_up segments tree_ok
    content_rows sizes_ok segment_fits bounds_fit rows_of write_rows write_outcome written_answer
many-segments = rw small_tree

pub edges : WriterEdgesHold
unfolding any_of sum number_after number number_at digits fits first_row join in_order packed digits_of each_fits told_of
    number_fields offset_fields offsets_fit depth_from depth power nodes_from nodes_ok part_list least_multiple places_of
    share_length encode coding_ok segment_ok placed_ok chain_ok rounded_up segments tree_size tree_ok blocks_size blocks_ok
    content_rows sizes_ok segment_fits bounds_fit rows_of write_rows write_outcome written_answer space_after
edges =
    record {
      table = refl;
      mdmf_table = refl;
      many = many-segments;
      whole = refl;
      mdmf_whole = refl;
      far = far_offset;
    }
