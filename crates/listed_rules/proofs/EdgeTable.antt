-- P58 to P63: the tables hold. Assumes nothing.
use mathlib.Core.Path.{◌≡◌, refl, sym, ap, ap₂, ◌∙◌}
use mathlib.Core.Bool.{true, false, false≢true}
use mathlib.Core.List.{List, [], ◌∷◌, ◌++◌, map}
use mathlib.Core.Option.{some}
use Prim.Native.Nat.{ℕ}
use native.Mathlib.Omega.{arith}
use lib.ListN.{length, take, replicate, length-replicate}
use lib.IntN.{pos}
use Rattle.octets.specs.Numbers.{number_after, number, number_at, digits}
use Rattle.octets.specs.Strings.{all_zero, same, order, join}
use Rattle.octets.specs.Lists.{is_some, every, or_else, maybe}
use Rattle.octets.specs.Rows.{first_row}
use Rattle.octets.proofs.ListLaws.{at_rep}
use Rattle.format.specs.Container.{length_allowed, held, record_ok, last_held, fields_ok, contents_ok, well_formed}
use Rattle.format.specs.Layout.{count_at, used_length, node_of, enabler_of, size_of, data_of, extras_of, records, leases_of}
use Rattle.format.specs.Layout.{owner_of, slack_of, moved_count}
use Rattle.format.specs.Parts.{extras, count_in, used, parts_of, encode, no_lease, fresh, head_of, front_of, tail_of}
use Rattle.format.specs.Claims.{Valid}
use Rattle.format.proofs.RoundTrip.{data_encode, fresh_valid}
use Rattle.rules.specs.Requests.{Write, test_write, entry_offset, entry_count, entry_opcode, entry_specimen, test_entry_ok}
use Rattle.rules.specs.Requests.{all_from, sum_from, tests_from, writes_from, test_count, write_count, cut_flag, new_length}
use Rattle.rules.specs.Requests.{writes_at, specimens_at, new_data_at, test_write_end, cut_ok, test_write_ok, cut_of, test_write_of}
use Rattle.rules.specs.Requests.{add_ok, kind_of, by_kind, request_of, reads_from, read_count, read_ok}
use Rattle.rules.specs.Testing.{resolve, resolves, position, piece, test_piece, level, decides, holds, reply_of}
use Rattle.rules.specs.Testing.{read_piece}
use Rattle.rules.specs.Writing.{pad_to, write_at, grow, placed, writes_resolve, write_all, cut_to, rewritten}
use Rattle.rules.specs.Sizes.{size_all, cut_size, clip, resize}
use Rattle.rules.specs.Leasing.{renewed_by, vacant, first_of, added, present, placed_in}
use Rattle.rules.specs.Changes.{size_by, cut_change, write_changes, changes_of}
use Rattle.rules.specs.Outcomes.{with_bytes, with_leases, after, reply_to, rows, room_rows, request_rows, after_of}
use Rattle.rules.specs.Outcomes.{create_outcome, admit_rows, find_rows}
use Rattle.rules.specs.Edges.{enabler, node, space}
use Rattle.rules.proofs.WriteLaws.{no_gap}
use Rattle.rules.proofs.Kept.{bytes-kept}
use Rattle.rules.proofs.OutcomeLaws.{answer-number}
use Rattle.rules.proofs.Demand1.{created, created_valid}
use Rattle.histories.specs.Runs.{Heard}
use Rattle.stretches.specs.Stretches.{Stretch, stretch, rising, between, below, above, joined, gapped, written_over}
use Rattle.stretches.specs.Stretches.{stretches_by, stretches_after, listed}
use Rattle.stretches.specs.List.{row_count, rows_from, stretches_of, row_bytes, list_bytes, fresh_list, zero_in, list_ok}
use Rattle.stretches.proofs.ShapeLaws.{rising_facts}
use Rattle.stretches.proofs.Claims.{zero_list}
use Rattle.listed_rules.specs.Outcomes.{next_stretches, outcome_beside}
use Rattle.listed_rules.specs.Runs.{Slot, Sent, hears_in, leaves_in, SlotParts, rule_outcome_beside, rule_hears_in}
use Rattle.listed_rules.specs.Runs.{rule_leaves_in}
use Rattle.listed_rules.specs.Edges.{number_of, refusals, refused, numbers_in, finally_in, Listing, listing, lists}
use Rattle.listed_rules.specs.Edges.{gaps, gapped as gapResults, far_cut, fresh_in, dotted, Counted, counting}
use Rattle.listed_rules.specs.Edges.{counts, crowded, counted, ListEdgesHold}
use Rattle.listed_rules.proofs.BesideLaws.{beside-number}
use Rattle.listed_rules.proofs.Steps.{Sound, sound_left, slot_of, stretches_back, hears_slot, leaves_slot}

-- ---- requests one after the other, over parts and stretches: no container and no list is read
abbrev sent : List ℕ → Sent
sent q = record { call = record { request = q; space = space }; direct = false }

numbers_by : List (List ℕ) → SlotParts → List ℕ
numbers_by [] s = []
numbers_by (q ∷ qs) s = rule_outcome_beside (sent q).call s ∷ numbers_by qs (rule_leaves_in (sent q) s)

finally_by : List (List ℕ) → SlotParts → SlotParts
finally_by [] s = s
finally_by (q ∷ qs) s = finally_by qs (rule_leaves_in (sent q) s)

abbrev listing_by : SlotParts → List (List ℕ) → Listing
listing_by s qs = lists (numbers_by qs s) (finally_by qs s).parts.bytes (finally_by qs s).stretches

module _ (s : SlotParts) (v : Sound s) (q : List ℕ) where
  number_by : outcome_beside (slot_of s).container (slot_of s).list q (length space) ≡ rule_outcome_beside (sent q).call s
  unfolding hears_in rule_hears_in
  number_by =
      sym (beside-number (slot_of s).container (slot_of s).list q space)
      ∙ ap (λ (a : Heard). a.answer.number) (hears_slot s v (sent q))
      ∙ answer-number (rule_outcome_beside (sent q).call s) s.parts (request_of q)

  sound_by : Sound (rule_leaves_in (sent q) s)
  sound_by = sound_left (sent q) s (λ e. absurd (false≢true e)) v

-- container and list follow them
record Carried (qs : List (List ℕ)) (s : SlotParts) : Type 0 where
  numbers : numbers_in qs (slot_of s) ≡ numbers_by qs s
  left : finally_in qs (slot_of s) ≡ slot_of (finally_by qs s)
  sound : Sound (finally_by qs s)

carried : (qs : List (List ℕ)) (s : SlotParts) → Sound s → Carried qs s
unfolding numbers_in numbers_by finally_in finally_by leaves_in
carried [] s v = record { numbers = refl; left = refl; sound = v }
carried (q ∷ qs) s v =
    let f : Carried qs (rule_leaves_in (sent q) s) = carried qs (rule_leaves_in (sent q) s) (sound_by s v q) in
    let l = leaves_slot s v (sent q) in
    record {
      numbers = ap₂ ◌∷◌ (number_by s v q) (ap (numbers_in qs) l ∙ f.numbers);
      left = ap (finally_in qs) l ∙ f.left;
      sound = f.sound;
    }

listing_by_lem : (s : SlotParts) → Sound s → (qs : List (List ℕ)) → listing (slot_of s) qs ≡ listing_by s qs
unfolding listing slot_of
listing_by_lem s v qs =
    let f : Carried qs s = carried qs s v in
    let t : SlotParts = finally_by qs s in
    rw (f.numbers, f.left, data_encode t.parts f.sound.valid, stretches_back t f.sound)

-- a table, case by case
map_by : {A B : Type 0} (f g : A → B) → ((x : A) → f x ≡ g x) → (xs : List A) → map f xs ≡ map g xs
map_by f g h [] = refl
map_by f g h (x ∷ xs) = ap₂ ◌∷◌ (h x) (map_by f g h xs)

-- ---- a fresh slot of n bytes
abbrev fresh_by : ℕ → SlotParts
fresh_by n = record { parts = fresh n node enabler; stretches = [] }

fresh_by_lem : (n : ℕ) → create_outcome (replicate n 0) node enabler ≡ 0 → (qs : List (List ℕ)) →
    listing (fresh_in n) qs ≡ listing_by (fresh_by n) qs
unfolding slot_of fresh listed
fresh_by_lem n e qs =
    let l = length-replicate {A = ℕ} n 0 in
    let v : Valid (fresh n node enabler) = rw l at (created_valid (replicate n 0) node enabler e) in
    let h : Sound (fresh_by n) =
    record { valid = v; rises = tt; few = omega arith; zeros = λ i z. absurd (false≢true z) } in
    rw (created (replicate n 0) node enabler e, l, ← zero_list) (listing_by_lem (fresh_by n) h qs)

-- ---- the slot with 256 rows
crowded_by : SlotParts
crowded_by = record {
  parts = with_bytes (fresh 1100 node enabler) (replicate 514 0);
  stretches = stretch 0 3 ∷ dotted 255 4;
}

counting_by : List ℕ → Counted
counting_by q =
    let rs : List Stretch = (rule_leaves_in (sent q) crowded_by).stretches in
    counts (rule_outcome_beside (sent q).call crowded_by) (length rs) (take 2 rs)

crowded_sound : Sound crowded_by
unfolding crowded_by with_bytes moved_count fresh used count_in extras used_length dotted rising
crowded_sound =
    let v : Valid (fresh 1100 node enabler) = fresh_valid 1100 node enabler (omega arith) (omega arith) refl refl in
    record {
      valid = bytes-kept (fresh 1100 node enabler) (replicate 514 0) v (omega arith);
      rises = rising_facts 0 (stretch 0 3 ∷ dotted 255 4) 514 refl;
      few = omega arith;
      zeros = λ i e. at_rep 514 i;
    }

counting_by_lem : (q : List ℕ) → counting q ≡ counting_by q
unfolding counting counting_by slot_of crowded_by with_bytes moved_count fresh count_in leaves_in
counting_by_lem q =
    let t : SlotParts = rule_leaves_in (sent q) crowded_by in
    let l = ap (λ (x : Slot). x.list) (leaves_slot crowded_by crowded_sound (sent q)) in
    rw (number_by crowded_by crowded_sound q, l, stretches_back t (sound_by crowded_by crowded_sound q))

-- ---- P62's write, whose own bytes are too many to write out: clipped to the final size, no gap is made
far_write : List Write
far_write = record { offset = pos 2147483647; bytes = 65 ∷ [] } ∷ []

far_made : (ws : List Write) → cut_size (some 10) (size_all (placed ws 0) (length {A = ℕ} [])) ≡ 10 →
    write_all (map (clip 10) (placed ws 0)) (resize 10 []) ≡ replicate 10 0 → rewritten ws (some 10) [] ≡ replicate 10 0
unfolding rewritten
far_made ws s e = no_gap (placed ws 0) (some 10) [] ∙ rw s e

-- what a request asks, and what its writes make of no data and no stretches
record Makes (q : List ℕ) (ws : List Write) : Type 0 where
  is : request_of q ≡ some (test_write enabler [] ws (some 10))
  resolved : writes_resolve ws 0 ≡ true
  made : rewritten ws (some 10) [] ≡ replicate 10 0
  tracked : stretches_after (write_changes (placed ws 0) (cut_change (some 10))) 0 [] ≡ stretch 0 10 ∷ []

far_makes : Makes far_cut far_write
unfolding number_after number number_at digits join entry_offset entry_count all_from sum_from tests_from writes_from test_count
    write_count cut_flag new_length writes_at specimens_at new_data_at test_write_end cut_ok test_write_ok cut_of test_write_of kind_of
    by_kind request_of resolve is_some or_else resolves position grow placed writes_resolve write_all write_at pad_to size_all
    cut_size clip resize far_write size_by cut_change write_changes between below above joined gapped written_over stretches_by
    stretches_after
far_makes = record { is = refl; resolved = refl; made = far_made far_write refl refl; tracked = refl }

-- ---- what computing gives
record Computed : Type 0 where
  refusing : map number_of refusals ≡ refused
  listings : map (listing (fresh_in 520)) gaps ≡ gapResults
  crowding : map counting crowded ≡ counted
  far : (q : List ℕ) (ws : List Write) → Makes q ws →
      listing (fresh_in 482) (q ∷ []) ≡ lists (0 ∷ []) (replicate 10 0) (stretch 0 10 ∷ [])
  far_refused : (q : List ℕ) (ws : List Write) → Makes q ws → listing (fresh_in 481) (q ∷ []) ≡ lists (11 ∷ []) [] []

computed : Computed
unfolding number_after number number_at digits all_zero same order join length_allowed count_at used_length node_of enabler_of
    size_of data_of extras_of records leases_of owner_of held record_ok every last_held fields_ok contents_ok well_formed extras
    used parts_of encode head_of front_of tail_of no_lease fresh entry_offset entry_count entry_opcode entry_specimen test_entry_ok
    all_from sum_from tests_from writes_from test_count write_count cut_flag new_length writes_at specimens_at new_data_at
    test_write_end cut_ok test_write_ok cut_of test_write_of add_ok kind_of by_kind request_of resolve is_some or_else resolves
    position piece test_piece level decides holds reply_of pad_to write_at grow placed writes_resolve write_all cut_to
    rewritten renewed_by vacant maybe first_of placed_in added present with_bytes with_leases after reply_to first_row rows
    admit_rows find_rows room_rows request_rows after_of create_outcome reads_from read_count read_ok read_piece size_by cut_change
    write_changes changes_of slack_of moved_count count_in rising between below above joined gapped written_over stretches_by
    stretches_after row_count rows_from stretches_of row_bytes fresh_list zero_in list_ok next_stretches outcome_beside
    rule_outcome_beside rule_leaves_in dotted numbers_by finally_by crowded_by counting_by number_of
computed = record {
  refusing = refl;
  listings = map_by (listing (fresh_in 520)) (listing_by (fresh_by 520)) (fresh_by_lem 520 refl) gaps ∙ refl;
  crowding = map_by counting counting_by counting_by_lem crowded ∙ refl;
  far = λ q ws m. fresh_by_lem 482 refl (q ∷ []) ∙ rw (m.is, m.resolved, m.made, m.tracked) refl;
  far_refused = λ q ws m. fresh_by_lem 481 refl (q ∷ []) ∙ rw (m.is, m.resolved, m.made) refl;
}

row_bytes_lem : list_bytes (stretch 1 2 ∷ stretch 260 4 ∷ [])
    ≡ (0 ∷ 0 ∷ 0 ∷ 2 ∷ 0 ∷ 0 ∷ 0 ∷ 1 ∷ 0 ∷ 0 ∷ 0 ∷ 2 ∷ 0 ∷ 0 ∷ 1 ∷ 4 ∷ 0 ∷ 0 ∷ 0 ∷ 4 ∷ []) ++ replicate 2032 0
unfolding list_bytes digits join row_bytes
row_bytes_lem = refl

-- THE TABLES' CLAIM
pub list_edges : ListEdgesHold
list_edges = record {
  refusing = computed.refusing;
  listings = computed.listings;
  far = computed.far far_cut far_write far_makes;
  far_refused = computed.far_refused far_cut far_write far_makes;
  crowding = computed.crowding;
  bytes = row_bytes_lem;
}
