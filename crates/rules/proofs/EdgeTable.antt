-- P1 to P10, P12 to P20 and P30 to P44: the tables hold, and the whole request of 62 bytes. Assumes nothing.
use mathlib.Core.Path.{◌≡◌, refl, ap₂, ◌∙◌}
use mathlib.Core.Bool.{true}
use mathlib.Core.List.{List, [], ◌∷◌, map}
use mathlib.Core.Option.{some}
use Prim.Native.Nat.{ℕ, zero, suc}
use native.Mathlib.Omega.{arith}
use lib.ListN.{length, take, drop, replicate}
use lib.IntN.{pos, negsuc}
use Rattle.octets.specs.Numbers.{number_after, number, number_at, digits}
use Rattle.octets.specs.Strings.{all_zero, same, order, join}
use Rattle.format.specs.Container.{length_allowed, held, record_ok, last_held, fields_ok, contents_ok, well_formed}
use Rattle.format.specs.Layout.{count_at, used_length, node_of, enabler_of, size_of, data_of, extras_of, records, leases_of}
use Rattle.format.specs.Layout.{owner_of, renewal_of, cancel_of, slack_of, moved_count}
use Rattle.format.specs.Parts.{extras, count_in, used, parts_of, encode, no_lease, fresh, head_of, front_of, tail_of}
use Rattle.rules.specs.Requests.{Write, test_write, entry_offset, entry_count, entry_opcode, entry_specimen}
use Rattle.rules.specs.Requests.{test_entry_ok, all_from, sum_from, tests_from, writes_from, test_count, write_count}
use Rattle.rules.specs.Requests.{cut_flag, new_length, writes_at, specimens_at, new_data_at, test_write_end, cut_ok}
use Rattle.rules.specs.Requests.{test_write_ok, cut_of, test_write_of, add_ok, cancel_ok, kind_of, by_kind, request_of}
use Rattle.rules.specs.Requests.{reads_from, read_count, read_ok}
use Rattle.rules.specs.Testing.{resolve, resolves, position, piece, test_piece, below, level, decides, holds}
use Rattle.rules.specs.Testing.{reply_of, read_piece}
use Rattle.octets.specs.Lists.{is_some, every, any_of, or_else, maybe}
use Rattle.rules.specs.Writing.{pad_to, write_at, grow, placed, writes_resolve, write_all, cut_to, rewritten}
use Rattle.rules.specs.Sizes.{size_all, cut_size, clip, resize}
use Rattle.rules.specs.Leasing.{renewed_by, cancelled_by, vacant, first_of, added, knows, present, placed_in}
use Rattle.rules.specs.Leasing.{cancelled, trim, with_last, drop_tail}
use Rattle.rules.specs.Outcomes.{answer_of, no_node, with_bytes, with_leases, after, reply_to, rows}
use Rattle.rules.specs.Outcomes.{room_rows, request_rows, outcome, replies, after_of, reply_bytes, counted}
use Rattle.rules.specs.Outcomes.{answer_to, answered, reply_after, container_after, create_outcome}
use Rattle.rules.specs.Outcomes.{created_container, admit_rows, find_rows}
use Rattle.octets.specs.Rows.{first_row}
use Rattle.rules.specs.Edges.{enabler, bytes_at, test_and_write, given, Case, Outcome, cases, results, request62}
use Rattle.rules.specs.Edges.{empty, nines, EdgesHold, numbers, finally, result, seen, reads, returned}
use Rattle.rules.specs.Edges.{leased, passing, differences, touch, rewrites, touched}
use Rattle.rules.specs.Edges.{used_lengths, ending, spared, endings, judged, shifted, judgements, leased_with}
use Rattle.rules.specs.Edges.{fills, filled, gives, back, lowest, far_and, from_end, from_end_seen, appends, appended}
use Rattle.rules.specs.Changes.{covers, cut_change, write_changes, changes_of}
use Rattle.rules.specs.Stretch.{in_fields, in_written, stretch_from, stretch_to}
use Rattle.rules.proofs.WriteLaws.{no_gap}
use Rattle.rules.proofs.LongTable.{long_table, long_request}

-- a table is claimed piece by piece
pieces : (n : ℕ) (xs : List Case) (ys : List Outcome) →
    map result (take n xs) ≡ take n ys → map result (drop n xs) ≡ drop n ys → map result xs ≡ ys
pieces zero xs ys e f = f
pieces (suc n) [] [] e f = refl
pieces (suc n) [] (y ∷ ys) e f = absurd (let z : ◌≡◌ {A = ℕ} 0 1 = cc in omega arith)
pieces (suc n) (x ∷ xs) [] e f = absurd (let z : ◌≡◌ {A = ℕ} 0 1 = cc in omega arith)
pieces (suc n) (x ∷ xs) (y ∷ ys) e f =
    let h : result x ≡ y = cc in
    let t : map result (take n xs) ≡ take n ys = cc in
    ap₂ ◌∷◌ h (pieces n xs ys t f)

-- ---- writes that reach far and a cut to 10, clipped to the final size: no gap is made
far_made : (ws : List Write) (d : List ℕ) → cut_size (some 10) (size_all (placed ws 0) (length {A = ℕ} [])) ≡ 10 →
    write_all (map (clip 10) (placed ws 0)) (resize 10 []) ≡ d → rewritten ws (some 10) [] ≡ d
unfolding rewritten
far_made ws d s e = no_gap (placed ws 0) (some 10) [] ∙ rw s e

-- `A` at a position, and then others
far_writes : ℕ → List Write → List Write
far_writes at ws = record { offset = pos at; bytes = 65 ∷ [] } ∷ ws

-- `B` and nothing, at -(k + 1)
back_to : ℕ → Write
back_to k = record { offset = negsuc k; bytes = 66 ∷ [] }

nothing_at : ℕ → Write
nothing_at k = record { offset = negsuc k; bytes = [] }

-- The request q makes two bytes and eight zeros of nothing.
record Makes (q : List ℕ) (a b : ℕ) : Type 0 where
  writes : List Write
  is : request_of q ≡ some (test_write enabler [] writes (some 10))
  resolved : writes_resolve writes 0 ≡ true
  made : rewritten writes (some 10) [] ≡ a ∷ b ∷ replicate 8 0

record Far : Type 0 where
  alone : Makes (far_and 2147483647 []) 0 0
  end : Makes (far_and 2147483647 (bytes_at (back 1) (66 ∷ []) ∷ [])) 0 0
  first : Makes (far_and 2147483646 (bytes_at lowest (66 ∷ []) ∷ [])) 66 0
  second : Makes (far_and 2147483647 (bytes_at lowest (66 ∷ []) ∷ [])) 0 66
  behind : Makes (far_and 2147483647 (bytes_at lowest [] ∷ bytes_at lowest (66 ∷ []) ∷ [])) 0 66

far_reads : Far
unfolding number_after number number_at digits join entry_offset entry_count entry_opcode entry_specimen test_entry_ok all_from
    sum_from tests_from writes_from test_count write_count cut_flag new_length writes_at specimens_at new_data_at test_write_end
    cut_ok test_write_ok cut_of test_write_of kind_of by_kind request_of resolve is_some or_else resolves position grow placed
    writes_resolve write_all write_at pad_to size_all cut_size clip resize far_writes back_to nothing_at
far_reads =
    let end : List Write = far_writes 2147483647 (back_to 0 ∷ []) in
    let first : List Write = far_writes 2147483646 (back_to 2147483647 ∷ []) in
    let second : List Write = far_writes 2147483647 (back_to 2147483647 ∷ []) in
    let behind : List Write = far_writes 2147483647 (nothing_at 2147483647 ∷ back_to 2147483647 ∷ []) in
    record {
      alone = record {
        writes = far_writes 2147483647 [];
        is = refl;
        resolved = refl;
        made = far_made (far_writes 2147483647 []) _ refl refl;
      };
      end = record { writes = end; is = refl; resolved = refl; made = far_made end _ refl refl };
      first = record { writes = first; is = refl; resolved = refl; made = far_made first _ refl refl };
      second = record { writes = second; is = refl; resolved = refl; made = far_made second _ refl refl };
      behind = record { writes = behind; is = refl; resolved = refl; made = far_made behind _ refl refl };
    }

-- What computing gives. P6, P42 and P43 are computed over any writes whose result is known: their own bytes are too
-- many to write out.
record Computed : Type 0 where
  p1 : map result (take 2 (cases [])) ≡ take 2 results
  p1_long : (long : List ℕ) → length long ≡ 16777217 →
      map result (take 1 (drop 2 (cases long))) ≡ take 1 (drop 2 results)
  p2_to_p5 : map result (take 7 (drop 3 (cases []))) ≡ take 7 (drop 3 results)
  far_done : (q : List ℕ) (a b : ℕ) → Makes q a b →
      result (given 482 (q ∷ [])) ≡ gives 0 (0 ∷ []) (a ∷ b ∷ replicate 8 0) (472 ∷ 482 ∷ [])
  far_no_room : (q : List ℕ) (a b : ℕ) → Makes q a b →
      result (given 481 (q ∷ [])) ≡ gives 0 (11 ∷ []) [] (472 ∷ 472 ∷ [])
  p7_to_p10 : map result (drop 12 (cases [])) ≡ drop 12 results
  whole_answer : answered empty request62 nines ≡ answer_of 0 no_node 4
  whole_reply : reply_after empty request62 nines ≡ 0 ∷ 0 ∷ 0 ∷ 0 ∷ 9 ∷ 9 ∷ []
  whole_data : data_of (container_after empty request62 nines) ≡ 0 ∷ 0 ∷ 0 ∷ 65 ∷ 66 ∷ []
  short : map seen reads ≡ returned
  fields : passing in_fields (length leased) 0
      ≡ 84 ∷ 85 ∷ 86 ∷ 87 ∷ 88 ∷ 89 ∷ 90 ∷ 91 ∷ 92 ∷ 93 ∷ 94 ∷ 95 ∷ 96 ∷ 97 ∷ 98 ∷ 99 ∷ []
  stretches : map (touch leased) rewrites ≡ touched
  slack : map ending spared ≡ endings
  places : map judged shifted ≡ judgements
  stretches_in_slack : map (touch (leased_with 573 2)) fills ≡ filled
  from_end_holds : map seen from_end ≡ from_end_seen
  p40_p41 : map result (take 17 appends) ≡ take 17 appended
  p43_before : result (given 482 (far_and 2147483645 (bytes_at lowest (66 ∷ []) ∷ []) ∷ []))
      ≡ gives 0 (4 ∷ []) [] (472 ∷ 472 ∷ [])
  p43_unsized : result
      (given 482 (test_and_write [] (bytes_at 2147483647 [] ∷ bytes_at lowest (66 ∷ []) ∷ []) 1 10 ∷ []))
      ≡ gives 0 (4 ∷ []) [] (472 ∷ 472 ∷ [])

computed : Computed
unfolding number_after number number_at digits all_zero same order join length_allowed count_at used_length node_of enabler_of
    size_of data_of extras_of records leases_of owner_of renewal_of cancel_of held record_ok every last_held fields_ok contents_ok
    well_formed extras used parts_of encode head_of front_of tail_of no_lease fresh entry_offset entry_count entry_opcode
    entry_specimen test_entry_ok all_from sum_from tests_from writes_from test_count write_count cut_flag new_length writes_at
    specimens_at new_data_at test_write_end cut_ok test_write_ok cut_of test_write_of add_ok cancel_ok kind_of by_kind request_of
    resolve is_some or_else resolves position piece test_piece below level decides holds reply_of pad_to write_at grow
    placed writes_resolve write_all cut_to rewritten renewed_by cancelled_by vacant maybe first_of placed_in added knows
    present with_bytes with_leases after reply_to first_row rows admit_rows find_rows room_rows request_rows outcome
    replies after_of reply_bytes counted answer_to answered reply_after container_after create_outcome created_container
    numbers finally result reads_from read_count read_ok read_piece seen covers cut_change write_changes changes_of
    any_of in_fields in_written stretch_from stretch_to passing differences touch slack_of moved_count count_in used_lengths
    ending judged cancelled trim with_last drop_tail
computed = record {
  p1 = refl;
  p1_long = λ long e. rw e refl;
  p2_to_p5 = refl;
  far_done = λ q a b m. rw (m.is, m.resolved, m.made) refl;
  far_no_room = λ q a b m. rw (m.is, m.resolved, m.made) refl;
  p7_to_p10 = refl;
  whole_answer = refl;
  whole_reply = refl;
  whole_data = refl;
  short = refl;
  fields = refl;
  stretches = refl;
  slack = refl;
  places = refl;
  stretches_in_slack = refl;
  from_end_holds = refl;
  p40_p41 = refl;
  p43_before = refl;
  p43_unsized = refl;
}

-- THE TABLES' CLAIM
pub edges : EdgesHold
edges = record {
  table = λ long e.
      pieces 2 (cases long) results computed.p1
      (pieces 1 (drop 2 (cases long)) (drop 2 results) (computed.p1_long long e)
      (pieces 7 (drop 3 (cases long)) (drop 3 results) computed.p2_to_p5
      (pieces 2 (drop 10 (cases long)) (drop 10 results)
      (ap₂ ◌∷◌ (computed.far_done _ 0 0 far_reads.alone)
      (ap₂ ◌∷◌ (computed.far_no_room _ 0 0 far_reads.alone) refl))
      computed.p7_to_p10)));
  whole_size = refl;
  whole_answer = computed.whole_answer;
  whole_reply = computed.whole_reply;
  whole_data = computed.whole_data;
  short = computed.short;
  fields = computed.fields;
  stretches = computed.stretches;
  slack = computed.slack;
  places = computed.places;
  stretches_in_slack = computed.stretches_in_slack;
  long_table = long_table;
  long_request = long_request;
  from_end_holds = computed.from_end_holds;
  append_table = pieces 17 appends appended computed.p40_p41
      (ap₂ ◌∷◌ (computed.far_done _ 0 0 far_reads.end)
      (ap₂ ◌∷◌ (computed.far_no_room _ 0 0 far_reads.end)
      (ap₂ ◌∷◌ (computed.far_done _ 66 0 far_reads.first)
      (ap₂ ◌∷◌ (computed.far_done _ 0 66 far_reads.second)
      (ap₂ ◌∷◌ computed.p43_before
      (ap₂ ◌∷◌ (computed.far_done _ 0 66 far_reads.behind) (ap₂ ◌∷◌ computed.p43_unsized refl)))))));
}
