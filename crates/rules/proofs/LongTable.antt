-- P35 to P38: the table of long buffers. No list as long as such a buffer is computed: all goes by parts, in which a
-- buffer's length is a number. Assumes nothing.
use mathlib.Core.Path.{◌≡◌, refl, sym, ap, ap₂, ◌∙◌}
use mathlib.Core.Bool.{true}
use mathlib.Core.List.{List, [], ◌∷◌, ◌++◌, map, append-nil}
use mathlib.Core.Option.{none, some}
use Prim.Native.Nat.{ℕ, zero, suc, ◌+◌, ◌-◌, ◌≤◌}
use native.Mathlib.Omega.{arith}
use lib.ListN.{length, drop, replicate, length-append, length-replicate}
use lib.Seq.{take_all}
use lib.IntN.{pos}
use Rattle.octets.specs.Numbers.{number_after, number, number_at, digits}
use Rattle.octets.specs.Strings.{same, join}
use Rattle.octets.specs.Lists.{is_some, every, or_else, maybe}
use Rattle.octets.specs.Rows.{first_row}
use Rattle.format.specs.Layout.{least, limit, data_of, used_end, used_length, moved_count, owner_of, renewal_of}
use Rattle.format.specs.Container.{held}
use Rattle.format.specs.Parts.{Parts, extras, count_in, used, parts_of, encode, no_lease, fresh}
use Rattle.format.specs.Claims.{Valid}
use Rattle.format.proofs.JudgingLaws.{length-true}
use Rattle.format.proofs.RoundTrip.{parts_encode, encode_formed, parts_used}
use Rattle.rules.specs.Requests.{Write, test_write, entry_offset, entry_count, entry_opcode, entry_specimen}
use Rattle.rules.specs.Requests.{test_entry_ok, all_from, sum_from, tests_from, writes_from, test_count, write_count}
use Rattle.rules.specs.Requests.{cut_flag, new_length, writes_at, specimens_at, new_data_at, test_write_end, cut_ok}
use Rattle.rules.specs.Requests.{test_write_ok, cut_of, test_write_of, add_ok, kind_of, by_kind, request_of}
use Rattle.rules.specs.Testing.{resolve, resolves, position, reply_of}
use Rattle.rules.specs.Writing.{pad_to, write_at, placed, writes_resolve, write_all, cut_to, rewritten}
use Rattle.rules.specs.Leasing.{renewed_by, vacant, first_of, added, knows, present, placed_in}
use Rattle.rules.specs.Outcomes.{with_bytes, with_leases, after, after_of, reply_to, rows, admit_rows, find_rows}
use Rattle.rules.specs.Outcomes.{room_rows, request_rows, create_outcome}
use Rattle.rules.specs.Edges.{enabler, node, space, bytes_at, write, five_and, Outcome, gives}
use Rattle.rules.specs.Edges.{numbers, finally, used_lengths, result, Blank, behind_zeros, long_cases, long_results}
use Rattle.rules.specs.Edges.{write_of}
use Rattle.rules.proofs.OutcomeLaws.{outcome-encode, left_parts, left_encode, left_valid}
use Rattle.rules.proofs.Demand1.{created, created_valid}

-- ---- requests one after the other, over parts
numbers_by : List (List ℕ) → Parts → List ℕ
numbers_by [] p = []
numbers_by (q ∷ qs) p = first_row (request_rows p (request_of q) 8) ∷ numbers_by qs (left_parts p q 8)

finally_by : List (List ℕ) → Parts → Parts
finally_by [] p = p
finally_by (q ∷ qs) p = finally_by qs (left_parts p q 8)

used_by : List (List ℕ) → Parts → List ℕ
used_by [] p = used p ∷ []
used_by (q ∷ qs) p = used p ∷ used_by qs (left_parts p q 8)

used-encode : (p : Parts) → Valid p → used_end (encode p) ≡ used p
used-encode p v = sym (parts_used (encode p) (encode_formed p v)) ∙ ap used (parts_encode p v)

numbers_by_lem : (qs : List (List ℕ)) (p : Parts) → Valid p → numbers qs (encode p) ≡ numbers_by qs p
unfolding numbers numbers_by
numbers_by_lem [] p v = refl
numbers_by_lem (q ∷ qs) p v =
    ap₂ ◌∷◌ (outcome-encode p q 8 v)
    (ap (numbers qs) (left_encode p q space v) ∙ numbers_by_lem qs (left_parts p q 8) (left_valid p q 8 v))

finally_by_lem : (qs : List (List ℕ)) (p : Parts) → Valid p → data_of (finally qs (encode p)) ≡ (finally_by qs p).bytes
unfolding finally finally_by parts_of
finally_by_lem [] p v = ap (λ (x : Parts). x.bytes) (parts_encode p v)
finally_by_lem (q ∷ qs) p v =
    ap (λ (c : List ℕ). data_of (finally qs c)) (left_encode p q space v)
    ∙ finally_by_lem qs (left_parts p q 8) (left_valid p q 8 v)

used_by_lem : (qs : List (List ℕ)) (p : Parts) → Valid p → used_lengths qs (encode p) ≡ used_by qs p
unfolding used_lengths used_by
used_by_lem [] p v = ap (λ (n : ℕ). n ∷ []) (used-encode p v)
used_by_lem (q ∷ qs) p v =
    ap₂ ◌∷◌ (used-encode p v)
    (ap (used_lengths qs) (left_encode p q space v) ∙ used_by_lem qs (left_parts p q 8) (left_valid p q 8 v))

-- ---- a case, over parts
given_by : (c : List ℕ) (qs : List (List ℕ)) → create_outcome c node enabler ≡ 0 →
    result (record { buffer = c; requests = qs })
    ≡ gives 0 (numbers_by qs (fresh (length c) node enabler)) (finally_by qs (fresh (length c) node enabler)).bytes
    (used_by qs (fresh (length c) node enabler))
unfolding result
given_by c qs e =
    let v = created_valid c node enabler e in
    rw (e, created c node enabler e, numbers_by_lem qs _ v, finally_by_lem qs _ v, used_by_lem qs _ v) refl

-- ---- a byte behind zeros
one : ℕ → List Write
one at = record { offset = pos at; bytes = 65 ∷ [] } ∷ []

drop-none : (n : ℕ) → drop {A = ℕ} n [] ≡ []
drop-none zero = refl
drop-none (suc n) = refl

one_made : (at : ℕ) → rewritten (one at) none [] ≡ behind_zeros at (65 ∷ [])
unfolding one rewritten cut_to placed position resolve or_else write_all write_at pad_to behind_zeros
one_made at =
    let z : at - 0 ≡ at = omega arith in
    let l : length {A = ℕ} (replicate at 0) ≤ at = rw (length-replicate {A = ℕ} at 0) (omega arith) in
    rw (z, take_all at (replicate at 0) l, drop-none (at + 1)) (append-nil (replicate at 0 ++ (65 ∷ [])))

one_long : (at : ℕ) → length (behind_zeros at (65 ∷ [])) ≡ at + 1
unfolding behind_zeros
one_long at = length-append (replicate at 0) (65 ∷ []) ∙ rw (length-replicate {A = ℕ} at 0) refl

one-resolves : (at : ℕ) → writes_resolve (one at) 0 ≡ true
unfolding one writes_resolve resolves resolve is_some
one-resolves at = refl

-- ---- bytes written at 0
all : List ℕ → List Write
all bs = record { offset = pos 0; bytes = bs } ∷ []

all_made : (bs : List ℕ) → rewritten (all bs) none [] ≡ bs
unfolding all rewritten cut_to placed position resolve or_else write_all write_at pad_to
all_made [] = refl
all_made (b ∷ bs) = ap (λ (t : List ℕ). (b ∷ bs) ++ t) (drop-none (0 + suc (length bs))) ∙ append-nil (b ∷ bs)

all_resolves : (bs : List ℕ) → writes_resolve (all bs) 0 ≡ true
unfolding all writes_resolve resolves resolve is_some
all_resolves bs = refl

-- ---- what computing gives: over any writes whose data is known by its length, since it is too long to write out
-- requests on a fresh container of n bytes
carried : ℕ → List (List ℕ) → Outcome
carried n qs =
    gives 0 (numbers_by qs (fresh n node enabler)) (finally_by qs (fresh n node enabler)).bytes
    (used_by qs (fresh n node enabler))

-- a request that makes the data d of nothing
record Makes (q d : List ℕ) (n : ℕ) : Type 0 where
  writes : List Write
  is : request_of q ≡ some (test_write enabler [] writes none)
  resolved : writes_resolve writes 0 ≡ true
  made : rewritten writes none [] ≡ d
  long : length d ≡ n

record Computed : Type 0 where
  untouched : (n : ℕ) → carried n [] ≡ gives 0 [] [] (472 ∷ [])
  last : (q d : List ℕ) → Makes q d 16776744 → carried 16777216 (q ∷ []) ≡ gives 0 (0 ∷ []) d (472 ∷ 16777216 ∷ [])
  past : (q d : List ℕ) → Makes q d 16776745 → carried 16777216 (q ∷ []) ≡ gives 0 (11 ∷ []) [] (472 ∷ 472 ∷ [])
  last_leased : (q d : List ℕ) → Makes q d 16776652 →
      carried 16777216 (five_and q) ≡ gives 0 (replicate 6 0) d (replicate 5 472 ++ (564 ∷ 16777216 ∷ []))
  past_leased : (q d : List ℕ) → Makes q d 16776653 →
      carried 16777216 (five_and q) ≡ gives 0 (replicate 5 0 ++ (11 ∷ [])) [] (replicate 5 472 ++ (564 ∷ 564 ∷ []))
  longest : (q d : List ℕ) → Makes q d 65488 → carried 16777216 (q ∷ []) ≡ gives 0 (0 ∷ []) d (472 ∷ 65960 ∷ [])
  no_request : (q : List ℕ) → length q ≡ 65537 → carried 16777216 (q ∷ []) ≡ gives 0 (3 ∷ []) [] (472 ∷ 472 ∷ [])

computed : Computed
unfolding number_after number number_at digits same join used_length owner_of renewal_of held extras count_in used no_lease
    fresh add_ok kind_of by_kind request_of every reply_of renewed_by vacant maybe first_of placed_in added knows present
    with_bytes with_leases after reply_to first_row rows admit_rows find_rows room_rows request_rows after_of left_parts
    moved_count numbers_by finally_by used_by carried
computed = record {
  untouched = λ n. refl;
  last = λ q d m. rw (m.is, m.resolved, m.made, m.long)
      (ap (λ (n : ℕ). gives 0 (0 ∷ []) d (472 ∷ (468 + n + 0 + 4 + 0) ∷ [])) m.long);
  past = λ q d m. rw (m.is, m.resolved, m.made, m.long) refl;
  last_leased = λ q d m. rw (m.is, m.resolved, m.made, m.long)
      (ap (λ (n : ℕ). gives 0 (replicate 6 0) d (replicate 5 472 ++ (564 ∷ (468 + n + 0 + 4 + 92) ∷ []))) m.long);
  past_leased = λ q d m. rw (m.is, m.resolved, m.made, m.long) refl;
  longest = λ q d m. rw (m.is, m.resolved, m.made, m.long)
      (ap (λ (n : ℕ). gives 0 (0 ∷ []) d (472 ∷ (468 + n + 0 + 4 + 0) ∷ [])) m.long);
  no_request = λ q l. rw l refl;
}

-- ---- the requests of the table
record Read : Type 0 where
  last : request_of (write (bytes_at 16776743 (65 ∷ []) ∷ [])) ≡ some (test_write enabler [] (one 16776743) none)
  past : request_of (write (bytes_at 16776744 (65 ∷ []) ∷ [])) ≡ some (test_write enabler [] (one 16776744) none)
  last_leased : request_of (write (bytes_at 16776651 (65 ∷ []) ∷ [])) ≡ some (test_write enabler [] (one 16776651) none)
  past_leased : request_of (write (bytes_at 16776652 (65 ∷ []) ∷ [])) ≡ some (test_write enabler [] (one 16776652) none)
  longest : (bs : List ℕ) → length bs ≡ 65488 → request_of (write_of bs) ≡ some (test_write enabler [] (all bs) none)
  long : (bs : List ℕ) → length bs ≡ 65488 → length (write_of bs) ≡ 65536

read : Read
unfolding number_after number number_at digits join entry_offset entry_count entry_opcode entry_specimen test_entry_ok all_from
    sum_from tests_from writes_from test_count write_count cut_flag new_length writes_at specimens_at new_data_at test_write_end
    cut_ok test_write_ok cut_of test_write_of kind_of by_kind request_of one all
read = record {
  last = refl;
  past = refl;
  last_leased = refl;
  past_leased = refl;
  longest = λ bs l. rw (append-nil bs, l, take_all 65488 bs (rw l (omega arith))) refl;
  long = λ bs l. rw (append-nil bs, l) refl;
}

makes_all : (bs : List ℕ) → length bs ≡ 65488 → Makes (write_of bs) bs 65488
makes_all bs l =
    record { writes = all bs; is = read.longest bs l; resolved = all_resolves bs; made = all_made bs; long = l }

makes : (q : List ℕ) (at : ℕ) → request_of q ≡ some (test_write enabler [] (one at) none) →
    Makes q (behind_zeros at (65 ∷ [])) (at + 1)
makes q at e =
    record { writes = one at; is = e; resolved = one-resolves at; made = one_made at; long = one_long at }

-- ---- the table
created_blank : (n : ℕ) (c : List ℕ) → Blank n c → least ≤ n → n ≤ limit → create_outcome c node enabler ≡ 0
unfolding create_outcome first_row
created_blank n c b h k =
    rw (length-true c (rw b.size h) (rw b.size k), b.no_magic) refl

carried_blank : (n : ℕ) (c : List ℕ) (qs : List (List ℕ)) → Blank n c → least ≤ n → n ≤ limit →
    result (record { buffer = c; requests = qs }) ≡ carried n qs
unfolding carried
carried_blank n c qs b h k = given_by c qs (created_blank n c b h k) ∙ rw b.size refl

pub long_request : (bs : List ℕ) → length bs ≡ 65488 → length (write_of bs) ≡ 65536
long_request = read.long

pub long_table : (middle long bs q : List ℕ) → Blank 65537 middle → Blank 16777216 long → length bs ≡ 65488 →
    length q ≡ 65537 → map result (long_cases middle long bs q) ≡ long_results bs
long_table middle long bs q a b k l =
    let far : (qs : List (List ℕ)) → result (record { buffer = long; requests = qs }) ≡ carried 16777216 qs =
    λ qs. carried_blank 16777216 long qs b (omega arith) (omega arith) in
    ap₂ ◌∷◌ (carried_blank 65537 middle [] a (omega arith) (omega arith) ∙ computed.untouched 65537)
    (ap₂ ◌∷◌ (far [] ∙ computed.untouched 16777216)
    (ap₂ ◌∷◌ (far _ ∙ computed.last _ _ (makes _ 16776743 read.last))
    (ap₂ ◌∷◌ (far _ ∙ computed.past _ _ (makes _ 16776744 read.past))
    (ap₂ ◌∷◌ (far _ ∙ computed.last_leased _ _ (makes _ 16776651 read.last_leased))
    (ap₂ ◌∷◌ (far _ ∙ computed.past_leased _ _ (makes _ 16776652 read.past_leased))
    (ap₂ ◌∷◌ (far _ ∙ computed.longest _ bs (makes_all bs k))
    (ap₂ ◌∷◌ (far _ ∙ computed.no_request q l) refl)))))))
