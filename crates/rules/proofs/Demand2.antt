-- Demand 2 of the rules: a test-and-write is done exactly when the listed conditions hold, and what it then does.
-- Assumes nothing.
use mathlib.Core.Path.{◌≡◌, refl, sym, ap, ◌∙◌}
use mathlib.Core.Bool.{true}
use mathlib.Core.List.{List}
use mathlib.Core.Option.{Option, some}
use Prim.Native.Nat.{ℕ, ◌≤◌}
use native.Mathlib.Omega.{arith}
use lib.ListN.{length}
use borrow.Author.Tests.{not-false, ltb-false, le-ltb}
use Rattle.octets.specs.Strings.{same}
use Rattle.octets.proofs.StringLaws.{same-eq, same_refl}
use Rattle.format.specs.Container.{well_formed}
use Rattle.format.specs.Layout.{enabler_of, data_of, count_at, moved_count}
use Rattle.format.specs.Parts.{Parts, count_in, used, parts_of, encode}
use Rattle.octets.specs.Lists.{every, maybe}
use Rattle.octets.proofs.ListLaws.{both, every_each, each_every}
use Rattle.format.proofs.RoundTrip.{parts_count, parts_encode, count_encode}
use Rattle.rules.specs.Requests.{Test, Write, test_write, kind_of, by_kind, test_write_ok, test_write_of, request_of}
use Rattle.rules.specs.Testing.{resolves, holds}
use Rattle.rules.specs.Writing.{writes_resolve, rewritten}
use Rattle.rules.specs.Outcomes.{with_bytes, after, after_of, rows, room_rows, request_rows, reply_to}
use Rattle.rules.specs.Outcomes.{outcome, container_after, admit_rows, find_rows}
use Rattle.octets.specs.Rows.{first_row}
use Rattle.rules.specs.Claims.{Accepts, Writes, Demand2}
use Rattle.octets.proofs.RowLaws.{clear}
use Rattle.rules.proofs.OffsetLaws.{all_named, named_all, writes_named, named_writes}
use Rattle.rules.proofs.RequestLaws.{of_kind}
use Rattle.rules.proofs.Kept.{count_with, used-rewritten}
use Rattle.rules.proofs.NumberLaws.{done_unbroken}
use Rattle.rules.proofs.OutcomeLaws.{outcome_formed, answered-number}
use Rattle.rules.proofs.ReplyLaws.{done-replies}
use Rattle.rules.proofs.Demand1.{replied_formed, done_valid, done_container, tests_reply}

-- ---- from the outcome to the conditions
module _ (c q : List ℕ) (n : ℕ) (w : well_formed c ≡ true) (k : List ℕ) (ts : List Test) (ws : List Write)
    (cut : Option ℕ) (f : request_of q ≡ some (test_write k ts ws cut)) where
  rows_accept : first_row (request_rows (parts_of c) (some (test_write k ts ws cut)) n) ≡ 0 → Accepts c q n
  unfolding request_rows rows admit_rows find_rows room_rows reply_to after parts_of
  rows_accept e =
      let a = clear 4 _ _ (omega arith) e in
      let b = clear 5 _ _ (omega arith) a.1 in
      let d = clear 7 _ _ (omega arith) b.1 in
      let g = clear 8 _ _ (omega arith) d.1 in
      let h = clear 11 _ _ (omega arith) g.1 in
      let s : ℕ = length (data_of c) in
      let n : List ℕ = rewritten ws cut (data_of c) in
      let u : used (with_bytes (parts_of c) n) ≤ length c = ltb-false _ _ h.0 in
      let o = both (every (λ t. resolves t.offset s) ts) (writes_resolve ws s) (not-false _ a.0) in
      record {
        enabler = k;
        tests = ts;
        writes = ws;
        cut = cut;
        formed = w;
        format = f;
        test_offsets = all_named (λ (t : Test). t.offset) ts s o.0;
        write_offsets = writes_named ws (data_of c) o.1;
        matches = same-eq k (enabler_of c) (not-false _ b.0);
        reply_fits = ltb-false _ _ d.0;
        all_hold = every_each (holds (data_of c)) ts (not-false _ g.0);
        result_fits = omega (arith, used-rewritten c n w, u);
      }

-- ---- and back
accepts_rows : (c q : List ℕ) (n : ℕ) (a : Accepts c q n) →
    first_row (request_rows (parts_of c) (some (test_write a.enabler a.tests a.writes a.cut)) n) ≡ 0
unfolding request_rows rows admit_rows find_rows room_rows reply_to after first_row parts_of
accepts_rows c q n a =
    let s : ℕ = length (data_of c) in
    let t : every (λ t. resolves t.offset s) a.tests ≡ true =
    named_all (λ (t : Test). t.offset) a.tests s a.test_offsets in
    let w : writes_resolve a.writes s ≡ true = named_writes a.writes (data_of c) a.write_offsets in
    let e : same a.enabler (enabler_of c) ≡ true = rw a.matches (same_refl (enabler_of c)) in
    let h : every (holds (data_of c)) a.tests ≡ true = each_every (holds (data_of c)) a.tests a.all_hold in
    let u : used (with_bytes (parts_of c) (rewritten a.writes a.cut (data_of c))) ≤ length c =
    rw (used-rewritten c (rewritten a.writes a.cut (data_of c)) a.formed) a.result_fits in
    rw (t, w, e, le-ltb _ _ a.reply_fits, h, le-ltb _ _ u)

module _ (c q r : List ℕ) where
  accepts_done : Accepts c q (length r) → outcome c q (length r) ≡ 0
  accepts_done a = outcome_formed c q (length r) a.formed ∙ rw a.format (accepts_rows c q (length r) a)

  done_accepts : kind_of q ≡ 1 → outcome c q (length r) ≡ 0 → Accepts c q (length r)
  unfolding by_kind test_write_of
  done_accepts k e =
      let w : well_formed c ≡ true = replied_formed c q (length r) (done-replies _ e) in
      let f : request_of q ≡ some (test_write_of q) =
      of_kind q (test_write_ok q) (test_write_of q) (rw k refl) (done_unbroken c q (length r) e) in
      rows_accept c q (length r) w _ _ _ _ f (rw f at (sym (outcome_formed c q (length r) w) ∙ e))

  -- the parts afterwards are those of the rules
  after_accepts : (a : Accepts c q (length r)) →
      after_of (parts_of c) (request_of q) ≡ with_bytes (parts_of c) (rewritten a.writes a.cut (data_of c))
  unfolding after_of maybe after parts_of
  after_accepts a = rw a.format

  count_accepts : (a : Accepts c q (length r)) →
      count_in (after_of (parts_of c) (request_of q))
      ≡ moved_count (count_at c) (length (rewritten a.writes a.cut (data_of c)))
  count_accepts a =
      ap count_in (after_accepts a) ∙ count_with (parts_of c) (rewritten a.writes a.cut (data_of c))
      ∙ rw (parts_count c a.formed)

  pub done_encoded : (a : Accepts c q (length r)) →
      container_after c q r ≡ encode (with_bytes (parts_of c) (rewritten a.writes a.cut (data_of c)))
  done_encoded a = done_container c q r (accepts_done a) ∙ ap encode (after_accepts a)

  done_writes : (a : Accepts c q (length r)) → Writes c q r a
  unfolding with_bytes parts_of
  done_writes a =
      let e : outcome c q (length r) ≡ 0 = accepts_done a in
      let p : parts_of (container_after c q r) ≡ with_bytes (parts_of c) (rewritten a.writes a.cut (data_of c)) =
      ap parts_of (done_container c q r e) ∙ parts_encode _ (done_valid c q r e) ∙ after_accepts a in
      record {
        parts = p;
        count = ap count_at (done_container c q r e) ∙ count_encode _ (done_valid c q r e) ∙ count_accepts a;
        leases = ap (λ (x : Parts). x.leases) p;
        reported = tests_reply c q r a.enabler a.tests a.writes a.cut a.format (done-replies _ e);
      }

  -- DEMAND 2
  pub demand_2 : Demand2 c q r
  demand_2 = record {
    exactly = λ k.
        let n = answered-number c q r in
        ((λ e. done_accepts k (sym n ∙ e)), (λ a. n ∙ accepts_done a));
    writes = done_writes;
  }
