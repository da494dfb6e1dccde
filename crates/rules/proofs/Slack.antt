-- Slack and buffer length show in nothing but the room, and only test-and-writes move the count. Assumes nothing.
use mathlib.Core.Path.{◌≡◌, refl, sym, ap, ◌∙◌}
use mathlib.Core.Bool.{Bool, true, false, cond, false≢true}
use mathlib.Core.List.{List, [], ◌∷◌}
use mathlib.Core.Option.{Option, none, some}
use Prim.Native.Nat.{ℕ}
use native.Mathlib.Omega.{arith}
use lib.Dec.{eqb, ltb}
use lib.ListN.{length}
use borrow.Author.Tests.{eqb-true, eqb-false}
use Rattle.octets.specs.Facts.{Among}
use Rattle.octets.specs.Lists.{any_of, maybe}
use Rattle.octets.specs.Rows.{first_row}
use Rattle.octets.proofs.RowLaws.{rows_first, rows_second}
use Rattle.format.specs.Layout.{count_at}
use Rattle.format.specs.Parts.{Parts, count_in, used, parts_of}
use Rattle.format.proofs.RoundTrip.{parts_count, count_encode, node-encode, enabler-encode, data_encode, leases_encode}
use Rattle.rules.specs.Requests.{Request, test_write, add, renew, cancel, read, request_of, kind_of}
use Rattle.rules.specs.Outcomes.{with_bytes, with_leases, after, after_of, rows, admit_rows, find_rows, room_rows}
use Rattle.rules.specs.Outcomes.{request_rows, reply_to, reply_bytes, counted, answer_to, answered, outcome}
use Rattle.rules.specs.Outcomes.{container_after}
use Rattle.rules.specs.Claims.{SameReply}
use Rattle.rules.specs.Slack.{SameButSlack, SlackUnseen, CountStays}
use Rattle.rules.proofs.Kept.{rows_numbered}
use Rattle.rules.proofs.RequestLaws.{Kinds, broken, tests, adds, renews, cancels, reads, kinds}
use Rattle.rules.proofs.OutcomeLaws.{outcome_formed, answered-number, early_rows, early, roomy, same_reply}
use Rattle.rules.proofs.NumberLaws.{first_row_among}
use Rattle.rules.proofs.ReplyLaws.{done-replies}
use Rattle.rules.proofs.Demand1.{demand_1, replied_formed, done_valid, done_container, refused_container}

-- ---- parts that differ at most in slack and buffer length
record Alike (p o : Parts) : Type 0 where
  node : p.node ≡ o.node
  enabler : p.enabler ≡ o.enabler
  bytes : p.bytes ≡ o.bytes
  leases : p.leases ≡ o.leases

module _ (p o : Parts) (a : Alike p o) where
  early_alike : (r : Option Request) (n : ℕ) → early p r n ≡ early o r n
  unfolding early early_rows rows admit_rows find_rows reply_to
  early_alike none n = refl
  early_alike (some (test_write k ts ws cut)) n = rw (a.bytes, a.enabler)
  early_alike (some (add r)) n = rw a.leases
  early_alike (some (renew t x)) n = rw a.leases
  early_alike (some (cancel t)) n = rw a.leases
  early_alike (some (read rs)) n = rw a.bytes

  answer_alike : (r : Option Request) (n : ℕ) → answer_to n p r ≡ answer_to n o r
  unfolding answer_to counted after with_leases reply_to
  answer_alike none n = refl
  answer_alike (some (test_write k ts ws cut)) n = rw (a.bytes, a.node)
  answer_alike (some (add r)) n = rw (a.leases, a.node)
  answer_alike (some (renew t x)) n = rw (a.leases, a.node)
  answer_alike (some (cancel t)) n = rw (a.leases, a.node)
  answer_alike (some (read rs)) n = rw (a.bytes, a.node)

  reply_alike : (r : Option Request) → reply_bytes p r ≡ reply_bytes o r
  unfolding reply_bytes maybe reply_to
  reply_alike none = refl
  reply_alike (some (test_write k ts ws cut)) = rw a.bytes
  reply_alike (some (add r)) = refl
  reply_alike (some (renew t x)) = refl
  reply_alike (some (cancel t)) = refl
  reply_alike (some (read rs)) = rw a.bytes

  with_leases_lem : (ls ms : List (List ℕ)) → ls ≡ ms → Alike (with_leases p ls) (with_leases o ms)
  unfolding with_leases
  with_leases_lem ls ms e = record { node = a.node; enabler = a.enabler; bytes = a.bytes; leases = e }

  after_alike : (r : Option Request) → Alike (after_of p r) (after_of o r)
  unfolding after_of maybe after with_bytes
  after_alike none = a
  after_alike (some (test_write k ts ws cut)) =
      record { node = a.node; enabler = a.enabler; bytes = rw a.bytes; leases = a.leases }
  after_alike (some (add r)) = with_leases_lem _ _ (rw a.leases)
  after_alike (some (renew t x)) = with_leases_lem _ _ (rw a.leases)
  after_alike (some (cancel t)) = with_leases_lem _ _ (rw a.leases)
  after_alike (some (read rs)) = a

-- ---- 'no room' comes last
-- no earlier row has its number
abbrev others : List ℕ
others = 0 ∷ 3 ∷ 4 ∷ 5 ∷ 7 ∷ 8 ∷ 9 ∷ 10 ∷ []

early_other : (p : Parts) (r : Option Request) (n : ℕ) → early p r n ≡ 11 → ⊥
unfolding early early_rows rows admit_rows find_rows any_of
early_other p r n e = false≢true (rw e at (go r))
  where
    go : (r : Option Request) → Among (early p r n) others
    go none = first_row_among others _ refl (refl, tt)
    go (some (test_write k ts ws cut)) = first_row_among others _ refl (refl, (refl, (refl, (refl, tt))))
    go (some (add r)) = first_row_among others _ refl (refl, tt)
    go (some (renew t x)) = first_row_among others _ refl (refl, tt)
    go (some (cancel t)) = first_row_among others _ refl (refl, tt)
    go (some (read rs)) = first_row_among others _ refl (refl, (refl, tt))

room_either : (b : Bool) → Among (cond b 11 0) (0 ∷ 11 ∷ [])
unfolding any_of
room_either true = refl
room_either false = refl

room_among : (p : Parts) (r : Request) → Among (first_row (room_rows p r)) (0 ∷ 11 ∷ [])
unfolding room_rows first_row any_of
room_among p (test_write k ts ws cut) = room_either (ltb p.room (used (after p (test_write k ts ws cut))))
room_among p (add r) = room_either (ltb p.room (used (after p (add r))))
room_among p (renew t x) = refl
room_among p (cancel t) = refl
room_among p (read rs) = refl

late_clear : (p : Parts) (r : Option Request) (n : ℕ) → first_row (request_rows p r n) ≡ 11 → early p r n ≡ 0
unfolding request_rows early early_rows
late_clear p none n e = absurd (early_other p none n e)
late_clear p (some r) n e = go (eqb (early p (some r) n) 0) refl
  where
    go : (b : Bool) → eqb (early p (some r) n) 0 ≡ b → early p (some r) n ≡ 0
    go true z = eqb-true _ _ z
    go false z = absurd (early_other p (some r) n
        (sym (rows_first (rows p r n) (room_rows p r) (rows_numbered p r n) (eqb-false _ _ z)) ∙ e))

late_among : (p : Parts) (r : Option Request) (n : ℕ) → early p r n ≡ 0 →
    Among (first_row (request_rows p r n)) (0 ∷ 11 ∷ [])
unfolding request_rows early early_rows first_row
late_among p none n e = absurd (let z : ◌≡◌ {A = ℕ} 3 0 = e in omega arith)
late_among p (some r) n e = rw (rows_second (rows p r n) (room_rows p r) (rows_numbered p r n) e) (room_among p r)

-- ---- two containers
module _ (b c q r : List ℕ) (s : SameButSlack b c) where
  parts_alike : Alike (parts_of b) (parts_of c)
  unfolding parts_of
  parts_alike = record { node = s.node; enabler = s.enabler; bytes = s.bytes; leases = s.leases }

  number_alike : early (parts_of b) (request_of q) (length r) ≡ early (parts_of c) (request_of q) (length r)
  number_alike = early_alike (parts_of b) (parts_of c) parts_alike (request_of q) (length r)

  unseen_room : (answered b q r).number ≡ 11 → Among (answered c q r).number (0 ∷ 11 ∷ [])
  unseen_room e =
      let f = sym (outcome_formed b q (length r) s.formed_b) ∙ sym (answered-number b q r) ∙ e in
      rw (answered-number c q r, outcome_formed c q (length r) s.formed_c)
      (late_among (parts_of c) (request_of q) (length r)
      (sym number_alike ∙ late_clear (parts_of b) (request_of q) (length r) f))

  module _ (hb : (answered b q r).number ≡ 11 → ⊥) (hc : (answered c q r).number ≡ 11 → ⊥) where
    same_number : outcome b q (length r) ≡ outcome c q (length r)
    same_number = roomy b q r s.formed_b hb ∙ number_alike ∙ sym (roomy c q r s.formed_c hc)

    unseen : SameReply b c q r
    unseen =
        same_reply b c q r (outcome c q (length r)) same_number refl
        (answer_alike (parts_of b) (parts_of c) parts_alike (request_of q) (outcome c q (length r)))
        (reply_alike (parts_of b) (parts_of c) parts_alike (request_of q))

    unseen_again : SameButSlack (container_after b q r) (container_after c q r)
    unseen_again = go (eqb (outcome c q (length r)) 0) refl
      where
        go : (t : Bool) → eqb (outcome c q (length r)) 0 ≡ t
            → SameButSlack (container_after b q r) (container_after c q r)
        go true z =
            let ec : outcome c q (length r) ≡ 0 = eqb-true _ _ z in
            let eb : outcome b q (length r) ≡ 0 = same_number ∙ ec in
            let vb = done_valid b q r eb in
            let vc = done_valid c q r ec in
            let a = after_alike (parts_of b) (parts_of c) parts_alike (request_of q) in
            record {
              formed_b = (demand_1 b q r).stays_formed s.formed_b;
              formed_c = (demand_1 c q r).stays_formed s.formed_c;
              node = rw (done_container b q r eb, done_container c q r ec)
                  (node-encode _ vb ∙ a.node ∙ sym (node-encode _ vc));
              enabler = rw (done_container b q r eb, done_container c q r ec)
                  (enabler-encode _ vb ∙ a.enabler ∙ sym (enabler-encode _ vc));
              bytes = rw (done_container b q r eb, done_container c q r ec)
                  (data_encode _ vb ∙ a.bytes ∙ sym (data_encode _ vc));
              leases = rw (done_container b q r eb, done_container c q r ec)
                  (leases_encode _ vb ∙ a.leases ∙ sym (leases_encode _ vc));
            }
        go false z =
            let nc : outcome c q (length r) ≡ 0 → ⊥ = eqb-false _ _ z in
            rw (refused_container b q r (λ e. nc (sym same_number ∙ e)), refused_container c q r nc) s

-- SLACK IS NOT SEEN
pub slack_unseen : (b c q r : List ℕ) → SlackUnseen b c q r
slack_unseen b c q r = record { alike = unseen b c q r; again = unseen_again b c q r; no_room_holds = unseen_room b c q r }

-- ---- the count
after_count : (p : Parts) (q : List ℕ) → (kind_of q ≡ 1 → ⊥) → Kinds q → count_in (after_of p (request_of q)) ≡ count_in p
unfolding after_of maybe after with_leases count_in
after_count p q h (broken e) = rw e refl
after_count p q h (tests k l o e) = absurd (h k)
after_count p q h (adds k o e) = rw e refl
after_count p q h (renews k o e) = rw e refl
after_count p q h (cancels k o e) = rw e refl
after_count p q h (reads k o e) = rw e refl

-- THE COUNT STAYS
pub count_stays : (c q r : List ℕ) → CountStays c q r
count_stays c q r = record { stays = λ h. go h (eqb (outcome c q (length r)) 0) refl }
  where
    go : (kind_of q ≡ 1 → ⊥) → (t : Bool) → eqb (outcome c q (length r)) 0 ≡ t → count_at (container_after c q r)
        ≡ count_at c
    go h true z =
        let e : outcome c q (length r) ≡ 0 = eqb-true _ _ z in
        ap count_at (done_container c q r e) ∙ count_encode _ (done_valid c q r e)
        ∙ after_count (parts_of c) q h (kinds q) ∙ parts_count c (replied_formed c q (length r) (done-replies _ e))
    go h false z = ap count_at (refused_container c q r (eqb-false _ _ z))
