-- Secrets stay in beside a list too: neither answer, reply nor list tells the write enabler or the leases. Assumes
-- nothing.
use mathlib.Core.Path.{◌≡◌, refl, sym, ap, ◌∙◌}
use mathlib.Core.Bool.{true, false}
use mathlib.Core.List.{List}
use mathlib.Core.Option.{Option, none, some}
use Prim.Native.Nat.{ℕ}
use lib.ListN.{length}
use native.Mathlib.Omega.{arith}
use lib.Dec.{eqb}
use Rattle.format.specs.Container.{well_formed}
use Rattle.format.specs.Layout.{data_of}
use Rattle.format.specs.Parts.{Parts, parts_of}
use Rattle.rules.specs.Requests.{Request, test_write, add, renew, cancel, read, request_of}
use Rattle.rules.specs.Outcomes.{replies, outcome, answer_of, no_node, answer_to, answered}
use Rattle.rules.specs.Claims.{SamePublic, SameReply}
use Rattle.rules.specs.declared.Answer.{Answer}
use Rattle.rules.proofs.OutcomeLaws.{answered-number}
use Rattle.rules.proofs.Secrets.{secrets}
use Rattle.stretches.specs.List.{list_ok}
use Rattle.stretches.proofs.ShapeLaws.{never}
use Rattle.listed_rules.specs.Outcomes.{next_stretches, outcome_beside, list_to, answered_beside, list_after}
use Rattle.listed_rules.specs.Claims.{Own, SameBeside, SecretsBeside}
use Rattle.listed_rules.proofs.BesideLaws.{next_of, beside_by, beside_formed, Ends, malformed, bad_list, refused}
use Rattle.listed_rules.proofs.BesideLaws.{too_many, done, ends, beside-number, own_by, list_kept, reply_kept}

-- an answer without node id and count tells nothing of the parts
bare : (n : ℕ) (p : Parts) (x : Option Request) → eqb n 5 ≡ false → replies n ≡ false →
    answer_to n p x ≡ answer_of n no_node 0
unfolding answer_to
bare n p none f e = refl
bare n p (some x) f e = rw (f, e)

bare_answer : (c l q r : List ℕ) (n : ℕ) → outcome_beside c l q (length r) ≡ n → eqb n 5 ≡ false → replies n ≡ false →
    answered_beside c l q r ≡ answer_of n no_node 0
unfolding answered_beside
bare_answer c l q r n o f e = rw o (bare n (parts_of c) (request_of q) f e)

module _ (b c l q r : List ℕ) (s : SamePublic b c) where
  next_same : next_of b l q ≡ next_of c l q
  unfolding next_stretches parts_of
  next_same = rw s.bytes

  list_same : (x : Option Request) → list_to (parts_of b) x l ≡ list_to (parts_of c) x l
  unfolding list_to next_stretches parts_of
  list_same none = refl
  list_same (some (test_write k ts ws cut)) = rw s.bytes
  list_same (some (add x)) = refl
  list_same (some (renew t x)) = refl
  list_same (some (cancel t)) = refl
  list_same (some (read rs)) = refl

  ok_same : list_ok l (data_of b) ≡ list_ok l (data_of c)
  ok_same = ap (list_ok l) s.bytes

  -- the container's own number tells the number
  outcome-same : SameReply b c q r → outcome b q (length r) ≡ outcome c q (length r)
  outcome-same e = sym (answered-number b q r) ∙ ap (λ (a : Answer). a.number) e.answer ∙ answered-number c q r

  number_same : SameReply b c q r → outcome_beside b l q (length r) ≡ outcome_beside c l q (length r)
  number_same e =
      beside_formed b l q (length r) s.formed_b
      ∙ rw (ok_same, outcome-same e, next_same) (sym (beside_formed c l q (length r) s.formed_c))

  -- 13 and 16
  same-refused : (n : ℕ) → outcome_beside b l q (length r) ≡ n → outcome_beside c l q (length r) ≡ n →
      (n ≡ 0 → ⊥) → eqb n 5 ≡ false → replies n ≡ false → SameBeside b c l q r
  same-refused n eb ec z f e = record {
    answer = bare_answer b l q r n eb f e ∙ sym (bare_answer c l q r n ec f e);
    reply = reply_kept b l q r (rw eb e) ∙ sym (reply_kept c l q r (rw ec e));
    list = list_kept b l q r (λ h. z (sym eb ∙ h)) ∙ sym (list_kept c l q r (λ h. z (sym ec ∙ h)));
  }

  -- every other number
  same_own : outcome_beside b l q (length r) ≡ outcome b q (length r) → SameReply b c q r → SameBeside b c l q r
  unfolding list_after
  same_own e h =
      let n : outcome_beside b l q (length r) ≡ outcome_beside c l q (length r) = number_same h in
      let ob : Own b l q r = own_by b l q r e in
      let oc : Own c l q r = own_by c l q r (sym n ∙ e ∙ outcome-same h) in
      record {
        answer = ob.answer ∙ h.answer ∙ sym oc.answer;
        reply = ob.reply ∙ h.reply ∙ sym oc.reply;
        list = rw (n, list_same (request_of q));
      }

  same_by : Ends b l q (length r) → (list_ok l (data_of b) ≡ true → SameReply b c q r) → SameBeside b c l q r
  unfolding beside_by replies
  same_by (malformed w e) h = never s.formed_b w
  same_by (bad_list w k e) h =
      same-refused 16 e (beside_formed c l q (length r) s.formed_c ∙ rw (sym ok_same ∙ k)) (λ z. omega arith) refl
      refl
  same_by (refused w k z e) h = same_own e (h k)
  same_by (too_many w k z m e) h = same-refused 13 e (sym (number_same (h k)) ∙ e) (λ y. omega arith) refl refl
  same_by (done w k z m e) h = same_own (e ∙ sym z) (h k)

-- where the list is good, the container's own 11 is heard
roomy_own : (c l q r : List ℕ) → well_formed c ≡ true → list_ok l (data_of c) ≡ true →
    ((answered_beside c l q r).number ≡ 11 → ⊥) → (answered c q r).number ≡ 11 → ⊥
unfolding beside_by
roomy_own c l q r w k h e =
    h (beside-number c l q r ∙ beside_formed c l q (length r) w ∙ rw (k, sym (answered-number c q r) ∙ e))

-- SECRETS stay in beside a list
pub secrets_beside : (b c l q r : List ℕ) → SecretsBeside b c l q r
secrets_beside b c l q r = record {
  of_read = λ s k. same_by b c l q r s (ends b l q (length r)) (λ g. (secrets b c q r).of_read s k);
  of_write = λ s k f hb hc. same_by b c l q r s (ends b l q (length r))
      (λ g. (secrets b c q r).of_write s k f (roomy_own b l q r s.formed_b g hb)
      (roomy_own c l q r s.formed_c (sym (ok_same b c l q r s) ∙ g) hc));
}
