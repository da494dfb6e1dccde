-- Secrets stay in: neither answer nor reply tells the write enabler or the leases. Assumes nothing.
use mathlib.Core.Path.{◌≡◌, refl, ◌∙◌}
use mathlib.Core.List.{List}
use Prim.Native.Nat.{ℕ}
use native.Mathlib.Omega.{arith}
use lib.ListN.{length, take, drop}
use Rattle.octets.specs.Strings.{same}
use Rattle.format.specs.Layout.{enabler_of, secret_size}
use Rattle.format.specs.Parts.{parts_of}
use Rattle.rules.specs.Requests.{kind_of, test_write_of, request_of, secret_at}
use Rattle.octets.specs.Rows.{first_row}
use Rattle.rules.specs.Outcomes.{rows, room_rows, request_rows, reply_to, reply_bytes, counted, answer_to, answered}
use Rattle.rules.specs.Outcomes.{admit_rows, find_rows}
use Rattle.rules.specs.Claims.{SamePublic, SameReply, Secrets}
use Rattle.rules.proofs.RequestLaws.{Kinds, broken, tests, adds, renews, cancels, reads, kinds}
use Rattle.rules.proofs.OutcomeLaws.{outcome_formed, early_rows, early, roomy, same_reply}
use Rattle.octets.specs.Lists.{maybe}

module _ (b c q r : List ℕ) (s : SamePublic b c) where
  read_by : kind_of q ≡ 5 → Kinds q → SameReply b c q r
  unfolding request_rows early_rows early rows admit_rows find_rows room_rows reply_to reply_bytes maybe counted
      answer_to parts_of
  read_by k (broken e) =
      same_reply b c q r (first_row (request_rows (parts_of c) (request_of q) (length r)))
      (outcome_formed b q (length r) s.formed_b ∙ rw e refl)
      (outcome_formed c q (length r) s.formed_c) (rw e refl) (rw e refl)
  read_by k (reads i o e) =
      same_reply b c q r (first_row (request_rows (parts_of c) (request_of q) (length r)))
      (outcome_formed b q (length r) s.formed_b ∙ rw (e, s.bytes) refl)
      (outcome_formed c q (length r) s.formed_c) (rw (e, s.bytes, s.node) refl) (rw (e, s.bytes) refl)
  read_by k (tests i l o e) = absurd (omega arith)
  read_by k (adds i o e) = absurd (omega arith)
  read_by k (renews i o e) = absurd (omega arith)
  read_by k (cancels i o e) = absurd (omega arith)

  write_by : kind_of q ≡ 1 →
      same (take secret_size (drop secret_at q)) (enabler_of b) ≡ same (take secret_size (drop secret_at q)) (enabler_of c) →
      ((answered b q r).number ≡ 11 → ⊥) → ((answered c q r).number ≡ 11 → ⊥) → Kinds q → SameReply b c q r
  unfolding early_rows early rows admit_rows find_rows reply_to reply_bytes maybe counted answer_to parts_of
      test_write_of
  write_by k f hb hc (broken e) =
      same_reply b c q r (early (parts_of c) (request_of q) (length r)) (roomy b q r s.formed_b hb ∙ rw e refl)
      (roomy c q r s.formed_c hc) (rw e refl) (rw e refl)
  write_by k f hb hc (tests i l o e) =
      same_reply b c q r (early (parts_of c) (request_of q) (length r))
      (roomy b q r s.formed_b hb ∙ rw (e, s.bytes, f) refl)
      (roomy c q r s.formed_c hc) (rw (e, s.bytes, s.node) refl) (rw (e, s.bytes) refl)
  write_by k f hb hc (adds i o e) = absurd (omega arith)
  write_by k f hb hc (renews i o e) = absurd (omega arith)
  write_by k f hb hc (cancels i o e) = absurd (omega arith)
  write_by k f hb hc (reads i o e) = absurd (omega arith)

-- SECRETS stay in
pub secrets : (b c q r : List ℕ) → Secrets b c q r
secrets b c q r = record {
  of_read = λ s k. read_by b c q r s k (kinds q);
  of_write = λ s k f hb hc. write_by b c q r s k f hb hc (kinds q);
}
