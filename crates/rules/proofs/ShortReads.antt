-- Short reads: when a read is done, what it returns, and what its pieces are. Assumes nothing.
use mathlib.Core.Path.{◌≡◌, refl, sym, ap, ◌∙◌}
use mathlib.Core.Bool.{Bool, true, false, cond, not, false≢true}
use mathlib.Core.List.{List, [], ◌∷◌, map}
use mathlib.Core.Option.{some}
use mathlib.Core.Logic.{◌↔◌}
use Prim.Native.Nat.{ℕ}
use native.Mathlib.Omega.{arith}
use lib.ListN.{length, take, drop, take-append-drop, length-take, length-drop, drop_of_length-le}
use lib.Seq.{take-nil, take_all, drop-drop}
use lib.Dec.{eqb, ltb}
use lib.IntN.{ℤ}
use borrow.Author.Tests.{not-false, ltb-true, ltb-false, lt-ltb, le-ltb}
use Rattle.octets.specs.Lists.{every, or_else, maybe}
use Rattle.octets.specs.Facts.{Octets, Each}
use Rattle.octets.specs.Rows.{first_row, row}
use Rattle.octets.proofs.ListLaws.{by_refuting}
use Rattle.octets.proofs.RowLaws.{clear}
use Rattle.format.specs.Container.{well_formed}
use Rattle.format.specs.Layout.{data_of}
use Rattle.format.specs.Parts.{parts_of, encode}
use Rattle.format.proofs.RoundTrip.{encode_parts}
use Rattle.rules.specs.Requests.{Read, read, kind_of, request_of, by_kind, read_ok, reads_from, read_count, reads_at}
use Rattle.rules.specs.Testing.{resolve, resolves, position, piece, test_piece, read_piece, reply_of}
use Rattle.rules.specs.Outcomes.{after, after_of, rows, room_rows, request_rows, reply_to, outcome, container_after}
use Rattle.rules.specs.Outcomes.{admit_rows, find_rows}
use Rattle.rules.specs.Offsets.{NotBefore}
use Rattle.rules.specs.Claims.{AcceptsRead, ShortReads, ShortPiece}
use Rattle.rules.proofs.RequestLaws.{of_kind}
use Rattle.rules.proofs.OutcomeLaws.{outcome_formed, answered-number}
use Rattle.rules.proofs.ReplyLaws.{done-replies}
use Rattle.rules.proofs.Demand1.{replied_formed, reads_reply}
use Rattle.rules.proofs.NumberLaws.{done_unbroken}
use Rattle.rules.proofs.OffsetLaws.{all_named, named_all}

-- ---- the rows of a read
-- Whether every offset of the reads resolves on the data of c.
abbrev pub all_resolve : List ℕ → List Read → Bool
all_resolve c rs = every (λ x. resolves x.offset (length (data_of c))) rs

-- The length of their reply.
abbrev pub reply_size : List ℕ → List Read → ℕ
reply_size c rs = length (reply_of (map (read_piece (data_of c)) rs))

pub read-outcome : (c q : List ℕ) (n : ℕ) (rs : List Read) → well_formed c ≡ true → request_of q ≡ some (read rs) →
    outcome c q n ≡ first_row (row 4 (not (all_resolve c rs)) ∷ row 7 (ltb n (reply_size c rs)) ∷ [])
unfolding request_rows rows admit_rows find_rows room_rows reply_to parts_of
read-outcome c q n rs w f = outcome_formed c q n w ∙ rw f

-- A read, done or refused, leaves the container as it was.
pub read_container : (c q r : List ℕ) (rs : List Read) → well_formed c ≡ true → Octets c → request_of q ≡ some (read rs)
    → container_after c q r ≡ c
unfolding container_after after_of maybe after
read_container c q r rs w o is = rw is (go (eqb (outcome c q (length r)) 0))
  where
    go : (b : Bool) → cond b (encode (parts_of c)) c ≡ c
    go true = encode_parts c w o
    go false = refl

-- ---- exactly when
module _ (c q r : List ℕ) where
  done-read : kind_of q ≡ 5 → outcome c q (length r) ≡ 0 → AcceptsRead c q (length r)
  unfolding by_kind
  done-read k e =
      let rs : List Read = reads_from (read_count q) reads_at q in
      let w : well_formed c ≡ true = replied_formed c q (length r) (done-replies _ e) in
      let f : request_of q ≡ some (read rs) =
      of_kind q (read_ok q) (read rs) (rw k refl) (done_unbroken c q (length r) e) in
      let a = clear 4 _ _ (omega arith) (sym (read-outcome c q (length r) rs w f) ∙ e) in
      let b = clear 7 _ _ (omega arith) a.1 in
      record {
        reads = rs;
        formed = w;
        format = f;
        offsets = all_named (λ (x : Read). x.offset) rs (length (data_of c)) (not-false _ a.0);
        reply_fits = ltb-false _ _ b.0;
      }

  -- with row 4 out of the way, row 7 decides
  sevens : (rs : List Read) → well_formed c ≡ true → request_of q ≡ some (read rs) →
      Each (λ x. NotBefore x.offset (length (data_of c))) rs →
      outcome c q (length r) ≡ cond (ltb (length r) (reply_size c rs)) 7 0
  unfolding first_row
  sevens rs w f o =
      read-outcome c q (length r) rs w f
      ∙ rw (named_all (λ (x : Read). x.offset) rs (length (data_of c)) o)

  read_done : AcceptsRead c q (length r) → outcome c q (length r) ≡ 0
  read_done a = sevens a.reads a.formed a.format a.offsets ∙ rw (le-ltb _ _ a.reply_fits)

  four : (a b : Bool) → ◌≡◌ {A = ℕ} (cond (not a) 4 (cond b 7 0)) 4 → a ≡ false
  four true true e = absurd (omega arith)
  four true false e = absurd (omega arith)
  four false b e = refl

  fours : (rs : List Read) → well_formed c ≡ true → request_of q ≡ some (read rs) →
      (outcome c q (length r) ≡ 4) ↔ (Each (λ x. NotBefore x.offset (length (data_of c))) rs → ⊥)
  unfolding first_row
  fours rs w f =
      let at : Read → ℤ = λ x. x.offset in
      let s : ℕ = length (data_of c) in
      let o = read-outcome c q (length r) rs w f in (
        (λ e h. false≢true (sym (four _ (ltb (length r) (reply_size c rs)) (sym o ∙ e)) ∙ named_all at rs s h)),
        (λ h. o ∙ rw (by_refuting (all_resolve c rs) (λ e. h (all_named at rs s e)))),
      )

  seven : (b : Bool) → ◌≡◌ {A = ℕ} (cond b 7 0) 7 → b ≡ true
  seven true e = refl
  seven false e = absurd (omega arith)

  -- SHORT READS
  pub short_reads : ShortReads c q r
  short_reads =
      let n = answered-number c q r in
      record {
        exactly = λ k. ((λ e. done-read k (sym n ∙ e)), (λ a. n ∙ read_done a));
        returns = λ a. record {
          reported = reads_reply c q r a.reads a.format (done-replies _ (read_done a));
          kept = λ o. read_container c q r a.reads a.formed o a.format;
        };
        before_start = λ rs w f. let k = fours rs w f in ((λ e. k.0 (sym n ∙ e)), (λ h. n ∙ k.1 h));
        no_space = λ rs w f o.
            let s = sevens rs w f o in (
              (λ e. ltb-true _ _ (seven _ (sym s ∙ sym n ∙ e))),
              (λ l. n ∙ s ∙ rw (lt-ltb _ _ l)),
            );
      }

-- ---- pieces
module _ (d : List ℕ) (x : Read) where
  module _ (o : ℕ) (f : resolve x.offset (length d) ≡ some o) where
    at : read_piece d x ≡ take x.count (drop o d)
    unfolding read_piece piece position or_else
    at = rw f

  -- SHORT PIECES
  pub short_piece : ShortPiece d x
  unfolding test_piece read_piece
  short_piece = record {
    part = λ o f.
        rw (at o f, sym (drop-drop x.count o d), take-append-drop x.count (drop o d)) (take-append-drop o d);
    inside = λ o f h. ap length (at o f) ∙ omega (arith, length-take x.count (drop o d), length-drop o d);
    across = λ o f h. at o f ∙ take_all x.count (drop o d) (rw length-drop (omega arith));
    past = λ o f h. at o f ∙ rw (drop_of_length-le d {i = o} h) (take-nil x.count);
    alike = λ t f g. rw (f, g);
  }
