-- What the number of a test-and-write makes of answer, container and reply space. Assumes nothing.
use mathlib.Core.Path.{◌≡◌, refl, sym, ap, subst, ◌∙◌}
use mathlib.Core.Bool.{Bool, true, false, cond, false≢true}
use mathlib.Core.List.{List, ◌∷◌, ◌++◌}
use Prim.Native.Nat.{ℕ, ◌≤◌}
use lib.Dec.{eqb, ltb}
use Rattle.octets.specs.Moves.{put}
use lib.ListN.{length}
use borrow.Author.Tests.{ltb-false}
use Rattle.format.specs.declared.layout.Frame.{Frame}
use Rattle.rules.specs.declared.Answer.{Answer}
use Rattle.requests.specs.declared.forms.Parted.{Parted}
use Rattle.std.specs.Prelude.{Result, Ok, Err}
use Rattle.rules.specs.Refusals.{number_of}
use Rattle.rules.proofs.RefusalLaws.{refusal_replies, refusal_silent}
use Rattle.rules.specs.declared.outcomes.Refusal.{Refusal}
use Rattle.rules.specs.declared.outcomes.Refusal.TheVariants.{WrongEnabler}
use Rattle.verdicts.specs.declared.writing.Due.{Due}
use Rattle.verdicts.specs.declared.writing.Verdict.{Verdict}
use Rattle.verdicts.specs.declared.writing.Verdict.TheVariants.{TestFalse, Accepted}
use Rattle.verdicts.specs.Writing.{Decided, Measures, Tells, verdict_number, verdict_of}
use Rattle.format.specs.Judging.{Known}
use Rattle.octets.specs.Rows.{Row, first_row, row}
use Rattle.rules.specs.Outcomes.{after, answered, replies, reply_to, request_rows, rows, admit_rows, answer_of}
use Rattle.rules.specs.Outcomes.{container_after, counted, outcome, find_rows, no_node, reply_after, room_rows}
use Rattle.rules.specs.Outcomes.{after_of, answer_to, reply_bytes}
use Rattle.requests.specs.Forms.{write_in, WriteRequest}
use Rattle.format.specs.Layout.{data_of, node_of}
use Rattle.octets.specs.Lists.{maybe}
use Rattle.format.specs.Parts.{parts_of, encode}
use Rattle.replies.specs.Pieces.{pieces_in}
use Rattle.rules.specs.Testing.{reply_of}
use Rattle.rules.proofs.OutcomeLaws.{outcome_formed}
use Rattle.replies.proofs.PieceLaws.{test_pieces}

-- ---- what follows from the number
short_no : (a b : Bool) (n m : ℕ) (rs : List Row)
    → replies (first_row (row 4 a ∷ row 5 b ∷ row 7 (ltb n m) ∷ rs)) ≡ true → m ≤ n
unfolding first_row replies
short_no true b n m rs e = absurd (false≢true e)
short_no false true n m rs e = absurd (false≢true e)
short_no false false n m rs e = go (ltb n m) refl e
  where
    go : (t : Bool) → ltb n m ≡ t → replies (cond t 7 (first_row rs)) ≡ true → m ≤ n
    go true p e = absurd (false≢true e)
    go false p e = ltb-false n m p

refused_writes : (k : ℕ) → replies k ≡ false → eqb k 0 ≡ false
unfolding replies
refused_writes k = go (eqb k 0)
  where
    go : (t : Bool) → cond t true (eqb k 8) ≡ false → t ≡ false
    go true e = e
    go false e = refl

unrefused : (y : Verdict) → replies (verdict_number (Ok y)) ≡ true
unfolding replies
unrefused (TestFalse n) = refl
unrefused (Accepted d) = refl

-- ---- a request whose verdict v is known, beside the reply space r
pub record Writing (c q r : List ℕ) (f : Frame) (t : Parted) (v : Result Verdict Refusal) : Type 0 where
  pub known : Known c f
  pub request : WriteRequest q t
  pub verdict : Tells v (verdict_of (parts_of c) (write_in t q) (length r))

pub writing : {c q r : List ℕ} {f : Frame} {t : Parted} {v : Result Verdict Refusal}
    → Known c f × (WriteRequest q t × Tells v (verdict_of (parts_of c) (write_in t q) (length r))) → Writing c q r f t v
writing p = record { known = p.0; request = p.1.0; verdict = p.1.1 }

module _ {c q r : List ℕ} {f : Frame} {t : Parted} {v : Result Verdict Refusal} (G : Writing c q r f t v) where
  pub number_is : outcome c q (length r) ≡ verdict_number v
  unfolding request_rows verdict_of
  number_is = outcome_formed c q (length r) G.known.formed ∙ rw G.request.is (sym G.verdict.number)

  -- What is due where every test holds.
  pub decided : {d : Due} → v ≡ Ok (Accepted d) → Decided c q f t d
  decided e = record {
    known = G.known;
    parted = G.request.parted;
    space = length r;
    number = sym G.verdict.number ∙ ap verdict_number e;
    size = (subst (λ (w : Result Verdict Refusal). Measures w (verdict_of (parts_of c) (write_in t q) (length r))) e
        G.verdict.lengths).1;
  }

  -- What has to be shown of an answer, a container and a reply space afterwards.
  abbrev Results : Answer → List ℕ → List ℕ → Type 0
  Results x e s = (x ≡ answered c q r) × ((e ≡ container_after c q r) × (s ≡ reply_after c q r))

  -- A refused request writes nothing, and only 5 names the node.
  pub refused : {k : Refusal} → v ≡ Err k → {x : Answer}
      → x ≡ answer_of (number_of k) (cond (eqb (number_of k) 5) (node_of c) no_node) 0 → Results x c r
  unfolding answered container_after reply_after answer_to parts_of
  refused {k} e i =
      let n : outcome c q (length r) ≡ number_of k = number_is ∙ ap verdict_number e in
      let z = refusal_replies k in
      (rw (n, G.request.is, z, i), (rw (n, refused_writes (number_of k) z), rw (n, z)))

  pub differs : v ≡ Err WrongEnabler → {x : Answer} → x ≡ answer_of 5 (node_of c) 0 → Results x c r
  differs e i = refused e i

  -- The count is a number of its own here: whoever answers shows that it is 0.
  pub other : {k : Refusal} → v ≡ Err k → (k ≡ WrongEnabler → ⊥) → {x : Answer} {n m : ℕ}
      → x ≡ answer_of n no_node m → n ≡ number_of k → m ≡ 0 → Results x c r
  other {k} e h i is none = refused e (rw (refusal_silent k h).no_node_holds (rw (is, none) at i))

  -- On 0 and 8 the reply is written.
  replied : (k m : ℕ) → verdict_number v ≡ k → replies k ≡ true
      → m ≡ (verdict_of (parts_of c) (write_in t q) (length r)).reply
      → Results (answer_of k (cond (eqb k 5) (node_of c) no_node) m)
      (cond (eqb k 0) (encode (after (parts_of c) (write_in t q))) c) (put 0 (reply_to (parts_of c) (write_in t q)) r)
  unfolding answered container_after reply_after answer_to after_of reply_bytes maybe parts_of verdict_of counted
  replied k m e z l = (
    rw (number_is, e, G.request.is, z, l),
    (rw (number_is, e, G.request.is), rw (number_is, e, z, G.request.is)),
  )

  -- d is the data as the code takes it.
  module _ {d : List ℕ} (D : d ≡ data_of c) where
    reply_read : reply_of (pieces_in t.tests q d) ≡ reply_to (parts_of c) (write_in t q)
    unfolding reply_to parts_of
    reply_read =
        rw (D, G.request.parted.tests_stride)
        (ap reply_of (sym (test_pieces t.tests.count t.tests.first.at t.specimens.at q (data_of c))))

    number-rows : verdict_number v
        ≡ first_row (rows (parts_of c) (write_in t q) (length r) ++ room_rows (parts_of c) (write_in t q))
    unfolding verdict_of
    number-rows = G.verdict.number

    pub reply_fits : {y : Verdict} → v ≡ Ok y → length (reply_of (pieces_in t.tests q d)) ≤ length r
    unfolding rows admit_rows find_rows
    reply_fits {y} e =
        let z : replies (verdict_number v) ≡ true = rw e (unrefused y) in
        rw reply_read (short_no _ _ (length r) (length (reply_to (parts_of c) (write_in t q))) _ (rw number-rows at z))

    -- A false test: the reply alone is written.
    pub failed : {m : ℕ} → v ≡ Ok (TestFalse m) → {x : Answer} {s : List ℕ} → x ≡ answer_of 8 no_node m
        → s ≡ put 0 (reply_of (pieces_in t.tests q d)) r → Results x c s
    unfolding replies
    failed {m} e i j =
        let l = subst (λ (w : Result Verdict Refusal). Measures w (verdict_of (parts_of c) (write_in t q) (length r))) e
        G.verdict.lengths in
        rw (i, j, reply_read) (replied 8 m (ap verdict_number e) refl l)

    -- Done: e is what the rewriting made of the container.
    pub done : {u : Due} → v ≡ Ok (Accepted u) → {x : Answer} {e s : List ℕ} → x ≡ answer_of 0 no_node u.reply
        → e ≡ encode (after (parts_of c) (write_in t q)) → s ≡ put 0 (reply_of (pieces_in t.tests q d)) r → Results x e s
    unfolding replies
    done {u} z i h j =
        let l = subst (λ (w : Result Verdict Refusal). Measures w (verdict_of (parts_of c) (write_in t q) (length r))) z
        G.verdict.lengths in
        rw (i, h, j, reply_read) (replied 0 u.reply (ap verdict_number z) refl l.0)
