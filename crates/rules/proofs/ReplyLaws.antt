-- The reply and the answer record beside an outcome's number. Assumes nothing.
use mathlib.Core.Path.{◌≡◌, refl}
use mathlib.Core.Bool.{Bool, true, false, cond, false≢true}
use mathlib.Core.List.{List, [], ◌∷◌}
use mathlib.Core.Option.{Option, none, some}
use Prim.Native.Nat.{ℕ, ◌≤◌}
use native.Mathlib.Omega.{arith}
use lib.ListN.{length, drop}
use lib.Dec.{eqb}
use borrow.Author.Tests.{ltb-false, ne_eqb}
use Rattle.octets.specs.Moves.{put}
use Rattle.octets.proofs.MoveLaws.{put-beyond}
use Rattle.format.specs.Parts.{Parts}
use Rattle.rules.specs.Requests.{Request, test_write, add, renew, cancel, read, kind_of, request_of}
use Rattle.octets.specs.Lists.{any_of, maybe}
use Rattle.octets.specs.Facts.{Among}
use Rattle.rules.specs.Leasing.{present}
use Rattle.rules.specs.Outcomes.{after_of, rows, room_rows, request_rows, reply_to, reply_bytes, replies, counted}
use Rattle.rules.specs.Outcomes.{no_node, answer_to, admit_rows, find_rows}
use Rattle.octets.specs.Rows.{row, first_row}
use Rattle.rules.proofs.RequestLaws.{Kinds, broken, tests, adds, renews, cancels, reads}

-- ---- the numbers on which a reply is written
pub done-replies : (n : ℕ) → n ≡ 0 → replies n ≡ true
unfolding replies
done-replies n e = rw e

pub among_replies : (n : ℕ) → Among n (0 ∷ 8 ∷ []) → replies n ≡ true
unfolding replies any_of
among_replies n = go (eqb n 0) (eqb n 8)
  where
    go : (a b : Bool) → cond a true (cond b true false) ≡ true → cond a true b ≡ true
    go true b e = refl
    go false true e = refl
    go false false e = e

pub unreplied : (n : ℕ) → (n ≡ 0 → ⊥) → (n ≡ 8 → ⊥) → replies n ≡ false
unfolding replies
unreplied n h k = rw (ne_eqb n 0 h, ne_eqb n 8 k)

-- ---- a reply is written only where it fits
no_reply : {A : Type 0} → false ≡ true → A
no_reply e = absurd (false≢true e)

write-replies : (a b c d e : Bool) (n m : ℕ) → (c ≡ false → m ≤ n) →
    replies (first_row (row 4 a ∷ row 5 b ∷ row 7 c ∷ row 8 d ∷ row 11 e ∷ [])) ≡ true → m ≤ n
unfolding replies first_row
write-replies true b c d e n m h k = no_reply k
write-replies false true c d e n m h k = no_reply k
write-replies false false true d e n m h k = no_reply k
write-replies false false false d e n m h k = h refl

read-replies : (a b : Bool) (n m : ℕ) → (b ≡ false → m ≤ n) →
    replies (first_row (row 4 a ∷ row 7 b ∷ [])) ≡ true → m ≤ n
unfolding replies first_row
read-replies true b n m h k = no_reply k
read-replies false true n m h k = no_reply k
read-replies false false n m h k = h refl

pub reply_fits : (p : Parts) (r : Option Request) (n : ℕ) → replies (first_row (request_rows p r n)) ≡ true →
    length (reply_bytes p r) ≤ n
unfolding request_rows reply_bytes maybe rows admit_rows find_rows room_rows reply_to
reply_fits p none n e = omega arith
reply_fits p (some (test_write k ts ws cut)) n e = write-replies _ _ _ _ _ n _ (λ f. ltb-false n _ f) e
reply_fits p (some (add r)) n e = omega arith
reply_fits p (some (renew t x)) n e = omega arith
reply_fits p (some (cancel t)) n e = omega arith
reply_fits p (some (read rs)) n e = read-replies _ _ n _ (λ f. ltb-false n _ f) e

pub counted_front : (p : Parts) (q : Option Request) (n : ℕ) (r : List ℕ) → replies n ≡ true →
    drop (answer_to n p q).count (put 0 (reply_bytes p q) r) ≡ drop (answer_to n p q).count r
unfolding answer_to reply_bytes maybe counted reply_to
counted_front p none n r e = refl
counted_front p (some (test_write k ts ws cut)) n r e =
    let s : List ℕ = reply_to p (test_write k ts ws cut) in
    rw e (put-beyond 0 (length s) s r (omega arith) (omega arith))
counted_front p (some (add x)) n r e = refl
counted_front p (some (renew t x)) n r e = refl
counted_front p (some (cancel t)) n r e = refl
counted_front p (some (read rs)) n r e =
    let s : List ℕ = reply_to p (read rs) in
    rw e (put-beyond 0 (length s) s r (omega arith) (omega arith))

-- ---- the answer's count and node id
pub uncounted : (n : ℕ) (p : Parts) (q : Option Request) → replies n ≡ false → (answer_to n p q).count ≡ 0
unfolding answer_to
uncounted n p none e = refl
uncounted n p (some x) e = rw e

pub five_node : (n : ℕ) (p : Parts) (q : Option Request) → (q ≡ none → ⊥) → n ≡ 5 → (answer_to n p q).node ≡ p.node
unfolding answer_to
five_node n p none h e = absurd (h refl)
five_node n p (some x) h e = rw e

pub other_node : (n : ℕ) (p : Parts) (q : Option Request) → (n ≡ 5 → ⊥) → (answer_to n p q).node ≡ no_node
unfolding answer_to
other_node n p none h = refl
other_node n p (some x) h = rw (ne_eqb n 5 h)

-- where a reply is written, the answer counts
pub replied : (n : ℕ) (p : Parts) (x : Request) → replies n ≡ true → (answer_to n p (some x)).count ≡ counted p x
unfolding answer_to
replied n p x e = rw e

-- ---- lease requests reply nothing, and count leases
pub lease_reply : (p : Parts) (q : List ℕ) → Among (kind_of q) (2 ∷ 3 ∷ 4 ∷ []) → Kinds q →
    reply_bytes p (request_of q) ≡ []
unfolding reply_bytes maybe reply_to any_of
lease_reply p q l (broken e) = rw e
lease_reply p q l (tests k i o e) = absurd (false≢true (rw k at l))
lease_reply p q l (adds k o e) = rw e
lease_reply p q l (renews k o e) = rw e
lease_reply p q l (cancels k o e) = rw e
lease_reply p q l (reads k o e) = absurd (false≢true (rw k at l))

pub lease_count : (p : Parts) (q : List ℕ) → Among (kind_of q) (2 ∷ 3 ∷ 4 ∷ []) → (request_of q ≡ none → ⊥) → Kinds q →
    (answer_to 0 p (request_of q)).count ≡ present (after_of p (request_of q)).leases
unfolding answer_to counted after_of maybe replies any_of
lease_count p q l h (broken e) = absurd (h e)
lease_count p q l h (tests k i o e) = absurd (false≢true (rw k at l))
lease_count p q l h (adds k o e) = rw e
lease_count p q l h (renews k o e) = rw e
lease_count p q l h (cancels k o e) = rw e
lease_count p q l h (reads k o e) = absurd (false≢true (rw k at l))
