-- The outcome on a well-formed container, with and without the room, and the parts afterwards. Assumes nothing.
use mathlib.Core.Path.{◌≡◌, refl, sym, ◌∙◌}
use mathlib.Core.Bool.{Bool, true, false, cond, true≢false}
use mathlib.Core.List.{List, [], ◌∷◌, ◌++◌}
use mathlib.Core.Option.{Option, none, some}
use Prim.Native.Nat.{ℕ}
use lib.Dec.{eqb, ltb}
use lib.ListN.{length}
use borrow.Author.Tests.{eqb-true, ne_eqb}
use Rattle.octets.specs.Moves.{put}
use Rattle.format.specs.Container.{length_allowed, well_formed}
use Rattle.format.specs.Parts.{Parts, used, parts_of, encode}
use Rattle.format.specs.Claims.{Valid}
use Rattle.octets.proofs.ListLaws.{both}
use Rattle.format.proofs.RoundTrip.{encode_formed, parts_encode}
use Rattle.rules.specs.Requests.{Request, test_write, add, renew, cancel, read, request_of}
use Rattle.rules.specs.Outcomes.{with_bytes, with_leases, after, after_of, rows, room_rows, request_rows, outcome}
use Rattle.rules.specs.Outcomes.{answer_to, answered, replies, reply_bytes, reply_after, container_after}
use Rattle.rules.specs.Claims.{SameReply}
use Rattle.octets.specs.Lists.{maybe}
use Rattle.octets.specs.Rows.{Row, row, first_row}
use Rattle.rules.proofs.Kept.{after_valid}
use Rattle.rules.proofs.RequestLaws.{ProperOption, request_proper}

pub formed_length : (c : List ℕ) → well_formed c ≡ true → length_allowed c ≡ true
unfolding well_formed
formed_length c w = (both _ _ w).0

-- rows 1 and 2 do not apply to a well-formed container
pub outcome_formed : (c q : List ℕ) (n : ℕ) → well_formed c ≡ true → outcome c q n
    ≡ first_row (request_rows (parts_of c) (request_of q) n)
unfolding outcome first_row
outcome_formed c q n w = rw (formed_length c w, w)

pub outcome-encode : (p : Parts) (q : List ℕ) (n : ℕ) → Valid p → outcome (encode p) q n
    ≡ first_row (request_rows p (request_of q) n)
outcome-encode p q n v = outcome_formed (encode p) q n (encode_formed p v) ∙ rw (parts_encode p v)

-- the answer record holds the outcome's number
pub answer-number : (n : ℕ) (p : Parts) (r : Option Request) → (answer_to n p r).number ≡ n
unfolding answer_to
answer-number n p none = refl
answer-number n p (some r) = refl

pub answered-number : (c q r : List ℕ) → (answered c q r).number ≡ outcome c q (length r)
unfolding answered
answered-number c q r = answer-number (outcome c q (length r)) (parts_of c) (request_of q)

-- the parts afterwards: no request changes the room, and one that is done keeps the rules
pub room_after : (p : Parts) (r : Option Request) → (after_of p r).room ≡ p.room
unfolding after_of maybe after with_bytes with_leases
room_after p none = refl
room_after p (some (test_write k ts ws cut)) = refl
room_after p (some (add r)) = refl
room_after p (some (renew t x)) = refl
room_after p (some (cancel t)) = refl
room_after p (some (read rs)) = refl

pub valid_after : (p : Parts) (r : Option Request) (n : ℕ) → Valid p → ProperOption r
    → eqb (first_row (request_rows p r n)) 0 ≡ true → Valid (after_of p r)
unfolding request_rows after_of maybe
valid_after p none n v q e = v
valid_after p (some r) n v q e = after_valid p r n v q (eqb-true _ _ e)

-- the parts that a request leaves, done or refused; the bytes that it leaves are theirs
unfoldable pub left_parts : Parts → List ℕ → ℕ → Parts
left_parts p q n = cond (eqb (first_row (request_rows p (request_of q) n)) 0) (after_of p (request_of q)) p

pub left_encode : (p : Parts) (q r : List ℕ) → Valid p → container_after (encode p) q r ≡ encode (left_parts p q (length r))
unfolding left_parts container_after
left_encode p q r v = rw (outcome-encode p q (length r) v, parts_encode p v)
    (go (eqb (first_row (request_rows p (request_of q) (length r))) 0))
  where
    go : (b : Bool) → cond b (encode (after_of p (request_of q))) (encode p) ≡ encode (cond b (after_of p (request_of q)) p)
    go true = refl
    go false = refl

pub left_valid : (p : Parts) (q : List ℕ) (n : ℕ) → Valid p → Valid (left_parts p q n)
unfolding left_parts
left_valid p q n v = go (eqb (first_row (request_rows p (request_of q) n)) 0) refl
  where
    go : (b : Bool) → eqb (first_row (request_rows p (request_of q) n)) 0 ≡ b → Valid (cond b (after_of p (request_of q)) p)
    go true e = valid_after p (request_of q) n v (request_proper q) e
    go false e = v

-- a request's number without its room row
unfoldable pub early_rows : Parts → Option Request → ℕ → List Row
early_rows p none n = row 3 true ∷ []
early_rows p (some r) n = rows p r n

unfoldable pub early : Parts → Option Request → ℕ → ℕ
early p r n = first_row (early_rows p r n)

last_row : (b : Bool) → eqb (cond b 11 0) 11 ≡ false → ◌≡◌ {A = ℕ} (cond b 11 0) 0
last_row true e = absurd (true≢false e)
last_row false e = refl

room_alone : (p : Parts) (r : Request) → eqb (first_row (room_rows p r)) 11 ≡ false → first_row (room_rows p r) ≡ 0
unfolding room_rows first_row
room_alone p (test_write k ts ws cut) e = last_row (ltb p.room (used (after p (test_write k ts ws cut)))) e
room_alone p (add r) e = last_row (ltb p.room (used (after p (add r)))) e
room_alone p (renew t x) e = refl
room_alone p (cancel t) e = refl
room_alone p (read rs) e = refl

-- where the number is not 11, the room row does not matter
room_last : (a : List Row) (p : Parts) (r : Request) → eqb (first_row (a ++ room_rows p r)) 11 ≡ false
    → first_row (a ++ room_rows p r) ≡ first_row a
unfolding first_row
room_last [] p r e = room_alone p r e
room_last (x ∷ a) p r e = go x.applies e (room_last a p r)
  where
    go : (b : Bool) → eqb (cond b x.number (first_row (a ++ room_rows p r))) 11 ≡ false
        → (eqb (first_row (a ++ room_rows p r)) 11 ≡ false → first_row (a ++ room_rows p r) ≡ first_row a) →
        cond b x.number (first_row (a ++ room_rows p r)) ≡ cond b x.number (first_row a)
    go true e ih = refl
    go false e ih = ih e

pub outcome-early : (p : Parts) (r : Option Request) (n : ℕ) → eqb (first_row (request_rows p r n)) 11 ≡ false
    → first_row (request_rows p r n) ≡ early p r n
unfolding request_rows early early_rows
outcome-early p none n e = refl
outcome-early p (some r) n e = room_last (rows p r n) p r e

-- where 'no room' is not the answer, the room does not matter
pub roomy : (c q r : List ℕ) → well_formed c ≡ true → ((answered c q r).number ≡ 11 → ⊥) →
    outcome c q (length r) ≡ early (parts_of c) (request_of q) (length r)
roomy c q r w h =
    let f : outcome c q (length r) ≡ first_row (request_rows (parts_of c) (request_of q) (length r)) =
    outcome_formed c q (length r) w in
    let g = ne_eqb _ 11 (λ e. h (answered-number c q r ∙ f ∙ e)) in
    f ∙ outcome-early (parts_of c) (request_of q) (length r) g

-- ---- what is answered and replied with outcome n
reply_by : (c q r : List ℕ) (n : ℕ) → outcome c q (length r) ≡ n →
    reply_after c q r ≡ cond (replies n) (put 0 (reply_bytes (parts_of c) (request_of q)) r) r
unfolding reply_after
reply_by c q r n e = rw e

answer_by : (c q r : List ℕ) (n : ℕ) → outcome c q (length r) ≡ n →
    answered c q r ≡ answer_to n (parts_of c) (request_of q)
unfolding answered
answer_by c q r n e = rw e

-- with the same number, what tells two containers apart is what is counted and replied
pub same_reply : (b c q r : List ℕ) (n : ℕ) → outcome b q (length r) ≡ n → outcome c q (length r) ≡ n →
    answer_to n (parts_of b) (request_of q) ≡ answer_to n (parts_of c) (request_of q) →
    reply_bytes (parts_of b) (request_of q) ≡ reply_bytes (parts_of c) (request_of q) → SameReply b c q r
same_reply b c q r n eb ec ea er = record {
  answer = answer_by b q r n eb ∙ ea ∙ sym (answer_by c q r n ec);
  reply = reply_by b q r n eb ∙ rw er (sym (reply_by c q r n ec));
}
