-- A history is a list of calls, each on the container bytes that the one before left (docs/RULES.md, H2, H3).
use Rattle.std.specs.Prelude.{ℕ, ◌≡◌, Bool, false, cond, not, ◌&&◌, List, [], ◌∷◌, length, eqb, leb}
use Rattle.std.proofs.Math.Option.{Option}
use Rattle.octets.specs.Moves.{put}
use Rattle.format.specs.Layout.{data_of}
use Rattle.format.specs.Parts.{Parts}
use Rattle.rules.specs.Requests.{kind_of, request_of}
use Rattle.rules.specs.Offsets.{positions_of}
use Rattle.octets.specs.Rows.{first_row}
use Rattle.rules.specs.Outcomes.{request_rows, replies, answer_to, after_of, reply_bytes, answered, container_after}
use Rattle.rules.specs.Outcomes.{reply_after}
use Rattle.rules.specs.declared.Answer.{Answer}

-- A call: any bytes as request, with its reply space. What is heard of it: the answer record and the reply space
-- afterwards (H2, H6).
pub record Call : Type 0 where
  pub request : List ℕ
  pub space : List ℕ

pub record Heard : Type 0 where
  pub answer : Answer
  pub reply : List ℕ

-- What a call on container bytes hears, and the container bytes that it leaves (H3).
unfoldable pub hears : Call → List ℕ → Heard
hears x c = record { answer = answered c x.request x.space; reply = reply_after c x.request x.space }

unfoldable pub leaves : Call → List ℕ → List ℕ
leaves x c = container_after c x.request x.space

-- The positions that the offsets of a call's request name on container bytes (T1).
unfoldable pub names : Call → List ℕ → List (Option ℕ)
names x c = positions_of (request_of x.request) (length (data_of c))

-- What the rules give for the parts alone: the same, computed with no container bytes (H8).
unfoldable pub rule_outcome : Call → Parts → ℕ
rule_outcome x p = first_row (request_rows p (request_of x.request) (length x.space))

unfoldable pub rule_hears : Call → Parts → Heard
rule_hears x p = record {
  answer = answer_to (rule_outcome x p) p (request_of x.request);
  reply = cond (replies (rule_outcome x p)) (put 0 (reply_bytes p (request_of x.request)) x.space) x.space;
}

unfoldable pub rule_leaves : Call → Parts → Parts
rule_leaves x p = cond (eqb (rule_outcome x p) 0) (after_of p (request_of x.request)) p

-- All that a history hears, and what it leaves at its end, over any state (H3).
unfoldable pub answers : {R A S : Type 0} → (R → S → A) → (R → S → S) → List R → S → List A
answers hear leave [] s = []
answers hear leave (x ∷ xs) s = hear x s ∷ answers hear leave xs (leave x s)

unfoldable pub final : {R S : Type 0} → (R → S → S) → List R → S → S
final leave [] s = s
final leave (x ∷ xs) s = final leave xs (leave x s)

-- By the first byte, kinds 2 to 4 are the lease requests; all else counts with the reads and test-and-writes (H4).
unfoldable pub is_lease : Call → Bool
is_lease x = leb 2 (kind_of x.request) && leb (kind_of x.request) 4

unfoldable pub is_data : Call → Bool
is_data x = not (is_lease x)

-- The calls of one side in their order, and what is heard beside them (H5, H6).
unfoldable pub only : {R : Type 0} → (R → Bool) → List R → List R
only side [] = []
only side (x ∷ xs) = cond (side x) (x ∷ only side xs) (only side xs)

unfoldable pub beside : {R A : Type 0} → (R → Bool) → List R → List A → List A
beside side [] ys = []
beside side (x ∷ xs) [] = []
beside side (x ∷ xs) (a ∷ ys) = cond (side x) (a ∷ beside side xs ys) (beside side xs ys)

-- 'No room' (outcome 11) is heard nowhere (H7).
unfoldable pub no_room : Heard → Bool
no_room a = eqb a.answer.number 11

abbrev pub Never : {A : Type 0} → (A → Bool) → List A → Type 0
Never bad [] = Unit {0}
Never bad (a ∷ ys) = (bad a ≡ false) × Never bad ys

-- The same reads and test-and-writes in the same order, the same lease requests in the same order, woven in any two
-- ways (H5).
pub record Woven (h k : List Call) : Type 0 where
  pub data_calls : only is_data h ≡ only is_data k
  pub lease_calls : only is_lease h ≡ only is_lease k
