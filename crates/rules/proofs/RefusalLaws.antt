-- A number that is neither 0, 5 nor 8, and 1, 2 and 3 above all: what is answered, and that nothing changes. Assumes
-- nothing.
use mathlib.Core.Path.{◌≡◌, refl, ◌∙◌}
use mathlib.Core.Bool.{true, false}
use mathlib.Core.List.{List}
use mathlib.Core.Option.{Option, none, some}
use Prim.Native.Nat.{ℕ}
use lib.ListN.{length}
use lib.Dec.{eqb}
use Rattle.format.specs.Container.{length_allowed, well_formed}
use Rattle.format.specs.Parts.{Parts, parts_of}
use Rattle.rules.specs.Requests.{Request, request_of}
use Rattle.octets.specs.Rows.{first_row}
use Rattle.rules.specs.Outcomes.{request_rows, replies, answer_of, no_node, answer_to, outcome, answered}
use Rattle.rules.specs.Outcomes.{container_after, reply_after}
use Rattle.rules.proofs.OutcomeLaws.{outcome_formed}
use Rattle.std.specs.Prelude.{Err}
use Rattle.format.specs.Judging.{Judges}
use Rattle.format.specs.declared.judging.Flaw.{Flaw}
use Rattle.format.specs.declared.judging.Flaw.TheVariants.{BadLength, Malformed}
use Rattle.format.proofs.JudgingLaws.{judged-length, judged-malformed}
use Rattle.rules.specs.Refusals.{number_of, refusal_of}
use Rattle.rules.specs.declared.outcomes.Refusal.{Refusal}
use Rattle.rules.specs.declared.outcomes.Refusal.TheVariants as refusal
use Rattle.rules.specs.declared.outcomes.Refusal.TheVariants.{BadRequest, BeforeStart, WrongEnabler, ShortReply, NoLease}
use Rattle.rules.specs.declared.outcomes.Refusal.TheVariants.{LeasesFull, NoRoom, AlreadyContainer, TooManyStretches, BadList}

-- A call that is answered n, with no node id and no count, and leaves container and reply space as they were.
pub record Refused (n : ℕ) (c q r : List ℕ) : Type 0 where
  pub answer : answer_of n no_node 0 ≡ answered c q r
  pub container : c ≡ container_after c q r
  pub reply : r ≡ reply_after c q r

-- A number that is neither 0, 5 nor 8 refuses so.
pub record Silent (n : ℕ) : Type 0 where
  pub not_done : eqb n 0 ≡ false
  pub no_node_holds : eqb n 5 ≡ false
  pub no_reply : replies n ≡ false

pub silent-answer : (n : ℕ) (p : Parts) (q : Option Request) → Silent n → answer_of n no_node 0 ≡ answer_to n p q
unfolding answer_to
silent-answer n p none s = refl
silent-answer n p (some w) s = rw (s.no_node_holds, s.no_reply)

pub silent-refused : (n : ℕ) (c q r : List ℕ) → Silent n → outcome c q (length r) ≡ n → Refused n c q r
unfolding answered container_after reply_after
silent-refused n c q r s e = record {
  answer = rw e (silent-answer n (parts_of c) (request_of q) s);
  container = rw (e, s.not_done);
  reply = rw (e, s.no_reply);
}

silent1 : Silent 1
unfolding replies
silent1 = record { not_done = refl; no_node_holds = refl; no_reply = refl }

silent2 : Silent 2
unfolding replies
silent2 = record { not_done = refl; no_node_holds = refl; no_reply = refl }

silent3 : Silent 3
unfolding replies
silent3 = record { not_done = refl; no_node_holds = refl; no_reply = refl }

pub bad_length : (c q r : List ℕ) → length_allowed c ≡ false → Refused 1 c q r
unfolding outcome first_row
bad_length c q r e = silent-refused 1 c q r silent1 (rw e)

pub malformed : (c q r : List ℕ) → length_allowed c ≡ true → well_formed c ≡ false → Refused 2 c q r
unfolding outcome first_row
malformed c q r l e = silent-refused 2 c q r silent2 (rw (l, e))

-- every refusal but the one that names the node
pub refusal_silent : (e : Refusal) → (e ≡ WrongEnabler → ⊥) → Silent (number_of e)
unfolding replies
refusal_silent refusal.BadLength h = record { not_done = refl; no_node_holds = refl; no_reply = refl }
refusal_silent refusal.Malformed h = record { not_done = refl; no_node_holds = refl; no_reply = refl }
refusal_silent BadRequest h = record { not_done = refl; no_node_holds = refl; no_reply = refl }
refusal_silent BeforeStart h = record { not_done = refl; no_node_holds = refl; no_reply = refl }
refusal_silent ShortReply h = record { not_done = refl; no_node_holds = refl; no_reply = refl }
refusal_silent NoLease h = record { not_done = refl; no_node_holds = refl; no_reply = refl }
refusal_silent LeasesFull h = record { not_done = refl; no_node_holds = refl; no_reply = refl }
refusal_silent NoRoom h = record { not_done = refl; no_node_holds = refl; no_reply = refl }
refusal_silent AlreadyContainer h = record { not_done = refl; no_node_holds = refl; no_reply = refl }
refusal_silent TooManyStretches h = record { not_done = refl; no_node_holds = refl; no_reply = refl }
refusal_silent BadList h = record { not_done = refl; no_node_holds = refl; no_reply = refl }
refusal_silent WrongEnabler h = absurd (h refl)

pub refusal_replies : (e : Refusal) → replies (number_of e) ≡ false
unfolding replies
refusal_replies refusal.BadLength = refl
refusal_replies refusal.Malformed = refl
refusal_replies BadRequest = refl
refusal_replies BeforeStart = refl
refusal_replies WrongEnabler = refl
refusal_replies ShortReply = refl
refusal_replies NoLease = refl
refusal_replies LeasesFull = refl
refusal_replies NoRoom = refl
refusal_replies AlreadyContainer = refl
refusal_replies TooManyStretches = refl
refusal_replies BadList = refl

-- a buffer that is no container, by what judging it answers
pub flawed : (e : Flaw) (c q r : List ℕ) → Judges c (Err e) → Refused (number_of (refusal_of e)) c q r
flawed BadLength c q r j = bad_length c q r (judged-length c j)
flawed Malformed c q r j = let m = judged-malformed c j in malformed c q r m.0 m.1

pub broken : (c q r : List ℕ) → well_formed c ≡ true → request_of q ≡ none → Refused 3 c q r
unfolding first_row request_rows
broken c q r w e = silent-refused 3 c q r silent3 (outcome_formed c q (length r) w ∙ rw e)
