-- One call over parts: what it hears and leaves, its two sides, and that bytes follow parts. Assumes nothing.
use mathlib.Core.Path.{◌≡◌, refl, sym, ap, ◌∙◌}
use mathlib.Core.Bool.{Bool, true, false, cond, ◌&&◌, true≢false}
use mathlib.Core.List.{List, []}
use mathlib.Core.Option.{Option}
use Prim.Native.Nat.{ℕ}
use lib.ListN.{length}
use lib.Dec.{eqb, leb}
use borrow.Author.Tests.{not-true, not-false}
use Rattle.octets.specs.Moves.{put}
use Rattle.format.specs.Parts.{Parts, count_in, encode}
use Rattle.format.specs.Claims.{Valid}
use Rattle.format.proofs.RoundTrip.{parts_encode, data_encode}
use Rattle.rules.specs.Requests.{request_of, kind_of, test_write_of}
use Rattle.rules.specs.Changes.{changes_of}
use Rattle.rules.specs.Offsets.{positions_of}
use Rattle.rules.specs.Outcomes.{with_bytes, with_leases, after, after_of, rows, replies, counted}
use Rattle.rules.specs.Outcomes.{answer_to, reply_to, reply_bytes, answered, reply_after, admit_rows}
use Rattle.rules.specs.Outcomes.{find_rows}
use Rattle.octets.specs.Rows.{first_row}
use Rattle.rules.proofs.RequestLaws.{Kinds, broken, tests, adds, renews, cancels, reads, kinds}
use Rattle.rules.proofs.OutcomeLaws.{outcome-encode, answer-number, room_after, left_parts, left_encode, left_valid}
use Rattle.rules.proofs.OutcomeLaws.{early_rows, early, outcome-early}
use Rattle.histories.specs.Runs.{Call, Heard, hears, leaves, rule_outcome, rule_hears, rule_leaves, is_lease}
use Rattle.histories.specs.Runs.{names, is_data, no_room}
use Rattle.histories.proofs.Follows.{Follows}
use Rattle.histories.proofs.Sides.{Sided}
use Rattle.octets.specs.Lists.{maybe}

-- what is heard and left with outcome n
unfoldable pub heard_by : ℕ → Call → Parts → Heard
heard_by n x p = record {
  answer = answer_to n p (request_of x.request);
  reply = cond (replies n) (put 0 (reply_bytes p (request_of x.request)) x.space) x.space;
}

unfoldable pub left_by : ℕ → Call → Parts → Parts
left_by n x p = cond (eqb n 0) (after_of p (request_of x.request)) p

-- a call's number where the room does not matter
unfoldable pub early_of : Call → Parts → ℕ
early_of x p = early p (request_of x.request) (length x.space)

pub heard_number : (x : Call) (p : Parts) → (rule_hears x p).answer.number ≡ rule_outcome x p
unfolding rule_hears
heard_number x p = answer-number (rule_outcome x p) p (request_of x.request)

outcome-roomy : (x : Call) (p : Parts) → no_room (rule_hears x p) ≡ false → rule_outcome x p ≡ early_of x p
unfolding no_room early_of rule_outcome
outcome-roomy x p e = outcome-early p (request_of x.request) (length x.space) (rw heard_number at e)

pub hears-roomy : (x : Call) (p : Parts) → no_room (rule_hears x p) ≡ false → rule_hears x p ≡ heard_by (early_of x p) x p
unfolding rule_hears heard_by
hears-roomy x p e = ap (λ (n : ℕ). heard_by n x p) (outcome-roomy x p e)

pub leaves-roomy : (x : Call) (p : Parts) → no_room (rule_hears x p) ≡ false → rule_leaves x p ≡ left_by (early_of x p) x p
unfolding rule_leaves left_by
leaves-roomy x p e = ap (λ (n : ℕ). left_by n x p) (outcome-roomy x p e)

-- ---- the two sides of the parts: data and slack with the node id and the enabler; the leases with the node id
unfoldable pub data_side : Parts → Parts
data_side p =
    record { room = 0; node = p.node; enabler = p.enabler; bytes = p.bytes; slack = p.slack; leases = [] }

unfoldable pub lease_side : Parts → Parts
lease_side p = record { room = 0; node = p.node; enabler = []; bytes = []; slack = 0; leases = p.leases }

-- by the first byte
pub lease_kind : (x : Call) (k : ℕ) → kind_of x.request ≡ k → is_lease x ≡ (leb 2 k && leb k 4)
unfolding is_lease
lease_kind x k e = rw e

never : {A : Type 0} {b : Bool} → b ≡ true → b ≡ false → A
never e f = absurd (true≢false (sym e ∙ f))

-- a data call hears and leaves on the data side what it does on the whole
pub record Alone (side : Parts → Parts) (x : Call) (p : Parts) : Type 0 where
  pub number : early_of x p ≡ early_of x (side p)
  pub heard : heard_by (early_of x p) x p ≡ heard_by (early_of x (side p)) x (side p)
  pub after_side : side (after_of p (request_of x.request)) ≡ after_of (side p) (request_of x.request)

-- a choice by a number, seen on a side
side_choice : (side : Parts → Parts) (b : Bool) (a p : Parts) → side (cond b a p) ≡ cond b (side a) (side p)
side_choice side true a p = refl
side_choice side false a p = refl

same_choice : (b : Bool) (p : Parts) → cond b p p ≡ p
same_choice true p = refl
same_choice false p = refl

data_alone_by : (x : Call) (p : Parts) → is_lease x ≡ false → Kinds x.request → Alone data_side x p
unfolding heard_by left_by early_of early early_rows first_row data_side rows admit_rows find_rows reply_to reply_bytes maybe
    counted answer_to after_of after with_bytes count_in test_write_of
data_alone_by x p l (broken e) = record { number = rw e refl; heard = rw e refl; after_side = rw e refl }
data_alone_by x p l (tests k h o e) = record { number = rw e refl; heard = rw e refl; after_side = rw e refl }
data_alone_by x p l (adds k o e) = never (lease_kind x 2 k) l
data_alone_by x p l (renews k o e) = never (lease_kind x 3 k) l
data_alone_by x p l (cancels k o e) = never (lease_kind x 4 k) l
data_alone_by x p l (reads k o e) = record { number = rw e refl; heard = rw e refl; after_side = rw e refl }

lease_alone_by : (x : Call) (p : Parts) → is_lease x ≡ true → Kinds x.request → Alone lease_side x p
unfolding heard_by left_by early_of early early_rows first_row lease_side rows admit_rows find_rows reply_to reply_bytes maybe
    counted answer_to after_of after with_leases
lease_alone_by x p l (broken e) = record { number = rw e refl; heard = rw e refl; after_side = rw e refl }
lease_alone_by x p l (tests k h o e) = never l (lease_kind x 1 k)
lease_alone_by x p l (adds k o e) = record { number = rw e refl; heard = rw e refl; after_side = rw e refl }
lease_alone_by x p l (renews k o e) = record { number = rw e refl; heard = rw e refl; after_side = rw e refl }
lease_alone_by x p l (cancels k o e) = record { number = rw e refl; heard = rw e refl; after_side = rw e refl }
lease_alone_by x p l (reads k o e) = never l (lease_kind x 5 k)

pub alone_left : (side : Parts → Parts) (x : Call) (p : Parts) → Alone side x p → side (left_by (early_of x p) x p)
    ≡ left_by (early_of x (side p)) x (side p)
unfolding left_by
alone_left side x p a =
    side_choice side (eqb (early_of x p) 0) (after_of p (request_of x.request)) p
    ∙ rw a.after_side (ap (λ (n : ℕ). cond (eqb n 0) (after_of (side p) (request_of x.request)) (side p))
    a.number)

-- a lease call has no writes and no cut
changes_none_by : (x : Call) (n : ℕ) → is_lease x ≡ true → Kinds x.request → changes_of (request_of x.request) n ≡ []
unfolding changes_of
changes_none_by x n l (broken e) = rw e refl
changes_none_by x n l (tests k h o e) = never l (lease_kind x 1 k)
changes_none_by x n l (adds k o e) = rw e refl
changes_none_by x n l (renews k o e) = rw e refl
changes_none_by x n l (cancels k o e) = rw e refl
changes_none_by x n l (reads k o e) = rw e refl

pub lease-changes : (x : Call) (n : ℕ) → is_lease x ≡ true → changes_of (request_of x.request) n ≡ []
lease-changes x n l = changes_none_by x n l (kinds x.request)

-- a call of the other side leaves a side as it was
data_stays_by : (x : Call) (p : Parts) → is_lease x ≡ true → Kinds x.request
    → data_side (after_of p (request_of x.request)) ≡ data_side p
unfolding data_side after_of maybe after with_leases
data_stays_by x p l (broken e) = rw e refl
data_stays_by x p l (tests k h o e) = never l (lease_kind x 1 k)
data_stays_by x p l (adds k o e) = rw e refl
data_stays_by x p l (renews k o e) = rw e refl
data_stays_by x p l (cancels k o e) = rw e refl
data_stays_by x p l (reads k o e) = never l (lease_kind x 5 k)

lease_stays_by : (x : Call) (p : Parts) → is_lease x ≡ false → Kinds x.request
    → lease_side (after_of p (request_of x.request)) ≡ lease_side p
unfolding lease_side after_of maybe after with_bytes test_write_of
lease_stays_by x p l (broken e) = rw e refl
lease_stays_by x p l (tests k h o e) = rw e refl
lease_stays_by x p l (adds k o e) = never (lease_kind x 2 k) l
lease_stays_by x p l (renews k o e) = never (lease_kind x 3 k) l
lease_stays_by x p l (cancels k o e) = never (lease_kind x 4 k) l
lease_stays_by x p l (reads k o e) = rw e refl

pub stays_left : (side : Parts → Parts) (n : ℕ) (x : Call) (p : Parts) → side (after_of p (request_of x.request))
    ≡ side p → side (left_by n x p) ≡ side p
unfolding left_by
stays_left side n x p e = side_choice side (eqb n 0) (after_of p (request_of x.request)) p
    ∙ rw e (same_choice (eqb n 0) (side p))

-- no call changes the buffer's length
pub room_stays : (x : Call) (p : Parts) → (rule_leaves x p).room ≡ p.room
unfolding rule_leaves
room_stays x p = go (eqb (rule_outcome x p) 0)
  where
    go : (b : Bool) → (cond b (after_of p (request_of x.request)) p).room ≡ p.room
    go true = room_after p (request_of x.request)
    go false = refl

-- ---- the positions that a call's offsets name, over parts
unfoldable pub rule_names : Call → Parts → List (Option ℕ)
rule_names x p = positions_of (request_of x.request) (length p.bytes)

pub names_sided : (x : Call) (p : Parts) → rule_names x p ≡ rule_names x (data_side p)
unfolding rule_names data_side
names_sided x p = refl

-- ---- the two sides of the rules
pub data_calls : Sided is_data no_room rule_hears rule_leaves data_side (λ x p. heard_by (early_of x p) x p)
    (λ x p. left_by (early_of x p) x p)
unfolding is_data
data_calls = record {
  answer = λ x p m r. hears-roomy x p r ∙ (data_alone_by x p (not-true (is_lease x) m) (kinds x.request)).heard;
  moves = λ x p m r. ap data_side (leaves-roomy x p r)
      ∙ alone_left data_side x p (data_alone_by x p (not-true (is_lease x) m) (kinds x.request));
  stays = λ x p m r. ap data_side (leaves-roomy x p r)
      ∙ stays_left data_side (early_of x p) x p (data_stays_by x p (not-false (is_lease x) m) (kinds x.request));
}

pub lease_calls : Sided is_lease no_room rule_hears rule_leaves lease_side (λ x p. heard_by (early_of x p) x p)
    (λ x p. left_by (early_of x p) x p)
lease_calls = record {
  answer = λ x p m r. hears-roomy x p r ∙ (lease_alone_by x p m (kinds x.request)).heard;
  moves = λ x p m r. ap lease_side (leaves-roomy x p r)
      ∙ alone_left lease_side x p (lease_alone_by x p m (kinds x.request));
  stays = λ x p m r. ap lease_side (leaves-roomy x p r)
      ∙ stays_left lease_side (early_of x p) x p (lease_stays_by x p m (kinds x.request));
}

-- ---- bytes follow parts
hears-encode : (x : Call) (p : Parts) → Valid p → hears x (encode p) ≡ rule_hears x p
unfolding hears rule_hears rule_outcome answered reply_after
hears-encode x p v = rw (outcome-encode p x.request (length x.space) v, parts_encode p v)

leaves-encode : (x : Call) (p : Parts) → Valid p → leaves x (encode p) ≡ encode (rule_leaves x p)
unfolding leaves rule_leaves rule_outcome left_parts
leaves-encode x p v = left_encode p x.request x.space v

pub valid_left : (x : Call) (p : Parts) → Valid p → Valid (rule_leaves x p)
unfolding rule_leaves rule_outcome left_parts
valid_left x p v = left_valid p x.request (length x.space) v

names-encode : (x : Call) (p : Parts) → Valid p → names x (encode p) ≡ rule_names x p
unfolding names rule_names
names-encode x p v = rw (data_encode p v)

pub follows_names : Follows Valid encode rule_names rule_leaves names leaves
follows_names = record { answer = names-encode; after = leaves-encode; lasts = valid_left }

pub follows : Follows Valid encode rule_hears rule_leaves hears leaves
follows = record { answer = hears-encode; after = leaves-encode; lasts = valid_left }
