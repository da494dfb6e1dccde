-- One call over parts and stretches: what it changes, that they stay sound, and that container and list follow them.
-- Assumes nothing.
use mathlib.Core.Path.{◌≡◌, refl, sym, ap, ◌∙◌}
use mathlib.Core.Bool.{Bool, true, false, cond}
use mathlib.Core.List.{List, [], ◌++◌}
use mathlib.Core.Option.{Option, none, some}
use Prim.Native.Nat.{ℕ, ◌≤◌}
use native.Mathlib.Omega.{arith}
use lib.ListN.{length}
use lib.Dec.{eqb}
use borrow.Author.Tests.{eqb-true, eq-eqb, ltb-false}
use Rattle.octets.specs.Rows.{first_row}
use Rattle.octets.proofs.RowLaws.{clear, rows_clear}
use Rattle.format.specs.Container.{well_formed}
use Rattle.format.specs.Parts.{Parts, encode}
use Rattle.format.specs.Claims.{Valid}
use Rattle.format.proofs.RoundTrip.{encode_formed, data_encode, parts_encode}
use Rattle.rules.specs.Requests.{Request, test_write, add, renew, cancel, read, kind_of, request_of}
use Rattle.rules.specs.Changes.{Change, size_after, changes_of}
use Rattle.rules.specs.Outcomes.{request_rows, after_of}
use Rattle.rules.proofs.RequestLaws.{request_proper}
use Rattle.rules.proofs.OutcomeLaws.{formed_length, answer-number, valid_after}
use Rattle.rules.proofs.ChangeLaws.{perform_all, length-perform_all, after-bytes}
use Rattle.histories.specs.Runs.{Call, Heard, rule_hears, rule_leaves}
use Rattle.histories.specs.Accepted.{took}
use Rattle.histories.proofs.Steps.{valid_left, follows}
use Rattle.histories.proofs.Demand3.{step_bytes}
use Rattle.stretches.specs.Stretches.{Stretch, stretches_after}
use Rattle.stretches.specs.List.{row_limit, stretches_of, list_bytes, list_ok}
use Rattle.stretches.specs.Claims.{Rising, Storable}
use Rattle.stretches.proofs.ShapeLaws.{rising-after}
use Rattle.stretches.proofs.ByteLaws.{Zeros}
use Rattle.stretches.proofs.Claims.{bytes_good, list_round_trip}
use Rattle.listed_rules.specs.Outcomes.{next_stretches, many_rows, outcome_beside, list_to, answered_beside}
use Rattle.listed_rules.specs.Outcomes.{container_beside, list_after, reply_beside}
use Rattle.listed_rules.specs.Runs.{Slot, Sent, hears_in, leaves_in, SlotParts, rule_outcome_beside, rule_hears_in}
use Rattle.listed_rules.specs.Runs.{rule_leaves_in}
use Rattle.rules.proofs.Kept.{request_numbered}
use Rattle.listed_rules.proofs.GoodLaws.{zeros_after, bytes_fit, no_changes}

-- A call that is no test-and-write past the list.
abbrev pub Through : Sent → Type 0
Through x = x.direct ≡ true → kind_of x.call.request ≡ 1 → ⊥

-- ---- what a call changes: of the data, and of the stretches
unfoldable pub took_in : Sent → SlotParts → List Change
took_in x s = took x.call (rule_hears_in x s) (length s.parts.bytes)

pub step_data : (x : Sent) (s : SlotParts) →
    (rule_leaves_in x s).parts.bytes ≡ perform_all (took_in x s) s.parts.bytes
unfolding took_in rule_hears_in rule_leaves_in took perform_all
step_data x s = go x.direct refl
  where
    r : Option Request
    r = request_of x.call.request

    done : SlotParts
    done = record { parts = after_of s.parts r; stretches = next_stretches s.parts r s.stretches }

    through : (b : Bool) → (cond b done s).parts.bytes
        ≡ perform_all (cond b (changes_of r (length s.parts.bytes)) []) s.parts.bytes
    through true = after-bytes s.parts r
    through false = refl

    go : (b : Bool) → x.direct ≡ b → (rule_leaves_in x s).parts.bytes ≡ perform_all (took_in x s) s.parts.bytes
    go true d = rw d (step_bytes x.call s.parts)
    go false d = rw (d, answer-number) (through (eqb (rule_outcome_beside x.call s) 0))

took-none : (x : Call) (a : Heard) (n : ℕ) → (kind_of x.request ≡ 1 → ⊥) → took x a n ≡ []
unfolding took
took-none x a n h = rw (no_changes x.request n h) (go (eqb a.answer.number 0))
  where
    go : (b : Bool) → cond {A = List Change} b [] [] ≡ []
    go true = refl
    go false = refl

pub step_stretches : (x : Sent) (s : SlotParts) → Through x →
    (rule_leaves_in x s).stretches ≡ stretches_after (took_in x s) (length s.parts.bytes) s.stretches
unfolding took_in rule_hears_in rule_leaves_in took next_stretches stretches_after
step_stretches x s t = go x.direct refl
  where
    n : ℕ
    n = length s.parts.bytes

    r : Option Request
    r = request_of x.call.request

    done : SlotParts
    done = record { parts = after_of s.parts r; stretches = stretches_after (changes_of r n) n s.stretches }

    through : (b : Bool) → (cond b done s).stretches ≡ stretches_after (cond b (changes_of r n) []) n s.stretches
    through true = refl
    through false = refl

    go : (b : Bool) → x.direct ≡ b → (rule_leaves_in x s).stretches ≡ stretches_after (took_in x s) n s.stretches
    go true d =
        rw d
        (ap (λ (os : List Change). stretches_after os n s.stretches)
        (sym (took-none x.call (rule_hears x.call s.parts) n (t d))))
    go false d = rw (d, answer-number) (through (eqb (rule_outcome_beside x.call s) 0))

pub step_size : (x : Sent) (s : SlotParts) →
    length (rule_leaves_in x s).parts.bytes ≡ size_after (took_in x s) (length s.parts.bytes)
step_size x s = ap length (step_data x s) ∙ length-perform_all (took_in x s) s.parts.bytes

-- ---- parts and stretches that a container and its list can hold
pub record Sound (s : SlotParts) : Type 0 where
  pub valid : Valid s.parts
  pub rises : Rising 0 s.stretches (length s.parts.bytes)
  pub few : length s.stretches ≤ row_limit
  pub zeros : Zeros s.stretches s.parts.bytes

-- a call that is done keeps the parts valid, and leaves no more rows than there may be
pub record Holds (s : SlotParts) : Type 0 where
  pub valid : Valid s.parts
  pub few : length s.stretches ≤ row_limit

holds_left : (x : Sent) (s : SlotParts) → Sound s → Holds (rule_leaves_in x s)
unfolding rule_leaves_in rule_outcome_beside
holds_left x s v = go x.direct refl
  where
    p : Parts
    p = s.parts

    r : Option Request
    r = request_of x.call.request

    n : ℕ
    n = length x.call.space

    through : (b : Bool) → eqb (first_row (request_rows p r n ++ many_rows p r s.stretches)) 0 ≡ b →
        Holds (cond b (record { parts = after_of p r; stretches = next_stretches p r s.stretches }) s)
    through true e =
        let z = rows_clear (request_rows p r n) (many_rows p r s.stretches) (request_numbered p r n)
        (eqb-true (first_row (request_rows p r n ++ many_rows p r s.stretches)) 0 e) in
        record {
          valid = valid_after p r n v.valid (request_proper x.call.request) (eq-eqb _ 0 z.0);
          few = ltb-false row_limit (length (next_stretches p r s.stretches)) (clear 13 _ [] (omega arith) z.1).0;
        }
    through false e = record { valid = v.valid; few = v.few }

    go : (b : Bool) → x.direct ≡ b → Holds (rule_leaves_in x s)
    go true d = rw d (record { valid = valid_left x.call p v.valid; few = v.few })
    go false d = rw d (through (eqb (rule_outcome_beside x.call s) 0) refl)

pub sound_left : (x : Sent) (s : SlotParts) → Through x → Sound s → Sound (rule_leaves_in x s)
sound_left x s t v =
    let os : List Change = took_in x s in
    let h : Holds (rule_leaves_in x s) = holds_left x s v in
    record {
      valid = h.valid;
      rises = rw (step_stretches x s t, step_size x s)
          (rising-after os (length s.parts.bytes) s.stretches v.rises);
      few = h.few;
      zeros = rw (step_stretches x s t, step_data x s)
          (zeros_after os s.stretches s.parts.bytes v.zeros);
    }

-- ---- container and list follow parts and stretches
unfoldable pub slot_of : SlotParts → Slot
slot_of s = record { container = encode s.parts; list = list_bytes s.stretches }

-- the list after a request, told from its stretches
list_next : (p : Parts) (r : Option Request) (rs : List Stretch) → stretches_of (list_bytes rs) ≡ rs →
    list_to p r (list_bytes rs) ≡ list_bytes (next_stretches p r rs)
unfolding list_to next_stretches changes_of stretches_after
list_next p none rs e = refl
list_next p (some (test_write k ts ws cut)) rs e = rw e
list_next p (some (add r)) rs e = refl
list_next p (some (renew t x)) rs e = refl
list_next p (some (cancel t)) rs e = refl
list_next p (some (read q)) rs e = refl

module _ (s : SlotParts) (v : Sound s) where
  storable : Storable s.stretches (length s.parts.bytes)
  storable = record { few = v.few; rises = v.rises; fits = bytes_fit s.parts v.valid }

  pub stretches_back : stretches_of (list_bytes s.stretches) ≡ s.stretches
  stretches_back = (list_round_trip [] [] s.stretches (length s.parts.bytes)).parts_back storable

  pub slot_ok : list_ok (list_bytes s.stretches) s.parts.bytes ≡ true
  slot_ok = bytes_good s.stretches s.parts.bytes storable v.zeros

  outcome_slot : (x : Call) →
      outcome_beside (encode s.parts) (list_bytes s.stretches) x.request (length x.space)
      ≡ rule_outcome_beside x s
  unfolding outcome_beside rule_outcome_beside first_row
  outcome_slot x =
      let w : well_formed (encode s.parts) ≡ true = encode_formed s.parts v.valid in
      rw (
        formed_length (encode s.parts) w,
        w,
        data_encode s.parts v.valid,
        slot_ok,
        parts_encode s.parts v.valid,
        stretches_back,
      )

  pub hears_slot : (x : Sent) → hears_in x (slot_of s) ≡ rule_hears_in x s
  unfolding hears_in rule_hears_in slot_of answered_beside reply_beside
  hears_slot x =
      rw (follows.answer x.call s.parts v.valid, outcome_slot x.call, parts_encode s.parts v.valid)

  pub leaves_slot : (x : Sent) → leaves_in x (slot_of s) ≡ slot_of (rule_leaves_in x s)
  unfolding leaves_in rule_leaves_in slot_of container_beside list_after
  leaves_slot x =
      rw (
        follows.after x.call s.parts v.valid,
        outcome_slot x.call,
        parts_encode s.parts v.valid,
        list_next s.parts (request_of x.call.request) s.stretches stretches_back,
      )
      (go x.direct (eqb (rule_outcome_beside x.call s) 0))
    where
      p : Parts
      p = s.parts

      r : Option Request
      r = request_of x.call.request

      d : SlotParts
      d = record { parts = rule_leaves x.call p; stretches = s.stretches }

      t : SlotParts
      t = record { parts = after_of p r; stretches = next_stretches p r s.stretches }

      go : (a b : Bool) →
          cond {A = Slot} a (slot_of d)
          (record {
            container = cond b (encode t.parts) (encode p);
            list = cond b (list_bytes t.stretches) (list_bytes s.stretches);
          })
          ≡ slot_of (cond a d (cond b t s))
      go true b = refl
      go false true = refl
      go false false = refl
