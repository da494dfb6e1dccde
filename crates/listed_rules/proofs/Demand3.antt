-- Demand 3 of a slot with its list, whole, over bytes. Assumes nothing.
use mathlib.Core.Path.{◌≡◌, refl, sym, ap, ap₂, ◌∙◌}
use mathlib.Core.Bool.{Bool, true, false, cond, true≢false, false≢true}
use mathlib.Core.List.{List, [], ◌∷◌}
use mathlib.Core.Option.{Option}
use Prim.Native.Nat.{ℕ}
use native.Mathlib.Omega.{arith}
use lib.ListN.{length}
use lib.Dec.{eqb}
use borrow.Author.Tests.{eqb-false}
use Rattle.format.specs.Layout.{data_of}
use Rattle.format.specs.Parts.{encode, fresh}
use Rattle.format.proofs.RoundTrip.{encode_formed, leases_encode, data_encode}
use Rattle.rules.specs.Changes.{Change, byte_over, byte_after}
use Rattle.rules.specs.Outcomes.{create_outcome}
use Rattle.rules.proofs.Demand1.{created, created_valid}
use Rattle.rules.proofs.ChangeLaws.{perform_all, length-perform_all, at_perform_all}
use Rattle.histories.specs.Runs.{Heard, hears, leaves, names, answers, final, no_room, Never, Woven}
use Rattle.histories.specs.Accepted.{accepted}
use Rattle.histories.specs.Claims.{Alike, Told}
use Rattle.histories.proofs.Demand3.{woven_alike}
use Rattle.stretches.specs.Stretches.{listed, stretches_after}
use Rattle.stretches.specs.List.{list_bytes}
use Rattle.stretches.proofs.UnwrittenLaws.{unwritten_is}
use Rattle.stretches.proofs.Claims.{tracks, zero_list}
use Rattle.listed_rules.specs.Claims.{Own}
use Rattle.listed_rules.specs.Runs.{Slot, Sent, hears_in, leaves_in, names_in, WritesThrough, calls_of, SlotParts}
use Rattle.listed_rules.specs.Runs.{rule_leaves_in}
use Rattle.listed_rules.specs.Histories.{bad_list, no_place, ListTold, ByRulesBeside, AlikeBeside, Demand3Beside}
use Rattle.listed_rules.specs.Histories.{fresh_slot, HistoriesBeside}
use Rattle.listed_rules.proofs.Demand1.{demand_1_beside}
use Rattle.listed_rules.proofs.Steps.{Sound, slot_of, stretches_back}
use Rattle.listed_rules.proofs.RunLaws.{slot_good, Followed, followed, rule_changes, data_accepted}
use Rattle.listed_rules.proofs.RunLaws.{stretches_accepted}

-- ---- what the rules give
by_rules : (h : List Sent) (s : SlotParts) → Sound s → WritesThrough h → ByRulesBeside h (slot_of s) s
unfolding slot_of
by_rules h s v w =
    let f : Followed h s = followed h s w v in
    record {
      heard = f.heard;
      buffer = ap (λ (x : Slot). x.container) f.left;
      leases = rw f.left (leases_encode (final rule_leaves_in h s).parts f.sound.valid);
      list = ap (λ (x : Slot). x.list) f.left;
      formed = rw f.left (encode_formed (final rule_leaves_in h s).parts f.sound.valid);
    }

-- ---- from empty data and no stretches: what the list names, and the data
module _ (h : List Sent) (s : SlotParts) (v : Sound s) (w : WritesThrough h) (d : s.parts.bytes ≡ [])
    (z : s.stretches ≡ []) where
  abbrev did : List Change
  did = accepted (calls_of h) (answers hears_in leaves_in h (slot_of s)) 0

  f : Followed h s
  f = followed h s w v

  t : SlotParts
  t = final rule_leaves_in h s

  did_is : rule_changes h s ≡ did
  unfolding f
  did_is = rw (f.heard, d)

  told : Told did (data_of (final leaves_in h (slot_of s)).container)
  unfolding byte_after byte_over f t slot_of
  told =
      let e : data_of (final leaves_in h (slot_of s)).container ≡ perform_all did [] =
      ap (λ (x : Slot). data_of x.container) f.left ∙ data_encode t.parts f.sound.valid
      ∙ data_accepted h s ∙ rw (did_is, d) in
      rw e (record { size = length-perform_all did []; each = at_perform_all did [] })

  list_told : ListTold h (slot_of s)
  unfolding f t slot_of
  list_told =
      let e : t.stretches ≡ stretches_after did 0 [] = stretches_accepted h s w ∙ rw (did_is, d, z) in
      record {
        exact = λ i. rw (f.left, stretches_back t f.sound, e) ((tracks did).exact i);
        means = unwritten_is did;
        told = told;
        good = rw f.left (slot_good t f.sound);
        never_bad = f.never_bad;
      }

-- ---- without 11, 13 and 16 all is as in the container's own history of the calls
split_place : (a : Heard) → no_place a ≡ false → (no_room a ≡ false) × (eqb a.answer.number 13 ≡ false)
unfolding no_place no_room
split_place a = go (eqb a.answer.number 11)
  where
    go : (b : Bool) → cond b true (eqb a.answer.number 13) ≡ false →
        (b ≡ false) × (eqb a.answer.number 13 ≡ false)
    go true e = absurd (true≢false e)
    go false e = (refl, e)

-- one call
pub record OwnCall (x : Sent) (s : Slot) : Type 0 where
  pub heard : hears_in x s ≡ hears x.call s.container
  pub left : (leaves_in x s).container ≡ leaves x.call s.container

own_call : (x : Sent) (s : Slot) → eqb (hears_in x s).answer.number 13 ≡ false → bad_list (hears_in x s) ≡ false →
    OwnCall x s
unfolding hears_in leaves_in hears leaves bad_list
own_call x s h k = go x.direct refl
  where
    through : Own s.container s.list x.call.request x.call.space → x.direct ≡ false → OwnCall x s
    through o d = record { heard = rw (d, o.answer, o.reply); left = rw (d, o.container) }

    go : (b : Bool) → x.direct ≡ b → OwnCall x s
    go true d = record { heard = rw d; left = rw d }
    go false d =
        through ((demand_1_beside s.container s.list x.call.request x.call.space).own
        (eqb-false _ 13 (rw d at h)) (eqb-false _ 16 (rw d at k))) d

pub record OwnRun (h : List Sent) (s : Slot) : Type 0 where
  pub heard : answers hears_in leaves_in h s ≡ answers hears leaves (calls_of h) s.container
  pub named : answers names_in leaves_in h s ≡ answers names leaves (calls_of h) s.container
  pub left : (final leaves_in h s).container ≡ final leaves (calls_of h) s.container
  pub roomy : Never no_room (answers hears_in leaves_in h s)

own_run : (h : List Sent) (s : Slot) → Never no_place (answers hears_in leaves_in h s) →
    Never bad_list (answers hears_in leaves_in h s) → OwnRun h s
unfolding answers final names_in
own_run [] s n m = record { heard = refl; named = refl; left = refl; roomy = tt }
own_run (x ∷ h) s n m =
    let k = split_place (hears_in x s) n.0 in
    let o : OwnCall x s = own_call x s k.1 m.0 in
    let i : OwnRun h (leaves_in x s) = own_run h (leaves_in x s) n.1 m.1 in
    record {
      heard = ap₂ ◌∷◌ o.heard (i.heard ∙ ap (answers hears leaves (calls_of h)) o.left);
      named =
          ap (λ (l : List (List (Option ℕ))). names x.call s.container ∷ l)
          (i.named ∙ ap (answers names leaves (calls_of h)) o.left);
      left = i.left ∙ ap (final leaves (calls_of h)) o.left;
      roomy = (k.0, i.roomy);
    }

-- ---- woven histories
module _ (s : SlotParts) (v : Sound s) where
  own_slot : (h : List Sent) → WritesThrough h → Never no_place (answers hears_in leaves_in h (slot_of s)) →
      OwnRun h (slot_of s)
  own_slot h w n = own_run h (slot_of s) n (followed h s w v).never_bad

  roomy_slot : (h : List Sent) → WritesThrough h → Never no_place (answers hears_in leaves_in h (slot_of s)) →
      Never no_room (answers hears leaves (calls_of h) (encode s.parts))
  unfolding slot_of
  roomy_slot h w n = rw (own_slot h w n).heard at (own_slot h w n).roomy

  list_is : (h : List Sent) (n : ℕ) → WritesThrough h → length s.parts.bytes ≡ n →
      (final leaves_in h (slot_of s)).list
      ≡ list_bytes (stretches_after (accepted (calls_of h) (answers hears_in leaves_in h (slot_of s)) n) n s.stretches)
  unfolding slot_of
  list_is h n w e =
      let f : Followed h s = followed h s w v in
      ap (λ (x : Slot). x.list) f.left ∙ ap list_bytes (stretches_accepted h s w) ∙ rw (f.heard, e)

  woven_alike_beside : s.parts.bytes ≡ [] → (h k : List Sent) → WritesThrough h → WritesThrough k →
      Woven (calls_of h) (calls_of k) → Never no_place (answers hears_in leaves_in h (slot_of s)) →
      Never no_place (answers hears_in leaves_in k (slot_of s)) → AlikeBeside h k (slot_of s)
  unfolding slot_of
  woven_alike_beside d h k wh wk w nh nk =
      let oh : OwnRun h (slot_of s) = own_slot h wh nh in
      let ok : OwnRun k (slot_of s) = own_slot k wk nk in
      let a : Alike (calls_of h) (calls_of k) (encode s.parts) =
      woven_alike (calls_of h) (calls_of k) s.parts v.valid w (roomy_slot h wh nh) (roomy_slot k wk nk) in
      let n : length (data_of (encode s.parts)) ≡ 0 = ap length (data_encode s.parts v.valid ∙ d) in
      let e : accepted (calls_of h) (answers hears_in leaves_in h (slot_of s)) 0
      ≡ accepted (calls_of k) (answers hears_in leaves_in k (slot_of s)) 0 =
      rw (oh.heard, ok.heard) (rw n at a.changes_equal) in
      record {
        data_heard = rw (oh.heard, ok.heard) a.data_heard;
        lease_heard = rw (oh.heard, ok.heard) a.lease_heard;
        container_equal = oh.left ∙ a.bytes_equal ∙ sym ok.left;
        list_equal =
            list_is h 0 wh (ap length d)
            ∙ ap (λ (os : List Change). list_bytes (stretches_after os 0 s.stretches)) e
            ∙ sym (list_is k 0 wk (ap length d));
        positions_equal = rw (oh.named, ok.named) a.positions_equal;
        changes_equal = e;
      }

-- ---- from a fresh container and a list of zeros
pub fresh_sound : (b node enabler : List ℕ) → create_outcome b node enabler ≡ 0 →
    Sound (record { parts = fresh (length b) node enabler; stretches = [] })
unfolding listed
fresh_sound b node enabler e = record {
  valid = created_valid b node enabler e;
  rises = tt;
  few = omega arith;
  zeros = λ i q. absurd (false≢true q);
}

pub fresh_slot_lem : (b node enabler : List ℕ) → create_outcome b node enabler ≡ 0 →
    fresh_slot b node enabler ≡ slot_of (record { parts = fresh (length b) node enabler; stretches = [] })
unfolding slot_of
fresh_slot_lem b node enabler e = rw (created b node enabler e, zero_list)

demand_3_fresh : (b node enabler : List ℕ) → create_outcome b node enabler ≡ 0 →
    Demand3Beside (fresh_slot b node enabler) (record { parts = fresh (length b) node enabler; stretches = [] })
unfolding fresh
demand_3_fresh b node enabler e =
    let s : SlotParts = record { parts = fresh (length b) node enabler; stretches = [] } in
    let v : Sound s = fresh_sound b node enabler e in
    rw (fresh_slot_lem b node enabler e) (record {
      woven = woven_alike_beside s v refl;
      rules = λ h w. by_rules h s v w;
      told = λ h w. list_told h s v w refl refl;
    })

-- DEMAND 3
pub demand_3_beside : (b node enabler : List ℕ) → HistoriesBeside b node enabler
demand_3_beside b node enabler = record { fresh_made = demand_3_fresh b node enabler }
