-- Runs of calls on a slot: container and list follow parts and stretches, and these are what the accepted changes make
-- of them. Assumes nothing.
use mathlib.Core.Path.{◌≡◌, refl, sym, ap, ap₂, ◌∙◌}
use mathlib.Core.Bool.{Bool, true, false}
use mathlib.Core.List.{List, [], ◌∷◌, ◌++◌}
use Prim.Native.Nat.{ℕ}
use native.Mathlib.Omega.{arith}
use lib.ListN.{length}
use borrow.Author.Tests.{ne_eqb}
use Rattle.format.specs.Layout.{data_of}
use Rattle.format.proofs.RoundTrip.{data_encode}
use Rattle.rules.specs.Changes.{Change, size_by, size_after}
use Rattle.rules.specs.Outcomes.{outcome}
use Rattle.rules.proofs.OutcomeLaws.{answered-number}
use Rattle.rules.proofs.ChangeLaws.{perform_all, perform_all-append}
use Rattle.histories.specs.Runs.{Heard, hears, answers, final, Never}
use Rattle.histories.specs.Accepted.{accepted}
use Rattle.stretches.specs.Stretches.{Stretch, stretches_by, stretches_after}
use Rattle.stretches.specs.List.{list_bytes}
use Rattle.stretches.specs.Claims.{GoodList}
use Rattle.stretches.proofs.Claims.{good_list}
use Rattle.listed_rules.specs.Runs.{Slot, Sent, hears_in, leaves_in, WritesThrough, calls_of, SlotParts, rule_hears_in}
use Rattle.listed_rules.specs.Runs.{rule_leaves_in}
use Rattle.listed_rules.specs.Histories.{bad_list}
use Rattle.rules.proofs.NumberLaws.{own_most}
use Rattle.listed_rules.proofs.Demand1.{demand_1_beside}
use Rattle.listed_rules.proofs.Steps.{took_in, step_data, step_stretches, step_size, Sound, sound_left, slot_of}
use Rattle.listed_rules.proofs.Steps.{slot_ok, hears_slot, leaves_slot}

-- ---- a sound slot has a good list, so that no call is answered 16
pub slot_good : (s : SlotParts) → Sound s → GoodList (slot_of s).list (data_of (slot_of s).container)
unfolding slot_of
slot_good s v =
    rw (data_encode s.parts v.valid) (good_list (list_bytes s.stretches) s.parts.bytes (slot_ok s v))

not_bad : (x : Sent) (s : Slot) → GoodList s.list (data_of s.container) → bad_list (hears_in x s) ≡ false
unfolding bad_list hears_in hears
not_bad x s g = go x.direct refl
  where
    c : List ℕ
    c = s.container

    own : ℕ
    own = outcome c x.call.request (length x.call.space)

    go : (b : Bool) → x.direct ≡ b → bad_list (hears_in x s) ≡ false
    go true d =
        rw (d, answered-number)
        (ne_eqb own 16 (λ e. omega (arith, own_most c x.call.request (length x.call.space), e)))
    go false d =
        rw d (ne_eqb _ 16 (λ e. ((demand_1_beside c s.list x.call.request x.call.space).sixteen.0 e).1 g))

-- ---- container and list follow
pub record Followed (h : List Sent) (s : SlotParts) : Type 0 where
  pub sound : Sound (final rule_leaves_in h s)
  pub heard : answers hears_in leaves_in h (slot_of s) ≡ answers rule_hears_in rule_leaves_in h s
  pub left : final leaves_in h (slot_of s) ≡ slot_of (final rule_leaves_in h s)
  pub never_bad : Never bad_list (answers hears_in leaves_in h (slot_of s))

pub followed : (h : List Sent) (s : SlotParts) → WritesThrough h → Sound s → Followed h s
unfolding answers final
followed [] s w v = record { sound = v; heard = refl; left = refl; never_bad = tt }
followed (x ∷ h) s w v =
    let i : Followed h (rule_leaves_in x s) = followed h (rule_leaves_in x s) w.1 (sound_left x s w.0 v) in
    record {
      sound = i.sound;
      heard = ap₂ ◌∷◌ (hears_slot s v x) (ap (answers hears_in leaves_in h) (leaves_slot s v x) ∙ i.heard);
      left = ap (final leaves_in h) (leaves_slot s v x) ∙ i.left;
      never_bad = (not_bad x (slot_of s) (slot_good s v), rw (leaves_slot s v x) i.never_bad);
    }

-- ---- the accepted changes, carried out
stretches_append : (a b : List Change) (n : ℕ) (rs : List Stretch) →
    stretches_after (a ++ b) n rs ≡ stretches_after b (size_after a n) (stretches_after a n rs)
unfolding stretches_after size_after
stretches_append [] b n rs = refl
stretches_append (o ∷ a) b n rs = stretches_append a b (size_by o n) (stretches_by o n rs)

-- those of the calls h on parts and stretches s
abbrev pub rule_changes : List Sent → SlotParts → List Change
rule_changes h s = accepted (calls_of h) (answers rule_hears_in rule_leaves_in h s) (length s.parts.bytes)

pub data_accepted : (h : List Sent) (s : SlotParts) →
    (final rule_leaves_in h s).parts.bytes ≡ perform_all (rule_changes h s) s.parts.bytes
unfolding final answers accepted perform_all took_in
data_accepted [] s = refl
data_accepted (x ∷ h) s =
    let d : List ℕ = s.parts.bytes in
    let os : List Change = took_in x s in
    let heard : List Heard = answers rule_hears_in rule_leaves_in h (rule_leaves_in x s) in
    data_accepted h (rule_leaves_in x s)
    ∙ ap₂ (λ (k : ℕ) (l : List ℕ). perform_all (accepted (calls_of h) heard k) l) (step_size x s) (step_data x s)
    ∙ sym (perform_all-append os (accepted (calls_of h) heard (size_after os (length d))) d)

pub stretches_accepted : (h : List Sent) (s : SlotParts) → WritesThrough h →
    (final rule_leaves_in h s).stretches ≡ stretches_after (rule_changes h s) (length s.parts.bytes) s.stretches
unfolding final answers accepted stretches_after took_in
stretches_accepted [] s w = refl
stretches_accepted (x ∷ h) s w =
    let n : ℕ = length s.parts.bytes in
    let os : List Change = took_in x s in
    let heard : List Heard = answers rule_hears_in rule_leaves_in h (rule_leaves_in x s) in
    stretches_accepted h (rule_leaves_in x s) w.1
    ∙ ap₂ (λ (k : ℕ) (rs : List Stretch). stretches_after (accepted (calls_of h) heard k) k rs) (step_size x s)
    (step_stretches x s w.0)
    ∙ sym (stretches_append os (accepted (calls_of h) heard (size_after os n)) n s.stretches)
