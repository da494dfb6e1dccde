-- The incident, and the list: a write past the end lists exactly the gap. Assumes nothing.
use mathlib.Core.Path.{◌≡◌, sym, ap, ◌∙◌}
use mathlib.Core.Bool.{false, not, ◌&&◌, ◌||◌, and-true, and-false}
use mathlib.Core.List.{List, [], ◌∷◌, ◌++◌}
use Prim.Native.Nat.{ℕ, zero, suc, ◌≤◌, ◌<◌}
use native.Mathlib.Omega.{arith}
use lib.ListN.{length}
use borrow.Author.Tests.{le-ltb}
use Rattle.octets.specs.Facts.{Each}
use Rattle.octets.specs.Lists.{or_else}
use Rattle.format.specs.Layout.{data_of}
use Rattle.format.specs.Parts.{fresh}
use Rattle.format.proofs.RoundTrip.{data_encode}
use Rattle.rules.specs.Testing.{position}
use Rattle.rules.specs.Writing.{Placed, placed}
use Rattle.rules.specs.Changes.{within, covers, wrote, cut_at, size_after, changes_of, cut_change, write_changes}
use Rattle.rules.proofs.WriteLaws.{Spot, low, mid, high, spot, covers_low, covers-mid, covers_high}
use Rattle.rules.proofs.ChangeLaws.{perform_all}
use Rattle.histories.proofs.Sides.{final-append}
use Rattle.histories.proofs.Incident.{writes_then, size_cut}
use Rattle.histories.specs.Runs.{Heard, final}
use Rattle.histories.specs.Accepted.{took}
use Rattle.stretches.specs.Stretches.{Stretch, listed, written_over, stretches_by, stretches_after}
use Rattle.stretches.specs.Claims.{Rising}
use Rattle.stretches.proofs.MemberLaws.{listed_written}
use Rattle.stretches.proofs.ShapeLaws.{listed-high}
use Rattle.listed_rules.specs.Runs.{Slot, Sent, hears_in, leaves_in, WritesThrough, SlotParts, rule_hears_in}
use Rattle.listed_rules.specs.Runs.{rule_leaves_in}
use Rattle.listed_rules.specs.Gap.{GapAlone, CutsIn, WritesPast, after, Quiet, lists, GapListed}
use Rattle.listed_rules.proofs.Steps.{Through, took_in, step_stretches, step_size, Sound, sound_left, slot_of}
use Rattle.listed_rules.proofs.Steps.{stretches_back, hears_slot, leaves_slot}
use Rattle.listed_rules.proofs.RunLaws.{Followed, followed, rule_changes, data_accepted, stretches_accepted}
use Rattle.listed_rules.proofs.Demand3.{fresh_sound, fresh_slot_lem}

-- ---- a history in two parts
each_split : {A : Type 0} (P : A → Type 0) (a b : List A) → Each P (a ++ b) → Each P a × Each P b
each_split P [] b h = (tt, h)
each_split P (x ∷ a) b h = let k = each_split P a b h.1 in ((h.0, k.0), k.1)

-- ---- what one write past the end adds
listed_past : (n p k : ℕ) (rs : List Stretch) (i : ℕ) → Rising 0 rs n → n < p → 0 < k →
    listed (written_over n p k rs) i ≡ (listed rs i || within n p i)
listed_past n p zero rs i r h g = absurd (omega arith)
listed_past n p (suc k) rs i r h g = listed_written n p k rs i ∙ go (spot p (suc k) i)
  where
    go : Spot p (suc k) i →
        ((listed rs i || within n p i) && not (covers p (suc k) i)) ≡ (listed rs i || within n p i)
    go (low f) = rw (covers_low p (suc k) i f) (simp and-true)
    go (mid f e) =
        rw (covers-mid p (suc k) i f e, listed-high 0 rs n i r (omega arith), le-ltb i p f) (simp and-false)
    go (high f) = rw (covers_high p (suc k) i f) (simp and-true)

-- ---- the size after a cut
cut_last : (ws : List Placed) (m n : ℕ) → size_after (write_changes ws (cut_at m ∷ [])) n ≤ m
cut_last ws m n = rw (writes_then ws (cut_at m ∷ [])) (size_cut (write_changes ws []) m n)

-- ---- one call on a sound slot
module _ (s : SlotParts) (v : Sound s) where
  abbrev n : ℕ
  n = length s.parts.bytes

  size_slot : length (data_of (slot_of s).container) ≡ n
  unfolding slot_of
  size_slot = ap length (data_encode s.parts v.valid)

  lists_slot : (i : ℕ) → lists (slot_of s) i ≡ listed s.stretches i
  unfolding slot_of
  lists_slot i = ap (λ (rs : List Stretch). listed rs i) (stretches_back s v)

  -- behind the data nothing is listed
  none_behind : (i : ℕ) → n ≤ i → lists (slot_of s) i ≡ false
  none_behind i h = lists_slot i ∙ listed-high 0 s.stretches n i v.rises h

  heard_done : (x : Sent) → (hears_in x (slot_of s)).answer.number ≡ 0 → (rule_hears_in x s).answer.number ≡ 0
  heard_done x e = sym (ap (λ (a : Heard). a.answer.number) (hears_slot s v x)) ∙ e

  took_past : (y : Sent) (p : ℕ) (q : WritesPast y (slot_of s) p) → took_in y s ≡ wrote p q.bytes ∷ []
  unfolding took_in took changes_of placed write_changes cut_change position or_else
  took_past y p q = rw (heard_done y q.done, q.asks, rw size_slot at q.at)

  past_adds : (y : Sent) (p : ℕ) → Through y → WritesPast y (slot_of s) p → (i : ℕ) →
      lists (leaves_in y (slot_of s)) i
      ≡ (lists (slot_of s) i || within (length (data_of (slot_of s).container)) p i)
  unfolding slot_of stretches_after stretches_by
  past_adds y p t q i =
      let u : SlotParts = rule_leaves_in y s in
      let e : u.stretches ≡ written_over n p (length q.bytes) s.stretches =
      step_stretches y s t ∙ rw (took_past y p q) in
      let g : n < p = omega (arith, q.past, size_slot) in
      ap (λ (z : Slot). lists z i) (leaves_slot s v y)
      ∙ ap (λ (rs : List Stretch). listed rs i) (stretches_back u (sound_left y s t v) ∙ e)
      ∙ listed_past n p (length q.bytes) s.stretches i v.rises g q.some_bytes
      ∙ rw (size_slot, lists_slot i)

  took-cut : (x : Sent) (m : ℕ) (q : CutsIn x (slot_of s) m) →
      took_in x s ≡ write_changes (placed q.writes n) (cut_at m ∷ [])
  unfolding took_in took changes_of cut_change
  took-cut x m q = rw (heard_done x q.done, q.asks)

  cut_short : (x : Sent) (m : ℕ) → CutsIn x (slot_of s) m → length (rule_leaves_in x s).parts.bytes ≤ m
  cut_short x m q = rw (step_size x s, took-cut x m q) (cut_last (placed q.writes n) m n)

-- ---- histories on a sound slot
quiet_size : (s : SlotParts) → Sound s → (h : List Sent) → WritesThrough h → Quiet h (slot_of s) →
    length (final rule_leaves_in h s).parts.bytes ≡ length s.parts.bytes
unfolding perform_all
quiet_size s v h w e =
    let z : rule_changes h s ≡ [] = rw ((followed h s w v).heard, size_slot s v) at e in
    ap length (data_accepted h s) ∙ rw z

quiet_stretches : (s : SlotParts) → Sound s → (h : List Sent) → WritesThrough h → Quiet h (slot_of s) →
    (final rule_leaves_in h s).stretches ≡ s.stretches
unfolding stretches_after
quiet_stretches s v h w e =
    let z : rule_changes h s ≡ [] = rw ((followed h s w v).heard, size_slot s v) at e in
    stretches_accepted h s w ∙ rw z

module _ (s : SlotParts) (v : Sound s) where
  added : (h : List Sent) (y : Sent) (p : ℕ) → WritesThrough (h ++ (y ∷ [])) → WritesPast y (after h (slot_of s)) p →
      (i : ℕ) →
      lists (after (h ++ (y ∷ [])) (slot_of s)) i
      ≡ (lists (after h (slot_of s)) i || within (length (data_of (after h (slot_of s)).container)) p i)
  unfolding final
  added h y p w q i =
      let k = each_split (λ (x : Sent). Through x) h (y ∷ []) w in
      let f : Followed h s = followed h s k.0 v in
      ap (λ (z : Slot). lists z i) (final-append leaves_in h (y ∷ []) (slot_of s))
      ∙ rw f.left (past_adds (final rule_leaves_in h s) f.sound y p k.1.0 (rw f.left at q) i)

  -- the slot after a cut has at most m bytes
  short : (h : List Sent) (x : Sent) (m : ℕ) → WritesThrough (h ++ (x ∷ [])) → CutsIn x (after h (slot_of s)) m →
      length (data_of (after (h ++ (x ∷ [])) (slot_of s)).container) ≤ m
  unfolding final
  short h x m w q =
      let k = each_split (λ (x : Sent). Through x) h (x ∷ []) w in
      let f : Followed h s = followed h s k.0 v in
      let t : SlotParts = final rule_leaves_in h s in
      let u : Sound (rule_leaves_in x t) = sound_left x t k.1.0 f.sound in
      rw (
        final-append leaves_in h (x ∷ []) (slot_of s),
        f.left,
        leaves_slot t f.sound x,
        size_slot (rule_leaves_in x t) u,
      )
      (cut_short t f.sound x m (rw f.left at q))

  -- with nothing accepted between, size and list are the same
  quiet_end : (h between : List Sent) → WritesThrough (h ++ between) → Quiet between (after h (slot_of s)) →
      (length (data_of (after (h ++ between) (slot_of s)).container) ≡ length (data_of (after h (slot_of s)).container))
      × (((i : ℕ) → length (data_of (after h (slot_of s)).container) ≤ i → lists (after h (slot_of s)) i ≡ false)
      × ((i : ℕ) → lists (after (h ++ between) (slot_of s)) i ≡ lists (after h (slot_of s)) i))
  quiet_end h between w e =
      let k = each_split (λ (x : Sent). Through x) h between w in
      let f : Followed h s = followed h s k.0 v in
      let t : SlotParts = final rule_leaves_in h s in
      let g : Followed between t = followed between t k.1 f.sound in
      let u : SlotParts = final rule_leaves_in between t in
      let a : after (h ++ between) (slot_of s) ≡ slot_of u =
      final-append leaves_in h between (slot_of s) ∙ ap (final leaves_in between) f.left ∙ g.left in
      let z : length u.parts.bytes ≡ length t.parts.bytes =
      quiet_size t f.sound between k.1 (rw f.left at e) in
      let m : u.stretches ≡ t.stretches = quiet_stretches t f.sound between k.1 (rw f.left at e) in (
        rw (a, f.left, size_slot u g.sound, size_slot t f.sound) z,
        (
          λ i h. rw f.left (none_behind t f.sound i (rw (f.left, size_slot t f.sound) at h)),
          λ i. rw (a, f.left) (lists_slot u g.sound i ∙ ap (λ (rs : List Stretch). listed rs i) m ∙ sym (lists_slot t f.sound i)),
        ),
      )

  exactly : (h : List Sent) (x : Sent) (m : ℕ) (between : List Sent) (y : Sent) (p : ℕ) →
      WritesThrough (((h ++ (x ∷ [])) ++ between) ++ (y ∷ [])) → CutsIn x (after h (slot_of s)) m →
      Quiet between (after (h ++ (x ∷ [])) (slot_of s)) →
      WritesPast y (after ((h ++ (x ∷ [])) ++ between) (slot_of s)) p →
      GapAlone m p (after (h ++ (x ∷ [])) (slot_of s)) (after (((h ++ (x ∷ [])) ++ between) ++ (y ∷ [])) (slot_of s))
  exactly h x m between y p w c e q =
      let a : List Sent = h ++ (x ∷ []) in
      let k = each_split (λ (x : Sent). Through x) (a ++ between) (y ∷ []) w in
      let l = each_split (λ (x : Sent). Through x) a between k.0 in
      let z = quiet_end a between k.0 e in
      record {
        short = short h x m l.0 c;
        none_behind = z.1.0;
        gap = λ i. added (a ++ between) y p w q i ∙ rw (z.0, z.1.1 i);
      }

-- THE GAP IS LISTED
pub gap_listed : (b node enabler : List ℕ) → GapListed b node enabler
gap_listed b node enabler = record {
  added = λ e. rw (fresh_slot_lem b node enabler e)
      (added (record { parts = fresh (length b) node enabler; stretches = [] }) (fresh_sound b node enabler e));
  exactly = λ e. rw (fresh_slot_lem b node enabler e)
      (exactly (record { parts = fresh (length b) node enabler; stretches = [] }) (fresh_sound b node enabler e));
}
