-- The incident: a byte that was written before an accepted cut at or below its place is not read after it, in any
-- history. Assumes nothing.
use mathlib.Core.Path.{◌≡◌, refl, sym, ap, ◌∙◌}
use mathlib.Core.Bool.{Bool, true, false, cond}
use mathlib.Core.List.{List, [], ◌∷◌, ◌++◌, append_assoc, append-nil}
use mathlib.Core.Option.{Option, none, some}
use Prim.Native.Nat.{ℕ, ◌+◌, ◌≤◌, ◌<◌}
use lib.ListN.{length, get_or, drop}
use lib.Seq.{get_or-take, get_or-drop, drop-append_seam}
use lib.Dec.{leb}
use native.Mathlib.Omega.{arith}
use lib.IntN.{ℤ}
use borrow.Author.Tests.{le-leb}
use Rattle.format.specs.Layout.{data_of}
use Rattle.format.specs.Parts.{Parts, parts_of, encode, fresh}
use Rattle.format.specs.Claims.{Valid}
use Rattle.format.proofs.RoundTrip.{encode_parts, parts_valid}
use Rattle.octets.specs.Lists.{or_else}
use Rattle.octets.specs.Facts.{Each}
use Rattle.octets.specs.Last.{last_said, newer}
use Rattle.rules.specs.Testing.{resolve, position, piece}
use Rattle.rules.specs.Writing.{Placed, placed}
use Rattle.rules.proofs.Demand1.{created, created_valid}
use Rattle.rules.proofs.Offsets.{offsets_resolve}
use Rattle.histories.specs.Runs.{Call, hears, leaves, answers, final}
use Rattle.rules.specs.Changes.{Change, wrote, cut_at, size_by, size_after, says, byte_over, byte_after, cut_change}
use Rattle.rules.specs.Changes.{write_changes, changes_of}
use Rattle.histories.specs.Accepted.{took, accepted}
use Rattle.histories.specs.Incident.{Cuts, later_changes, Untouched, middle, end, Forgets, Appends, ForgetsAppend}
use Rattle.histories.specs.Incident.{Incident, IncidentInUse}
use Rattle.histories.proofs.Demand3.{size_final, each_final}
use Rattle.histories.proofs.Sides.{final-append}
use Rattle.octets.proofs.ListLaws.{last_said-append, newer_assoc}

-- ---- what was said before a cut is forgotten
zero_under : (x y : Option ℕ) (z : ℕ) → or_else (newer (newer y (some 0)) x) z ≡ or_else x 0
unfolding or_else newer
zero_under (some b) y z = refl
zero_under none y z = refl

pub cut_forgets : (a b : List Change) (m i z : ℕ) → m ≤ i → byte_over (a ++ (cut_at m ∷ b)) i z ≡ byte_after b i
unfolding byte_over byte_after last_said says
cut_forgets a b m i z h =
    let x : Option ℕ = last_said (says i) a in
    let y : Option ℕ = last_said (says i) b in
    let e : last_said (says i) (a ++ (cut_at m ∷ b)) ≡ newer (newer x (some 0)) y =
    last_said-append (says i) a (cut_at m ∷ b) ∙ rw (le-leb m i h) (newer_assoc x (some 0) y) in
    ap (λ (u : Option ℕ). or_else u z) e ∙ zero_under y x z

-- ---- the changes of a history in two stretches
size_after-append : (a b : List Change) (n : ℕ) → size_after (a ++ b) n ≡ size_after b (size_after a n)
unfolding size_after
size_after-append [] b n = refl
size_after-append (o ∷ a) b n = size_after-append a b (size_by o n)

pub size_cut : (a : List Change) (m n : ℕ) → size_after (a ++ (cut_at m ∷ [])) n ≤ m
unfolding size_after size_by
size_cut a m n = rw (size_after-append a (cut_at m ∷ []) n) (omega arith)

-- the accepted changes of the calls h on container bytes c, whose data has n bytes
abbrev pub changes : List Call → List ℕ → ℕ → List Change
changes h c n = accepted h (answers hears leaves h c) n

pub accepted-append : (h k : List Call) (c : List ℕ) (n : ℕ) →
    changes (h ++ k) c n ≡ changes h c n ++ changes k (final leaves h c) (size_after (changes h c n) n)
unfolding accepted answers final size_after
accepted-append [] k c n = refl
accepted-append (x ∷ h) k c n =
    let t : List Change = took x (hears x c) n in
    let a : List Change = changes h (leaves x c) (size_after t n) in
    ap (λ (l : List Change). t ++ l) (accepted-append h k (leaves x c) (size_after t n))
    ∙ rw (size_after-append t a n) (sym (append_assoc t a _))

-- ---- the changes up to and with a cut
pub writes_then : (ws : List Placed) (os : List Change) → write_changes ws os ≡ write_changes ws [] ++ os
unfolding write_changes
writes_then [] os = refl
writes_then (w ∷ ws) os = ap (λ (l : List Change). wrote w.at w.bytes ∷ l) (writes_then ws os)

took-cut : (x : Call) (c : List ℕ) (m n : ℕ) (q : Cuts x c m) →
    took x (hears x c) n ≡ write_changes (placed q.writes n) [] ++ (cut_at m ∷ [])
unfolding took changes_of cut_change
took-cut x c m n q = rw (q.done, q.asks) (writes_then (placed q.writes n) (cut_at m ∷ []))

accepted-cut : (h : List Call) (x : Call) (c : List ℕ) (s m : ℕ) (q : Cuts x (final leaves h c) m) →
    (a : List Change) × (changes (h ++ (x ∷ [])) c s ≡ a ++ (cut_at m ∷ []))
unfolding accepted answers
accepted-cut h x c s m q =
    let n : ℕ = size_after (changes h c s) s in
    let w : List Change = write_changes (placed q.writes n) [] in
    let t : took x (hears x (final leaves h c)) n ++ [] ≡ w ++ (cut_at m ∷ []) =
    append-nil _ ∙ took-cut x (final leaves h c) m n q in
    (changes h c s ++ w, accepted-append h (x ∷ []) c s ∙ rw t (sym (append_assoc (changes h c s) w (cut_at m ∷ []))))

-- ---- a place that no change writes
untouched_says : (o : Change) (i : ℕ) → Untouched i o → or_else (says i o) 0 ≡ 0
unfolding says or_else
untouched_says (wrote at bs) i u = rw u
untouched_says (cut_at m) i u = go (leb m i)
  where
    go : (b : Bool) → or_else {A = ℕ} (cond b (some 0) none) 0 ≡ 0
    go true = refl
    go false = refl

pub untouched_zero : (os : List Change) (i : ℕ) → Each (Untouched i) os → byte_after os i ≡ 0
unfolding byte_over byte_after last_said or_else newer
untouched_zero [] i u = refl
untouched_zero (o ∷ os) i u = go (last_said (says i) os) (untouched_zero os i u.1)
  where
    go : (x : Option ℕ) → or_else x 0 ≡ 0 → or_else (newer (says i o) x) 0 ≡ 0
    go (some v) e = e
    go none e = untouched_says o i u.0

-- ---- after a cut, on any valid parts
module _ (p : Parts) (v : Valid p) (before : List Call) (x : Call) (after : List Call) (m : ℕ)
    (cuts : Cuts x (final leaves before (encode p)) m) where
  abbrev c : List ℕ
  c = encode p

  abbrev d : List ℕ
  d = p.bytes

  since : List Change
  since = later_changes after (middle c before x)

  incident_byte : (i : ℕ) → m ≤ i → get_or (data_of (end c before x after)) i 0 ≡ byte_after since i
  unfolding since
  incident_byte i h =
      let n : ℕ = length d in
      let s : length (data_of (middle c before x)) ≡ size_after (changes (before ++ (x ∷ [])) c n) n =
      size_final (before ++ (x ∷ [])) p v d refl in
      let a = accepted-cut before x c n m cuts in
      each_final ((before ++ (x ∷ [])) ++ after) p v d refl i
      ∙ ap (λ (os : List Change). byte_over os i (get_or d i 0)) (accepted-append (before ++ (x ∷ [])) after c n)
      ∙ rw (← s, a.1, append_assoc a.0 (cut_at m ∷ []) since) (cut_forgets a.0 since m i (get_or d i 0) h)

  incident_read : (o : ℤ) (p n j : ℕ) → resolve o (length (data_of (end c before x after))) ≡ some p → j < n →
      m ≤ p + j → get_or (piece (data_of (end c before x after)) o n) j 0 ≡ byte_after since (p + j)
  unfolding piece position or_else
  incident_read o p n j r h g =
      let e : List ℕ = data_of (end c before x after) in
      rw r (get_or-take n (drop p e) j 0 h ∙ get_or-drop p e j 0 ∙ incident_byte (p + j) g)

  incident_short : length (data_of (middle c before x)) ≤ m
  incident_short =
      let a = accepted-cut before x c (length d) m cuts in
      rw (size_final (before ++ (x ∷ [])) p v d refl, a.1) (size_cut a.0 m (length d))

  forgets : Forgets c before x after m
  unfolding since
  forgets = record {
    bytes = incident_byte;
    reads = incident_read;
    zeros = λ i h u. incident_byte i h ∙ untouched_zero since i u;
    short = incident_short;
  }

-- ---- an append behind all that
-- what an append leaves
append-leaves : (y : Call) (c bs : List ℕ) → Appends y c bs → data_of (leaves y c) ≡ data_of c ++ bs
unfolding leaves hears
append-leaves y c bs a =
    (offsets_resolve c y.request y.space).appended a.enabler a.tests a.writes a.asks a.at_end
    a.done
    ∙ ap (λ (l : List ℕ). data_of c ++ l) (sym a.bytes)

module _ (p : Parts) (v : Valid p) (before : List Call) (x : Call) (after : List Call) (y : Call) (m : ℕ) (bs : List ℕ)
    (cuts : Cuts x (final leaves before (encode p)) m) (adds : Appends y (end (encode p) before x after) bs) where
  abbrev h : List Call
  h = before ++ (x ∷ [])

  behind : data_of (end (encode p) before x (after ++ (y ∷ []))) ≡ data_of (end (encode p) before x after) ++ bs
  unfolding final
  behind =
      ap (λ (l : List Call). data_of (final leaves l (encode p))) (sym (append_assoc h after (y ∷ [])))
      ∙ ap data_of (final-append leaves (h ++ after) (y ∷ []) (encode p))
      ∙ append-leaves y (end (encode p) before x after) bs adds

  at_cut : after ≡ [] → length (data_of (middle (encode p) before x)) ≡ m →
      drop m (data_of (end (encode p) before x (after ++ (y ∷ [])))) ≡ bs
  at_cut e n =
      let d : List ℕ = data_of (middle (encode p) before x) in
      let f : data_of (end (encode p) before x after) ≡ d =
      ap (λ (l : List Call). data_of (final leaves (h ++ l) (encode p))) e
      ∙ ap (λ (l : List Call). data_of (final leaves l (encode p))) (append-nil h) in
      ap (λ (l : List ℕ). drop m l) (behind ∙ ap (λ (l : List ℕ). l ++ bs) f)
      ∙ ap (λ (i : ℕ). drop i (d ++ bs)) (sym n)
      ∙ drop-append_seam d bs

  forgets_append : ForgetsAppend (encode p) before x after y m bs
  forgets_append = record {
    behind = behind;
    at_cut = at_cut;
    forgets = forgets p v before x (after ++ (y ∷ [])) m cuts;
  }

-- THE INCIDENT cannot happen again
pub incident : (b node enabler : List ℕ) → Incident b node enabler
incident b node enabler = record {
  forgets = λ e. rw (created b node enabler e)
      (forgets (fresh (length b) node enabler) (created_valid b node enabler e));
  appends = λ e. rw (created b node enabler e)
      (forgets_append (fresh (length b) node enabler) (created_valid b node enabler e));
}

-- Nor on a container in use.
pub incident_in_use : (c : List ℕ) → IncidentInUse c
incident_in_use c = record {
  forgets = λ w o. rw (encode_parts c w o) at (forgets (parts_of c) (parts_valid c w));
  appends = λ w o. rw (encode_parts c w o) at (forgets_append (parts_of c) (parts_valid c w));
}
