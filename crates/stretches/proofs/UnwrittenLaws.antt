-- Over any changes from empty data a position is listed exactly when it is zero for want of a write; what that means in
-- the words of demand 3. Assumes nothing.
use mathlib.Core.Path.{◌≡◌, refl, sym, ap, ◌∙◌}
use mathlib.Core.Bool.{Bool, true, false, cond, not, ◌&&◌, ◌||◌, and-true, and-false, true≢false, false≢true}
use mathlib.Core.List.{List, [], ◌∷◌, ◌++◌}
use mathlib.Core.Option.{Option, none, some, none-ne-some, some-injective}
use mathlib.Core.Logic.{◌⊎◌, inl, inr}
use Prim.Native.Nat.{ℕ, zero, suc, ◌+◌, ◌-◌, ◌≤◌, ◌<◌, min, max}
use native.Mathlib.Omega.{arith}
use lib.ListN.{length, get_or}
use lib.Dec.{leb, ltb}
use borrow.Author.Tests.{ltb-true, ltb-false, leb-true, leb-false, lt-ltb, le-ltb, le-leb, lt-leb}
use Rattle.rules.specs.Writing.{grow}
use Rattle.rules.specs.Changes.{covers}
use Rattle.rules.proofs.WriteLaws.{Spot, low, mid, high, spot, covers_low, covers-mid, covers_high}
use Rattle.rules.specs.Changes.{Change, wrote, cut_at, size_by, size_after, says, byte_over, byte_after, writes_at}
use Rattle.octets.specs.Last.{newer, last_said}
use Rattle.octets.specs.Lists.{or_else, is_some}
use Rattle.octets.proofs.ListLaws.{or_else-newer, both, last_said-append}
use Rattle.octets.specs.Facts.{Each}
use Rattle.stretches.specs.Stretches.{Stretch, listed, written_over, stretches_by, stretches_after}
use Rattle.stretches.specs.Unwritten.{marks, unwritten, cuts_at, EndsInCut, NoWriteSince, Unwritten}
use Rattle.stretches.proofs.MemberLaws.{or-false, ltb-min, listed_below, listed_written}

-- Position i beside data of size n, where w says whether it is written: it is listed exactly if it is data and not written, and beyond
-- the data nothing is written.
pub record Known (i n : ℕ) (rs : List Stretch) (w : Bool) : Type 0 where
  pub names : listed rs i ≡ (ltb i n && not w)
  pub past : n ≤ i → w ≡ false

known_write : (at k i n : ℕ) (rs : List Stretch) (w : Bool) → Known i n rs w
    → Known i (grow n at k) (written_over n at k rs) (or_else (cond (covers at k i) (some true) none) w)
unfolding or_else grow written_over
known_write at zero i n rs w h = go (spot at 0 i)
  where
    go : Spot at 0 i → Known i n rs (or_else (cond (covers at 0 i) (some true) none) w)
    go (low g) = rw (covers_low at 0 i g) h
    go (mid g f) = absurd (omega arith)
    go (high g) = rw (covers_high at 0 i g) h
known_write at (suc k) i n rs w h = go (spot at (suc k) i)
  where
    m : ℕ
    m = max n (at + suc k)

    rs' : List Stretch
    rs' = written_over n at (suc k) rs

    is : listed rs' i ≡ (((ltb i n && not w) || (leb n i && ltb i at)) && not (covers at (suc k) i))
    is = listed_written n at k rs i ∙ rw h.names

    below : (b : Bool) → ltb i n ≡ b → i < at → (((b && not w) || (leb n i && true)) && true) ≡ not w
    below true p g = rw (lt-leb n i (ltb-true i n p)) (simp (or-false, and-true))
    below false p g = rw (le-leb n i (ltb-false i n p), h.past (ltb-false i n p))

    beyond : (b : Bool) → ltb i n ≡ b → at + suc k ≤ i → ltb i m ≡ b
    beyond true p g = lt-ltb i m (omega (arith, ltb-true, p))
    beyond false p g = le-ltb i m (omega (arith, ltb-false, p))

    go : Spot at (suc k) i → Known i m rs' (or_else (cond (covers at (suc k) i) (some true) none) w)
    go (low g) = rw (covers_low at (suc k) i g) (record {
      names = is ∙ rw (covers_low at (suc k) i g, lt-ltb i at g, lt-ltb i m (omega arith)) (below (ltb i n) refl g);
      past = λ q. absurd (omega arith);
    })
    go (mid g f) = rw (covers-mid at (suc k) i g f) (record {
      names = is ∙ rw (covers-mid at (suc k) i g f) (simp and-false);
      past = λ q. absurd (omega arith);
    })
    go (high g) = rw (covers_high at (suc k) i g) (record {
      names = is ∙ rw (covers_high at (suc k) i g, le-ltb i at (omega arith), beyond (ltb i n) refl g) (simp (and-false, or-false, and-true));
      past = λ q. h.past (omega arith);
    })

pub known_by : (o : Change) (i n : ℕ) (rs : List Stretch) (w : Bool) → Known i n rs w → Known i (size_by o n) (stretches_by o n rs) (or_else (marks i o) w)
unfolding size_by stretches_by marks or_else
known_by (wrote at bs) i n rs w h = known_write at (length bs) i n rs w h
known_by (cut_at m) i n rs w h = go (leb m i) refl
  where
    is : listed (stretches_by (cut_at m) n rs) i ≡ ((ltb i n && not w) && ltb i m)
    is = listed_below m rs i ∙ rw h.names

    go : (b : Bool) → leb m i ≡ b → Known i (min m n) (stretches_by (cut_at m) n rs) (or_else (cond b (some false) none) w)
    go true p =
        let q : m ≤ i = leb-true m i p in
        record {
          names = is ∙ rw (le-ltb i m q, le-ltb i (min m n) (omega arith)) (simp and-false);
          past = λ z. refl;
        }
    go false p =
        let q : i < m = leb-false m i p in
        record {
          names = is ∙ rw (ltb-min i m n, lt-ltb i m q) (simp and-true);
          past = λ z. h.past (omega arith);
        }

pub known_after : (os : List Change) (i n : ℕ) (rs : List Stretch) (w : Bool) → Known i n rs w
    → Known i (size_after os n) (stretches_after os n rs) (or_else (last_said (marks i) os) w)
unfolding size_after stretches_after last_said or_else
known_after [] i n rs w h = h
known_after (o ∷ os) i n rs w h =
    rw (or_else-newer (marks i o) (last_said (marks i) os) w)
    (known_after os i (size_by o n) (stretches_by o n rs) (or_else (marks i o) w) (known_by o i n rs w h))

-- From no data and no stretches, whatever the changes: a position is listed exactly when it is data and no write has
-- covered it since the last cut at or below it.
pub listed-unwritten : (os : List Change) (i : ℕ) → listed (stretches_after os 0 []) i ≡ unwritten os i
unfolding unwritten listed
listed-unwritten os i =
    (known_after os i 0 [] false (record { names = rw (le-ltb i 0 (omega arith)); past = λ z. refl })).names

-- ---- beside `says`: both speak of the same changes, and where no write is the last to speak the byte is zero
abbrev Agree : Option Bool → Option ℕ → Type 0
Agree none none = Unit {0}
Agree none (some b) = ⊥
Agree (some w) none = ⊥
Agree (some true) (some b) = Unit {0}
Agree (some false) (some b) = b ≡ 0

agree_by : (o : Change) (i : ℕ) → Agree (marks i o) (says i o)
unfolding marks says
agree_by (wrote at bs) i = go (covers at (length bs) i)
  where
    go : (b : Bool) → Agree (cond b (some true) none) (cond b (some (get_or bs (i - at) 0)) none)
    go true = tt
    go false = tt
agree_by (cut_at m) i = go (leb m i)
  where
    go : (b : Bool) → Agree (cond b (some false) none) (cond b (some 0) none)
    go true = refl
    go false = tt

agree_newer : (x u : Option Bool) (y v : Option ℕ) → Agree x y → Agree u v → Agree (newer x u) (newer y v)
unfolding newer
agree_newer x none y none h g = h
agree_newer x none y (some b) h g = absurd g
agree_newer x (some w) y none h g = absurd g
agree_newer x (some w) y (some b) h g = g

agree_last : (os : List Change) (i : ℕ) → Agree (last_said (marks i) os) (last_said (says i) os)
unfolding last_said
agree_last [] i = tt
agree_last (o ∷ os) i =
    agree_newer (marks i o) (last_said (marks i) os) (says i o) (last_said (says i) os) (agree_by o i) (agree_last os i)

agree_speaks : (x : Option Bool) (y : Option ℕ) → Agree x y → is_some x ≡ is_some y
unfolding is_some
agree_speaks none none h = refl
agree_speaks none (some b) h = absurd h
agree_speaks (some w) none h = absurd h
agree_speaks (some w) (some b) h = refl

all_speak : (os : List Change) (i : ℕ) → Each (λ o. is_some (marks i o) ≡ is_some (says i o)) os
all_speak [] i = tt
all_speak (o ∷ os) i = (agree_speaks (marks i o) (says i o) (agree_by o i), all_speak os i)

not-true : (b : Bool) → not b ≡ true → b ≡ false
not-true true e = absurd (false≢true e)
not-true false e = refl

-- `unwritten` as two facts
pub unwritten_facts : (os : List Change) (i : ℕ) → unwritten os i ≡ true →
    (i < size_after os 0) × (or_else (last_said (marks i) os) false ≡ false)
unfolding unwritten
unwritten_facts os i e =
    let k = both (ltb i (size_after os 0)) (not (or_else (last_said (marks i) os) false)) e in
    (ltb-true i (size_after os 0) k.0, not-true (or_else (last_said (marks i) os) false) k.1)

unwritten-zero : (os : List Change) (i : ℕ) → unwritten os i ≡ true → byte_after os i ≡ 0
unfolding byte_after byte_over or_else
unwritten-zero os i e =
    go (last_said (marks i) os) (last_said (says i) os) (agree_last os i) (unwritten_facts os i e).1
  where
    go : (x : Option Bool) (y : Option ℕ) → Agree x y → or_else x false ≡ false → or_else y 0 ≡ 0
    go none none h e = refl
    go none (some b) h e = absurd h
    go (some w) none h e = absurd h
    go (some true) (some b) h e = absurd (true≢false e)
    go (some false) (some b) h e = h

-- ---- in the words of demand 3
some-none : {x : Bool} → ◌≡◌ {A = Option Bool} (some x) none → ⊥
some-none {x = x} e = none-ne-some x (sym e)

some_is : {x y : Bool} → ◌≡◌ {A = Option Bool} (some x) (some y) → x ≡ y
some_is {x = x} {y = y} e = some-injective x y e

-- a change that says nothing is neither a write over the position nor a cut at or below it
marks-none : (o : Change) (i : ℕ) → marks i o ≡ none → (cuts_at i o ≡ false) × (writes_at i o ≡ false)
unfolding marks
marks-none (wrote at bs) i = go (covers at (length bs) i)
  where
    go : (b : Bool) → cond {A = Option Bool} b (some true) none ≡ none → (false ≡ false) × (b ≡ false)
    go true e = absurd (some-none e)
    go false e = (refl, refl)
marks-none (cut_at m) i = go (leb m i)
  where
    go : (b : Bool) → cond {A = Option Bool} b (some false) none ≡ none → (b ≡ false) × (false ≡ false)
    go true e = absurd (some-none e)
    go false e = (refl, refl)

none-marks : (o : Change) (i : ℕ) → cuts_at i o ≡ false → writes_at i o ≡ false → marks i o ≡ none
unfolding marks
none-marks (wrote at bs) i c w = rw w
none-marks (cut_at m) i c w = rw c

-- the last to speak says that it is not written: a cut
marks-cut : (o : Change) (i : ℕ) → marks i o ≡ some false → EndsInCut (o ∷ []) i
unfolding marks
marks-cut (wrote at bs) i = go (covers at (length bs) i)
  where
    go : (b : Bool) → cond b (some true) none ≡ some false → EndsInCut (wrote at bs ∷ []) i
    go true e = absurd (true≢false (some_is e))
    go false e = absurd (some-none (sym e))
marks-cut (cut_at m) i = go (leb m i) refl
  where
    go : (b : Bool) → leb m i ≡ b → cond b (some false) none ≡ some false → EndsInCut (cut_at m ∷ []) i
    go true p e = record { earlier = []; to = m; is = refl; at_or_below = leb-true m i p }
    go false p e = absurd (some-none (sym e))

newer-none : (x y : Option Bool) → newer x y ≡ none → (x ≡ none) × (y ≡ none)
unfolding newer
newer-none x none e = (e, refl)
newer-none x (some b) e = absurd (some-none e)

silent : (os : List Change) (i : ℕ) → last_said (marks i) os ≡ none →
    Each (λ o. cuts_at i o ≡ false) os × Each (λ o. writes_at i o ≡ false) os
unfolding last_said
silent [] i e = (tt, tt)
silent (o ∷ os) i e =
    let k = newer-none (marks i o) (last_said (marks i) os) e in
    let h = marks-none o i k.0 in
    let r = silent os i k.1 in
    ((h.0, r.0), (h.1, r.1))

unsaid : (os : List Change) (i : ℕ) → Each (λ o. cuts_at i o ≡ false) os → Each (λ o. writes_at i o ≡ false) os →
    last_said (marks i) os ≡ none
unfolding last_said newer
unsaid [] i c w = refl
unsaid (o ∷ os) i c w = rw (none-marks o i c.0 w.0, unsaid os i c.1 w.1)

-- one change more in front
earlier_cut : (o : Change) (os : List Change) (i : ℕ) → EndsInCut os i → EndsInCut (o ∷ os) i
earlier_cut o os i h =
    record { earlier = o ∷ h.earlier; to = h.to; is = ap (λ (l : List Change). o ∷ l) h.is; at_or_below = h.at_or_below }

-- where a cut is the last to speak, nothing behind it speaks
pub record CutLast (os : List Change) (i : ℕ) : Type 0 where
  pub before : List Change
  pub since : List Change
  pub split : os ≡ before ++ since
  pub ends : EndsInCut before i
  pub quiet : last_said (marks i) since ≡ none

cut_last : (os : List Change) (i : ℕ) → last_said (marks i) os ≡ some false → CutLast os i
unfolding last_said newer
cut_last [] i e = absurd (some-none (sym e))
cut_last (o ∷ os) i e = go (last_said (marks i) os) refl e (cut_last os i)
  where
    go : (y : Option Bool) → last_said (marks i) os ≡ y → newer (marks i o) y ≡ some false →
        (last_said (marks i) os ≡ some false → CutLast os i) → CutLast (o ∷ os) i
    go none p f ih = record { before = o ∷ []; since = os; split = refl; ends = marks-cut o i f; quiet = p }
    go (some b) p f ih =
        let r : CutLast os i = ih (p ∙ f) in
        record {
          before = o ∷ r.before;
          since = r.since;
          split = ap (λ (l : List Change). o ∷ l) r.split;
          ends = earlier_cut o r.before i r.ends;
          quiet = r.quiet;
        }

no_write_since : (os : List Change) (i : ℕ) → or_else (last_said (marks i) os) false ≡ false → NoWriteSince os i
unfolding or_else
no_write_since os i = go (last_said (marks i) os) refl
  where
    go : (y : Option Bool) → last_said (marks i) os ≡ y → or_else y false ≡ false → NoWriteSince os i
    go none p e =
        let q = silent os i p in
        record { before = []; since = os; split = refl; from = inl refl; no_cut = q.0; no_write = q.1 }
    go (some true) p e = absurd (true≢false e)
    go (some false) p e =
        let r : CutLast os i = cut_last os i p in
        let q = silent r.since i r.quiet in
        record {
          before = r.before;
          since = r.since;
          split = r.split;
          from = inr r.ends;
          no_cut = q.0;
          no_write = q.1;
        }

-- a cut at the end speaks last
cut_speaks : (os : List Change) (i : ℕ) → EndsInCut os i → last_said (marks i) os ≡ some false
unfolding last_said marks newer
cut_speaks os i h =
    ap (last_said (marks i)) h.is ∙ last_said-append (marks i) h.earlier (cut_at h.to ∷ [])
    ∙ rw (le-leb h.to i h.at_or_below)

cut_or_start : (os : List Change) (i : ℕ) → (os ≡ []) ⊎ EndsInCut os i → or_else (last_said (marks i) os) false ≡ false
unfolding or_else last_said
cut_or_start os i (inl e) = rw e
cut_or_start os i (inr c) = rw (cut_speaks os i c)

since_unwritten : (os : List Change) (i : ℕ) → NoWriteSince os i → or_else (last_said (marks i) os) false ≡ false
unfolding newer
since_unwritten os i h =
    let e : last_said (marks i) os ≡ last_said (marks i) h.before =
    ap (last_said (marks i)) h.split ∙ last_said-append (marks i) h.before h.since
    ∙ rw (unsaid h.since i h.no_cut h.no_write) in
    rw e (cut_or_start h.before i h.from)

-- WHAT IS UNWRITTEN
pub unwritten_is : (os : List Change) (i : ℕ) → Unwritten os i
unfolding unwritten
unwritten_is os i = record {
  means = (
    λ e. (let k = unwritten_facts os i e in (k.0, no_write_since os i k.1)),
    λ h. rw (lt-ltb i (size_after os 0) h.0, since_unwritten os i h.1),
  );
  speaks = all_speak os i;
  is_zero = unwritten-zero os i;
}
