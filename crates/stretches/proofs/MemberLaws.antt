-- What stretches name after each change. Assumes nothing.
use mathlib.Core.Path.{◌≡◌, refl, sym, ap, ◌∙◌}
use mathlib.Core.Bool.{Bool, true, false, cond, not, ◌&&◌, ◌||◌, and-true, and-false}
use mathlib.Core.List.{List, [], ◌∷◌, ◌++◌}
use Prim.Native.Nat.{ℕ, suc, ◌+◌, ◌-◌, ◌≤◌, ◌<◌, min, max}
use native.Mathlib.Omega.{arith}
use lib.Dec.{eqb, leb, ltb}
use borrow.Author.Tests.{ltb-true, ltb-false, leb-true, leb-false, lt-ltb, le-ltb, le-leb, lt-leb, eqb-true}
use Rattle.rules.specs.Changes.{covers}
use Rattle.rules.proofs.WriteLaws.{Spot, low, mid, high, spot, covers_low, covers-mid, covers_high}
use Rattle.stretches.specs.Stretches.{Stretch, stretch, end_of, listed, between, below, above, joined, gapped}
use Rattle.stretches.specs.Stretches.{written_over}

-- ---- tests
pub or-false : (b : Bool) → (b || false) ≡ b
or-false true = refl
or-false false = refl

pub or_assoc : (a b c : Bool) → ((a || b) || c) ≡ (a || (b || c))
or_assoc true b c = refl
or_assoc false b c = refl

pub ltb-min : (i m e : ℕ) → ltb i (min m e) ≡ (ltb i m && ltb i e)
ltb-min i m e = go (ltb i m) refl (ltb i e) refl
  where
    go : (a : Bool) → ltb i m ≡ a → (b : Bool) → ltb i e ≡ b → ltb i (min m e) ≡ (a && b)
    go true p true q = lt-ltb i (min m e) (omega (arith, ltb-true, p, q))
    go true p false q = le-ltb i (min m e) (omega (arith, ltb-false, q))
    go false p b q = le-ltb i (min m e) (omega (arith, ltb-false, p))

pub leb-max : (m s i : ℕ) → leb (max m s) i ≡ (leb m i && leb s i)
leb-max m s i = go (leb m i) refl (leb s i) refl
  where
    go : (a : Bool) → leb m i ≡ a → (b : Bool) → leb s i ≡ b → leb (max m s) i ≡ (a && b)
    go true p true q = le-leb (max m s) i (omega (arith, leb-true, p, q))
    go true p false q = lt-leb (max m s) i (omega (arith, leb-false, q))
    go false p b q = lt-leb (max m s) i (omega (arith, leb-false, p))

-- ---- what rows name
pub listed-append : (a b : List Stretch) (i : ℕ) → listed (a ++ b) i ≡ (listed a i || listed b i)
unfolding listed
listed-append [] b i = refl
listed-append (r ∷ a) b i = ap (λ (x : Bool). covers r.start r.count i || x) (listed-append a b i) ∙ sym (or_assoc (covers r.start r.count i) (listed a i) (listed b i))

empty-between : (a e i : ℕ) → e ≤ a → (leb a i && ltb i e) ≡ false
empty-between a e i h = go (leb a i) refl
  where
    go : (b : Bool) → leb a i ≡ b → (b && ltb i e) ≡ false
    go true p = le-ltb i e (omega (arith, leb-true, p))
    go false p = refl

pub listed-between : (a e i : ℕ) → listed (between a e) i ≡ (leb a i && ltb i e)
unfolding between listed covers
listed-between a e i = go (ltb a e) refl
  where
    go : (b : Bool) → ltb a e ≡ b → listed (cond b (stretch a (e - a) ∷ []) []) i ≡ (leb a i && ltb i e)
    go true p =
        let k : a + (e - a) ≡ e = omega (arith, ltb-true, p) in
        or-false (leb a i && ltb i (a + (e - a))) ∙ rw k
    go false p = sym (empty-between a e i (ltb-false a e p))

below-tests : (a b c d : Bool) → ((a && (b && c)) || (d && b)) ≡ (((a && c) || d) && b)
below-tests a true c d = simp and-true
below-tests a false c d = simp and-false

pub listed_below : (m : ℕ) (rs : List Stretch) (i : ℕ) → listed (below m rs) i ≡ (listed rs i && ltb i m)
unfolding below listed covers
listed_below m [] i = refl
listed_below m (r ∷ rs) i =
    listed-append (between r.start (min m (end_of r))) (below m rs) i
    ∙ rw (listed-between r.start (min m (end_of r)) i, listed_below m rs i, ltb-min i m (end_of r))
    (below-tests (leb r.start i) (ltb i m) (ltb i (end_of r)) (listed rs i))

above-tests : (a b c d : Bool) → (((b && a) && c) || (d && b)) ≡ (((a && c) || d) && b)
above-tests a true c d = simp and-true
above-tests a false c d = simp and-false

pub listed_above : (m : ℕ) (rs : List Stretch) (i : ℕ) → listed (above m rs) i ≡ (listed rs i && leb m i)
unfolding above listed covers
listed_above m [] i = refl
listed_above m (r ∷ rs) i =
    listed-append (between (max m r.start) (end_of r)) (above m rs) i
    ∙ rw (listed-between (max m r.start) (end_of r) i, listed_above m rs i, leb-max m r.start i)
    (above-tests (leb r.start i) (leb m i) (ltb i (end_of r)) (listed rs i))

-- ---- a gap after the rows
pub listed-joined : (n e : ℕ) (rs : List Stretch) (i : ℕ) → n < e → listed (joined n e rs) i ≡ (listed rs i || (leb n i && ltb i e))
unfolding joined listed covers
listed-joined n e [] i h =
    let k : n + (e - n) ≡ e = omega arith in
    rw k (or-false (leb n i && ltb i e))
listed-joined n e (r ∷ rs) i h = go (eqb (end_of r) n) refl (listed-joined n e rs i h)
  where
    here : Bool
    here = covers r.start r.count i

    longer : end_of r ≡ n → covers r.start (e - r.start) i ≡ (here || (leb n i && ltb i e))
    longer p = at (spot r.start r.count i) (ltb i e) refl
      where
        at : Spot r.start r.count i → (b : Bool) → ltb i e ≡ b → covers r.start (e - r.start) i ≡ (here || (leb n i && b))
        at (low g) b q = rw (covers_low r.start r.count i g, covers_low r.start (e - r.start) i g, lt-leb n i (omega arith))
        at (mid g f) b q = rw (covers-mid r.start r.count i g f, covers-mid r.start (e - r.start) i g (omega arith))
        at (high g) true q = rw (covers_high r.start r.count i g, covers-mid r.start (e - r.start) i (omega arith) (omega (arith, ltb-true, q)), le-leb n i (omega arith))
        at (high g) false q = rw (covers_high r.start r.count i g, covers_high r.start (e - r.start) i (omega (arith, ltb-false, q)), le-leb n i (omega arith))

    go : (b : Bool) → eqb (end_of r) n ≡ b → listed (joined n e rs) i ≡ (listed rs i || (leb n i && ltb i e)) → listed (cond b (stretch r.start (e - r.start) ∷ rs) (r ∷ joined n e rs)) i ≡ ((here || listed rs i) || (leb n i && ltb i e))
    go true p ih = rw (longer (eqb-true (end_of r) n p)) (swap here (leb n i && ltb i e) (listed rs i))
      where
        swap : (a b c : Bool) → ((a || b) || c) ≡ ((a || c) || b)
        swap true b c = refl
        swap false true true = refl
        swap false true false = refl
        swap false false c = sym (or-false c)
    go false p ih = rw ih (sym (or_assoc here (listed rs i) (leb n i && ltb i e)))

pub listed-gapped : (n at : ℕ) (rs : List Stretch) (i : ℕ) → listed (gapped n at rs) i ≡ (listed rs i || (leb n i && ltb i at))
unfolding gapped
listed-gapped n at rs i = go (ltb n at) refl
  where
    go : (b : Bool) → ltb n at ≡ b → listed (cond b (joined n at rs) rs) i ≡ (listed rs i || (leb n i && ltb i at))
    go true p = listed-joined n at rs i (ltb-true n at p)
    go false p = rw (empty-between n at i (ltb-false n at p)) (sym (or-false (listed rs i)))

-- After a write: what was listed or lies in the gap, and is not written.
pub listed_written : (n at k : ℕ) (rs : List Stretch) (i : ℕ) → listed (written_over n at (suc k) rs) i ≡ ((listed rs i || (leb n i && ltb i at)) && not (covers at (suc k) i))
unfolding written_over
listed_written n at k rs i =
    listed-append (below at g) (above (at + suc k) g) i
    ∙ rw (listed_below at g i, listed_above (at + suc k) g i, listed-gapped n at rs i) (go (spot at (suc k) i))
  where
    g : List Stretch
    g = gapped n at rs

    x : Bool
    x = listed rs i || (leb n i && ltb i at)

    go : Spot at (suc k) i → ((x && ltb i at) || (x && leb (at + suc k) i)) ≡ (x && not (covers at (suc k) i))
    go (low h) = rw (covers_low at (suc k) i h, lt-ltb i at h, lt-leb (at + suc k) i (omega arith)) (simp (and-true, and-false, or-false))
    go (mid h f) = rw (covers-mid at (suc k) i h f, le-ltb i at h, lt-leb (at + suc k) i f) (simp (and-false))
    go (high h) = rw (covers_high at (suc k) i h, le-ltb i at (omega arith), le-leb (at + suc k) i h) (simp (and-true, and-false))
