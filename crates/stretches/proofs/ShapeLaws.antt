-- Stretches stay rising, apart and inside the size; how many a write adds; what they name determines them. Assumes
-- nothing.
use mathlib.Core.Path.{◌≡◌, refl, sym, ap₂, ◌∙◌}
use mathlib.Core.Bool.{Bool, true, false, cond, true≢false}
use mathlib.Core.List.{List, [], ◌∷◌, ◌++◌}
use Prim.Native.Nat.{ℕ, zero, suc, ◌+◌, ◌-◌, ◌≤◌, ◌<◌, min, max}
use native.Mathlib.Omega.{arith}
use lib.ListN.{length, length-append}
use lib.Dec.{eqb, leb, ltb}
use borrow.Author.Tests.{ltb-true, ltb-false, leb-true, lt-ltb, le-ltb, le-leb, eqb-true, eqb-false}
use Rattle.rules.specs.Writing.{grow}
use Rattle.rules.proofs.WriteLaws.{covers_low, covers-mid, covers_high}
use Rattle.rules.specs.Changes.{Change, wrote, cut_at, size_by, size_after}
use Rattle.stretches.specs.Stretches.{Stretch, stretch, end_of, listed, rising, between, below, above, joined}
use Rattle.stretches.specs.Stretches.{gapped, written_over, stretches_by, stretches_after}
use Rattle.stretches.specs.Claims.{InPlace, Rising}
use Rattle.octets.proofs.ListLaws.{both}

-- ---- `rising` as facts
pub rising_facts : (low : ℕ) (rs : List Stretch) (n : ℕ) → rising low rs n ≡ true → Rising low rs n
unfolding rising
rising_facts low [] n e = tt
rising_facts low (r ∷ rs) n e =
    let a = both (leb low r.start) _ e in
    let b = both (ltb 0 r.count) _ a.1 in
    let c = both (leb (end_of r) n) _ b.1 in (
      record { from = leb-true low r.start a.0; filled = ltb-true 0 r.count b.0; to = leb-true (end_of r) n c.0 },
      rising_facts (suc (end_of r)) rs n c.1,
    )

pub rising-true : (low : ℕ) (rs : List Stretch) (n : ℕ) → Rising low rs n → rising low rs n ≡ true
unfolding rising
rising-true low [] n h = refl
rising-true low (r ∷ rs) n h =
    rw (le-leb low r.start h.0.from, lt-ltb 0 r.count h.0.filled, le-leb (end_of r) n h.0.to) (rising-true (suc (end_of r)) rs n h.1)

pub loosen : (low low' : ℕ) (rs : List Stretch) (n n' : ℕ) → low ≤ low' → n' ≤ n → Rising low' rs n' → Rising low rs n
loosen low low' [] n n' a b h = tt
loosen low low' (r ∷ rs) n n' a b h =
    let f : InPlace low' r n' = h.0 in
    (record { from = omega arith; filled = omega arith; to = omega arith }, loosen (suc (end_of r)) (suc (end_of r)) rs n n' (omega arith) b h.1)

rising-append : (low m hi n : ℕ) (a b : List Stretch) → Rising low a m → Rising hi b n → m < hi → m ≤ n → low ≤ hi → Rising low (a ++ b) n
rising-append low m hi n [] b h g p q l = loosen low hi b n n l (omega arith) g
rising-append low m hi n (r ∷ a) b h g p q l =
    let f : InPlace low r m = h.0 in
    (record { from = omega arith; filled = omega arith; to = omega arith }, rising-append (suc (end_of r)) m hi n a b h.1 g p q (omega arith))

rising-between : (low a e n : ℕ) → low ≤ a → e ≤ n → Rising low (between a e) n
unfolding between
rising-between low a e n h g = go (ltb a e) refl
  where
    go : (b : Bool) → ltb a e ≡ b → Rising low (cond b (stretch a (e - a) ∷ []) []) n
    go true p = let k : a < e = ltb-true a e p in (record { from = h; filled = omega arith; to = omega arith }, tt)
    go false p = tt

pub rising-below : (m low : ℕ) (rs : List Stretch) (n : ℕ) → Rising low rs n → Rising low (below m rs) (min m n)
unfolding below
rising-below m low [] n h = tt
rising-below m low (r ∷ rs) n h =
    let f : InPlace low r n = h.0 in
    let e : ℕ = min m (end_of r) in
    rising-append low e (suc (end_of r)) (min m n) (between r.start e) (below m rs)
    (rising-between low r.start e e (omega arith) (omega arith)) (rising-below m (suc (end_of r)) rs n h.1) (omega arith) (omega arith) (omega arith)

pub rising-above : (m low : ℕ) (rs : List Stretch) (n : ℕ) → Rising low rs n → Rising (max low m) (above m rs) n
unfolding above
rising-above m low [] n h = tt
rising-above m low (r ∷ rs) n h =
    let f : InPlace low r n = h.0 in
    let a : ℕ = max m r.start in
    rising-append (max low m) (end_of r) (max (suc (end_of r)) m) n (between a (end_of r)) (above m rs)
    (rising-between (max low m) a (end_of r) (end_of r) (omega arith) (omega arith)) (rising-above m (suc (end_of r)) rs n h.1) (omega arith) (omega arith) (omega arith)

pub rising-joined : (n e low : ℕ) (rs : List Stretch) → n < e → low ≤ n → Rising low rs n → Rising low (joined n e rs) e
unfolding joined
rising-joined n e low [] g l h = (record { from = l; filled = omega arith; to = omega arith }, tt)
rising-joined n e low (r ∷ rs) g l h = go (eqb (end_of r) n) refl (λ k. rising-joined n e (suc (end_of r)) rs g k h.1)
  where
    f : InPlace low r n
    f = h.0

    -- nothing follows a row that ends at n
    alone : (rs : List Stretch) → end_of r ≡ n → Rising (suc (end_of r)) rs n → Rising (suc (r.start + (e - r.start))) rs e
    alone [] p k = tt
    alone (s ∷ rs) p k = let d : InPlace (suc (end_of r)) s n = k.0 in absurd (omega arith)

    go : (b : Bool) → eqb (end_of r) n ≡ b → (suc (end_of r) ≤ n → Rising (suc (end_of r)) (joined n e rs) e) → Rising low (cond b (stretch r.start (e - r.start) ∷ rs) (r ∷ joined n e rs)) e
    go true p ih =
        let q : end_of r ≡ n = eqb-true (end_of r) n p in
        (record { from = omega (arith, f); filled = omega (arith, f); to = omega (arith, f) }, alone rs q h.1)
    go false p ih =
        (record { from = omega (arith, f); filled = omega (arith, f); to = omega (arith, f) }, ih (omega (arith, f, eqb-false (end_of r) n p)))

pub rising-gapped : (n at : ℕ) (rs : List Stretch) → Rising 0 rs n → Rising 0 (gapped n at rs) (max n at)
unfolding gapped
rising-gapped n at rs h = go (ltb n at) refl
  where
    go : (b : Bool) → ltb n at ≡ b → Rising 0 (cond b (joined n at rs) rs) (max n at)
    go true p = let k : n < at = ltb-true n at p in loosen 0 0 (joined n at rs) (max n at) at (omega arith) (omega arith) (rising-joined n at 0 rs k (omega arith) h)
    go false p = loosen 0 0 rs (max n at) n (omega arith) (omega arith) h

pub rising_written : (n at k : ℕ) (rs : List Stretch) → Rising 0 rs n → Rising 0 (written_over n at k rs) (grow n at k)
unfolding written_over grow
rising_written n at zero rs h = h
rising_written n at (suc k) rs h =
    let g : List Stretch = gapped n at rs in
    let z : ℕ = max n at in
    let r : Rising 0 g z = rising-gapped n at rs h in
    loosen 0 0 (below at g ++ above (at + suc k) g) (max n (at + suc k)) z (omega arith) (omega arith)
    (rising-append 0 (min at z) (max 0 (at + suc k)) z (below at g) (above (at + suc k) g) (rising-below at 0 g z r) (rising-above (at + suc k) 0 g z r) (omega arith) (omega arith) (omega arith))

pub rising_by : (o : Change) (n : ℕ) (rs : List Stretch) → Rising 0 rs n → Rising 0 (stretches_by o n rs) (size_by o n)
unfolding stretches_by size_by
rising_by (wrote at bs) n rs h = rising_written n at (length bs) rs h
rising_by (cut_at m) n rs h = rising-below m 0 rs n h

pub rising-after : (os : List Change) (n : ℕ) (rs : List Stretch) → Rising 0 rs n → Rising 0 (stretches_after os n rs) (size_after os n)
unfolding stretches_after size_after
rising-after [] n rs h = h
rising-after (o ∷ os) n rs h = rising-after os (size_by o n) (stretches_by o n rs) (rising_by o n rs h)

-- ---- how many rows
length-between : (a e : ℕ) → length (between a e) ≤ 1
unfolding between
length-between a e = go (ltb a e)
  where
    go : (b : Bool) → length (cond b (stretch a (e - a) ∷ []) []) ≤ 1
    go true = omega arith
    go false = omega arith

none_between : (a e : ℕ) → e ≤ a → length (between a e) ≡ 0
unfolding between
none_between a e h = rw (le-ltb a e h)

pub length-below : (m : ℕ) (rs : List Stretch) → length (below m rs) ≤ length rs
unfolding below
length-below m [] = omega arith
length-below m (r ∷ rs) =
    simp length-append (omega (arith, length-between r.start (min m (end_of r)), length-below m rs))

pub length_above : (m : ℕ) (rs : List Stretch) → length (above m rs) ≤ length rs
unfolding above
length_above m [] = omega arith
length_above m (r ∷ rs) =
    simp length-append (omega (arith, length-between (max m r.start) (end_of r), length_above m rs))

pub none_below : (m low : ℕ) (rs : List Stretch) (n : ℕ) → Rising low rs n → m ≤ low → length (below m rs) ≡ 0
unfolding below
none_below m low [] n h g = refl
none_below m low (r ∷ rs) n h g =
    let f : InPlace low r n = h.0 in
    simp length-append (omega (arith, none_between r.start (min m (end_of r)) (omega arith), none_below m (suc (end_of r)) rs n h.1 (omega arith)))

pub none_above : (m low : ℕ) (rs : List Stretch) (n : ℕ) → Rising low rs n → n ≤ m → length (above m rs) ≡ 0
unfolding above
none_above m low [] n h g = refl
none_above m low (r ∷ rs) n h g =
    let f : InPlace low r n = h.0 in
    simp length-append (omega (arith, none_between (max m r.start) (end_of r) (omega arith), none_above m (suc (end_of r)) rs n h.1 g))

-- taking positions out of the rows splits one of them at most
length_split : (a e low : ℕ) (rs : List Stretch) (n : ℕ) → a ≤ e → Rising low rs n → length (below a rs) + length (above e rs) ≤ suc (length rs)
unfolding below above
length_split a e low [] n g h = omega arith
length_split a e low (r ∷ rs) n g h = go (ltb a (end_of r)) refl (length_split a e (suc (end_of r)) rs n g h.1)
  where
    x : ℕ
    x = length (between r.start (min a (end_of r)))

    y : ℕ
    y = length (between (max e r.start) (end_of r))

    go : (b : Bool) → ltb a (end_of r) ≡ b → length (below a rs) + length (above e rs) ≤ suc (length rs) →
        length (between r.start (min a (end_of r)) ++ below a rs) + length (between (max e r.start) (end_of r) ++ above e rs) ≤ suc (suc (length rs))
    go true p ih =
        let k : a < end_of r = ltb-true a (end_of r) p in
        simp length-append (omega (arith, length-between r.start (min a (end_of r)), length-between (max e r.start) (end_of r), none_below a (suc (end_of r)) rs n h.1 (omega arith), length_above e rs))
    go false p ih =
        let k : end_of r ≤ a = ltb-false a (end_of r) p in
        simp length-append (omega (arith, length-between r.start (min a (end_of r)), none_between (max e r.start) (end_of r) (omega arith), ih))

length-joined : (n e : ℕ) (rs : List Stretch) → length (joined n e rs) ≤ suc (length rs)
unfolding joined
length-joined n e [] = omega arith
length-joined n e (r ∷ rs) = go (eqb (end_of r) n) (length-joined n e rs)
  where
    go : (b : Bool) → length (joined n e rs) ≤ suc (length rs) → length (cond b (stretch r.start (e - r.start) ∷ rs) (r ∷ joined n e rs)) ≤ suc (suc (length rs))
    go true ih = omega arith
    go false ih = omega arith

-- A write adds one row at most.
pub length_written : (n at k : ℕ) (rs : List Stretch) → Rising 0 rs n → length (written_over n at k rs) ≤ suc (length rs)
unfolding written_over gapped
length_written n at zero rs h = omega arith
length_written n at (suc k) rs h = go (ltb n at) refl
  where
    go : (b : Bool) → ltb n at ≡ b → length (below at (cond b (joined n at rs) rs) ++ above (at + suc k) (cond b (joined n at rs) rs)) ≤ suc (length rs)
    go true p =
        let q : n < at = ltb-true n at p in
        simp length-append (omega (arith, length-below at (joined n at rs), length-joined n at rs, none_above (at + suc k) 0 (joined n at rs) at (rising-joined n at 0 rs q (omega arith) h) (omega arith)))
    go false p = simp length-append (omega (arith, length_split at (at + suc k) 0 rs n (omega arith) h))

pub length_by : (o : Change) (n : ℕ) (rs : List Stretch) → Rising 0 rs n → length (stretches_by o n rs) ≤ suc (length rs)
unfolding stretches_by
length_by (wrote at bs) n rs h = length_written n at (length bs) rs h
length_by (cut_at m) n rs h = omega (arith, length-below m rs)

-- So that 16 writes and a cut, from 256 rows on, never need more than 272 on the way.
pub length-after : (os : List Change) (n : ℕ) (rs : List Stretch) → Rising 0 rs n → length (stretches_after os n rs) ≤ length rs + length os
unfolding stretches_after
length-after [] n rs h = omega arith
length-after (o ∷ os) n rs h =
    omega (arith, length_by o n rs h, length-after os (size_by o n) (stretches_by o n rs) (rising_by o n rs h))

-- ---- rows so formed are known by what they name
pub listed-low : (low : ℕ) (rs : List Stretch) (n i : ℕ) → Rising low rs n → i < low → listed rs i ≡ false
unfolding listed
listed-low low [] n i h g = refl
listed-low low (r ∷ rs) n i h g =
    let f : InPlace low r n = h.0 in
    rw (covers_low r.start r.count i (omega arith)) (listed-low (suc (end_of r)) rs n i h.1 (omega arith))

pub listed-high : (low : ℕ) (rs : List Stretch) (n i : ℕ) → Rising low rs n → n ≤ i → listed rs i ≡ false
unfolding listed
listed-high low [] n i h g = refl
listed-high low (r ∷ rs) n i h g =
    let f : InPlace low r n = h.0 in
    rw (covers_high r.start r.count i (omega arith)) (listed-high (suc (end_of r)) rs n i h.1 g)

pub never : {A : Type 0} {b : Bool} → b ≡ true → b ≡ false → A
never e f = absurd (true≢false (sym e ∙ f))

listed_first : (low : ℕ) (r : Stretch) (rs : List Stretch) (n : ℕ) → Rising low (r ∷ rs) n → listed (r ∷ rs) r.start ≡ true
unfolding listed
listed_first low r rs n h =
    let f : InPlace low r n = h.0 in
    rw (covers-mid r.start r.count r.start (omega arith) (omega arith))

listed-end : (low : ℕ) (r : Stretch) (rs : List Stretch) (n : ℕ) → Rising low (r ∷ rs) n → listed (r ∷ rs) (end_of r) ≡ false
unfolding listed
listed-end low r rs n h = rw (covers_high r.start r.count (end_of r) (omega arith)) (listed-low (suc (end_of r)) rs n (end_of r) h.1 (omega arith))

-- the first row of one list starts no later, and ends no later, than that of the other
no_later : (low : ℕ) (r s : Stretch) (a b : List Stretch) (m n : ℕ) → Rising low (r ∷ a) m → Rising low (s ∷ b) n → ((i : ℕ) → listed (r ∷ a) i ≡ listed (s ∷ b) i) → s.start ≤ r.start
no_later low r s a b m n h g e = go (ltb r.start s.start) refl
  where
    go : (x : Bool) → ltb r.start s.start ≡ x → s.start ≤ r.start
    go true p =
        let f : InPlace low s n = g.0 in
        never (sym (e r.start) ∙ listed_first low r a m h) (listed-low s.start (s ∷ b) n r.start (record { from = omega arith; filled = omega arith; to = omega arith }, g.1) (ltb-true r.start s.start p))
    go false p = ltb-false r.start s.start p

no_longer : (low : ℕ) (r s : Stretch) (a b : List Stretch) (m n : ℕ) → Rising low (r ∷ a) m → Rising low (s ∷ b) n → ((i : ℕ) → listed (r ∷ a) i ≡ listed (s ∷ b) i) → s.start ≡ r.start → end_of s ≤ end_of r
unfolding listed
no_longer low r s a b m n h g e k = go (ltb (end_of r) (end_of s)) refl
  where
    go : (x : Bool) → ltb (end_of r) (end_of s) ≡ x → end_of s ≤ end_of r
    go true p =
        let q : end_of r < end_of s = ltb-true (end_of r) (end_of s) p in
        let c : listed (s ∷ b) (end_of r) ≡ true = rw (covers-mid s.start s.count (end_of r) (omega arith) q) in
        never c (sym (e (end_of r)) ∙ listed-end low r a m h)
    go false p = ltb-false (end_of r) (end_of s) p

pub same_stretches : (low : ℕ) (a b : List Stretch) (m n : ℕ) → Rising low a m → Rising low b n → ((i : ℕ) → listed a i ≡ listed b i) → a ≡ b
unfolding listed
same_stretches low [] [] m n h g e = refl
same_stretches low [] (s ∷ b) m n h g e = never (listed_first low s b n g) (sym (e s.start))
same_stretches low (r ∷ a) [] m n h g e = never (listed_first low r a m h) (e r.start)
same_stretches low (r ∷ a) (s ∷ b) m n h g e =
    let p : s.start ≤ r.start = no_later low r s a b m n h g e in
    let q : r.start ≤ s.start = no_later low s r b a n m g h (λ i. sym (e i)) in
    let st : r.start ≡ s.start = omega arith in
    let x : end_of s ≤ end_of r = no_longer low r s a b m n h g e (sym st) in
    let y : end_of r ≤ end_of s = no_longer low s r b a n m g h (λ i. sym (e i)) st in
    let ct : r.count ≡ s.count = omega arith in
    let en : end_of r ≡ end_of s = omega arith in
    ap₂ (λ (v : Stretch) (l : List Stretch). v ∷ l) (ap₂ stretch st ct)
    (same_stretches (suc (end_of r)) a b m n h.1 (loosen (suc (end_of r)) (suc (end_of s)) b n n (omega arith) (omega arith) g.1) (rest en))
  where
    rest : end_of r ≡ end_of s → (i : ℕ) → listed a i ≡ listed b i
    rest en i = go (ltb (end_of r) i) refl
      where
        go : (z : Bool) → ltb (end_of r) i ≡ z → listed a i ≡ listed b i
        go true w =
            let k : end_of r < i = ltb-true (end_of r) i w in
            rw (covers_high r.start r.count i (omega arith), covers_high s.start s.count i (omega arith)) at (e i)
        go false w =
            let k : i ≤ end_of r = ltb-false (end_of r) i w in
            listed-low (suc (end_of r)) a m i h.1 (omega arith) ∙ sym (listed-low (suc (end_of s)) b n i g.1 (omega arith))
