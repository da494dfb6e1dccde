-- What the checker answers, and that the parts it tells lie inside the caller's slice. Assumes nothing.
use mathlib.Core.Path.{◌≡◌, refl, sym, ◌∙◌}
use mathlib.Core.Bool.{Bool, true, false, cond}
use mathlib.Core.List.{List, [], ◌∷◌, map}
use Prim.Native.Nat.{ℕ, zero, suc, ◌+◌, ◌-◌, ◌≤◌, ◌<◌}
use native.Mathlib.Nat.{not-suc-le-zero, zero-add}
use native.Mathlib.Omega.{arith}
use lib.Dec.{eqb, leb}
use lib.ListN.{length, take, drop, get_or, get_or-replicate}
use borrow.Author.Tests.{eqb-true, eqb-false, eq-eqb, ne_eqb, leb-true, leb-false}
use Rattle.container.specs.Data.{Lent, lent_of, data_lent}
use Rattle.container.proofs.DataLaws.{lends, lent-bytes, none_lent}
use Rattle.share_format.specs.Bounds.{part_of}
use Rattle.share_format.specs.Facts.{PartsInside}
use Rattle.share_format.specs.Header.{Edition, version_of, edition_of, numbers_from, offsets_of, bounds_of}
use Rattle.share_judging.specs.Judging.{share_outcome}
use Rattle.share_judging.proofs.JudgingLaws.{bounds_inside, outcome-ordered}
use Rattle.shares.specs.Share.{checked_of, checked_container, refused, bounds_at, checked_at}
use Rattle.shares.specs.declared.share.Checked.{Checked}

-- ---- the answer
pub checked_refused : (base n : ℕ) (s : List ℕ) → n ≡ share_outcome s → (n ≡ 0 → ⊥)
    → refused (edition_of s) n ≡ checked_at base s
unfolding checked_at
checked_refused base n s e h = rw (← e, ne_eqb _ _ h)

pub checked_zero : (base v : ℕ) (s bs : List ℕ) → share_outcome s ≡ 0 → v ≡ version_of (edition_of s)
    → bs ≡ bounds_at base s
    → ◌≡◌ {A = Checked} (record { number = 0; edition = v; bounds = bs }) (checked_at base s)
unfolding checked_at
checked_zero base v s bs e k b = rw (e, k, b)

module _ (base : ℕ) (s : List ℕ) where
  abbrev answer : Bool → Checked
  answer t =
      cond t (record { number = 0; edition = version_of (edition_of s); bounds = bounds_at base s })
      (refused (edition_of s) (share_outcome s))

  pub checked_number : (checked_at base s).number ≡ share_outcome s
  unfolding checked_at
  checked_number = go (eqb (share_outcome s) 0) refl
    where
      go : (t : Bool) → eqb (share_outcome s) 0 ≡ t → (answer t).number ≡ share_outcome s
      go true e = sym (eqb-true _ _ e)
      go false e = refl

  pub checked_edition : (checked_at base s).edition ≡ version_of (edition_of s)
  unfolding checked_at
  checked_edition = go (eqb (share_outcome s) 0)
    where
      go : (t : Bool) → (answer t).edition ≡ version_of (edition_of s)
      go true = refl
      go false = refl

  bounds_zero : share_outcome s ≡ 0 → (checked_at base s).bounds ≡ bounds_at base s
  unfolding checked_at
  bounds_zero e = rw e

-- A share by itself begins at byte 0.
zero-moved : (l : List ℕ) → map (λ b. 0 + b) l ≡ l
zero-moved [] = refl
zero-moved (x ∷ l) = rw (zero-add x, zero-moved l)

pub checked_bounds : (s : List ℕ) → share_outcome s ≡ 0 → (checked_of s).bounds ≡ bounds_of (edition_of s) s
unfolding checked_of bounds_at
checked_bounds s e = bounds_zero 0 s e ∙ zero-moved (bounds_of (edition_of s) s)

pub container_refused : (c : List ℕ) → ((lent_of c).number ≡ 0 → ⊥)
    → checked_container c ≡ refused false (lent_of c).number
unfolding checked_container
container_refused c h = rw (ne_eqb _ _ h)

pub container_zero : (c : List ℕ) → (lent_of c).number ≡ 0
    → checked_container c ≡ checked_at (lent_of c).from (data_lent c)
unfolding checked_container
container_zero c h = rw (eq-eqb _ _ h)

-- The same of what the code was lent.
pub lent-refused : (c : List ℕ) (l : Lent) → l ≡ lent_of c → (l.number ≡ 0 → ⊥)
    → refused false l.number ≡ checked_container c
lent-refused c l e h = let k : (lent_of c).number ≡ 0 → ⊥ = rw e at h in rw e (sym (container_refused c k))

pub lent_checked : (c : List ℕ) (l : Lent) → l ≡ lent_of c → l.number ≡ 0
    → checked_at l.from (take (l.to - l.from) (drop l.from c)) ≡ checked_container c
lent_checked c l e h =
    let z : (lent_of c).number ≡ 0 = rw e at h in
    rw (lent-bytes c l e, e) (sym (container_zero c z))

-- A container that is refused lends no data, which names SDMF.
none_named : (c : List ℕ) → ((lent_of c).number ≡ 0 → ⊥) → edition_of (data_lent c) ≡ false
unfolding edition_of
none_named c h = rw (none_lent c h)

pub container_edition : (c : List ℕ) → (checked_container c).edition ≡ version_of (edition_of (data_lent c))
container_edition c = go (eqb (lent_of c).number 0) refl
  where
    go : (t : Bool) → eqb (lent_of c).number 0 ≡ t → (checked_container c).edition ≡ version_of (edition_of (data_lent c))
    go true e = rw (container_zero c (eqb-true _ _ e)) (checked_edition (lent_of c).from (data_lent c))
    go false e = rw (container_refused c (eqb-false _ _ e), none_named c (eqb-false _ _ e))

-- What the number says of the answer: no bounds, or the share's.
pub container_none : (c : List ℕ) → ((checked_container c).number ≡ 0 → ⊥)
    → checked_container c ≡ refused (edition_of (data_lent c)) (checked_container c).number
container_none c n = go (eqb (lent_of c).number 0) refl
  where
    go : (t : Bool) → eqb (lent_of c).number 0 ≡ t
        → checked_container c ≡ refused (edition_of (data_lent c)) (checked_container c).number
    go true e =
        let q = container_zero c (eqb-true _ _ e) in
        let k = checked_number (lent_of c).from (data_lent c) in
        rw q (sym (checked_refused (lent_of c).from _ (data_lent c) k (rw q at n)))
    go false e = rw (container_refused c (eqb-false _ _ e), none_named c (eqb-false _ _ e))

pub container_shares : (c : List ℕ) → (checked_container c).number ≡ 0
    → (share_outcome (data_lent c) ≡ 0) × ((checked_container c).bounds ≡ bounds_at (lent_of c).from (data_lent c))
container_shares c z = go (eqb (lent_of c).number 0) refl
  where
    go : (t : Bool) → eqb (lent_of c).number 0 ≡ t
        → (share_outcome (data_lent c) ≡ 0) × ((checked_container c).bounds ≡ bounds_at (lent_of c).from (data_lent c))
    go true e =
        let q = container_zero c (eqb-true _ _ e) in
        let o = sym (checked_number (lent_of c).from (data_lent c)) ∙ (rw q at z) in
        (o, rw q (bounds_zero (lent_of c).from (data_lent c) o))
    go false e = absurd (eqb-false _ _ e (rw (container_refused c (eqb-false _ _ e)) at z))

-- ---- the parts
none_inside : (e : Edition) (m n : ℕ) → PartsInside (refused e m).bounds n
none_inside e m n i h =
    let a = get_or-replicate {A = ℕ} 8 i 0 0 (omega arith) in
    let b = get_or-replicate {A = ℕ} 8 (i + 1) 0 0 (omega arith) in
    record { rises = rw (a, b) (omega arith); fits = rw b (omega arith) }

pub none-empty : (e : Edition) (m i : ℕ) (s : List ℕ) → i < 7
    → (part_of i (refused e m).bounds s ≡ []) × (get_or (refused e m).bounds i 0 ≡ 0)
unfolding part_of
none-empty e m i s h =
    let a = get_or-replicate {A = ℕ} 8 i 0 0 (omega arith) in
    let b = get_or-replicate {A = ℕ} 8 (suc i) 0 0 (omega arith) in
    (rw (a, b), a)

get_d_moved : (a : ℕ) (l : List ℕ) (i : ℕ) → i < length l → get_or (map (λ b. a + b) l) i 0 ≡ a + get_or l i 0
get_d_moved a [] i h = absurd (not-suc-le-zero h)
get_d_moved a (x ∷ l) zero h = refl
get_d_moved a (x ∷ l) (suc i) h = get_d_moved a l i (omega arith)

eight : (e : Edition) (s : List ℕ) → length (bounds_of e s) ≡ 8
unfolding bounds_of offsets_of numbers_from
eight false s = refl
eight true s = refl

pub bounds_moved : (base : ℕ) (s : List ℕ) (i : ℕ) → i < 8
    → get_or (bounds_at base s) i 0 ≡ base + get_or (bounds_of (edition_of s) s) i 0
unfolding bounds_at
bounds_moved base s i h =
    get_d_moved base (bounds_of (edition_of s) s) i (omega (arith, eight (edition_of s) s))

moved_inside : (base : ℕ) (s : List ℕ) → PartsInside (bounds_of (edition_of s) s) (length s)
    → PartsInside (bounds_at base s) (base + length s)
moved_inside base s p i h =
    let a = bounds_moved base s i (omega arith) in
    let b = bounds_moved base s (i + 1) (omega arith) in
    let q = p i h in
    record { rises = omega (arith, a, b, q.rises); fits = omega (arith, b, q.fits) }

pub accepted-inside : (s : List ℕ) → share_outcome s ≡ 0 → PartsInside (bounds_of (edition_of s) s) (length s)
accepted-inside s z = bounds_inside (edition_of s) s (outcome-ordered s z).1

checked_inside : (base : ℕ) (s : List ℕ) → PartsInside (checked_at base s).bounds (base + length s)
unfolding checked_at
checked_inside base s = go (eqb (share_outcome s) 0) refl
  where
    go : (t : Bool) → eqb (share_outcome s) 0 ≡ t → PartsInside (answer base s t).bounds (base + length s)
    go true e = moved_inside base s (accepted-inside s (eqb-true _ _ e))
    go false e = none_inside (edition_of s) (share_outcome s) (base + length s)

within : (bs : List ℕ) (m n : ℕ) → m ≤ n → PartsInside bs m → PartsInside bs n
within bs m n h p i k = let q = p i k in record { rises = q.rises; fits = omega (arith, q.fits) }

pub share_inside : (s : List ℕ) → PartsInside (checked_of s).bounds (length s)
unfolding checked_of
share_inside s = within _ (0 + length s) (length s) (omega arith) (checked_inside 0 s)

pub container_inside : (c : List ℕ) → PartsInside (checked_container c).bounds (length c)
container_inside c = go (eqb (lent_of c).number 0) refl
  where
    go : (t : Bool) → eqb (lent_of c).number 0 ≡ t → PartsInside (checked_container c).bounds (length c)
    go true e =
        let l = lends c in
        rw (container_zero c (eqb-true _ _ e))
        (within _ _ _ (omega arith) (checked_inside (lent_of c).from (data_lent c)))
    go false e = rw (container_refused c (eqb-false _ _ e)) (none_inside false (lent_of c).number (length c))

-- Which part it is, by the edition's number.
pub named : (e : Edition) (v : ℕ) → v ≡ version_of e → eqb v 1 ≡ e
named false v h = rw h
named true v h = rw h

-- ---- the boundaries, moved
pub bound_below : (bs : List ℕ) (n : ℕ) → PartsInside bs n → (i : ℕ) → i < 8 → get_or bs i 0 ≤ n
bound_below bs n p i h = go (leb i 6) refl
  where
    go : (t : Bool) → leb i 6 ≡ t → get_or bs i 0 ≤ n
    go true e = let q = p i (omega (arith, leb-true i 6 e)) in omega (arith, q.rises, q.fits)
    go false e =
        let k : i ≡ 7 = omega (arith, leb-false i 6 e) in
        rw k (p 6 (omega arith)).fits

pub moved_listed : (e : Edition) (base : ℕ) (s : List ℕ)
    → ((base + get_or (bounds_of e s) 0 0)
    ∷ (base + get_or (bounds_of e s) 1 0)
    ∷ (base + get_or (bounds_of e s) 2 0)
    ∷ (base + get_or (bounds_of e s) 3 0)
    ∷ (base + get_or (bounds_of e s) 4 0)
    ∷ (base + get_or (bounds_of e s) 5 0)
    ∷ (base + get_or (bounds_of e s) 6 0)
    ∷ (base + get_or (bounds_of e s) 7 0) ∷ [])
    ≡ map (λ b. base + b) (bounds_of e s)
unfolding bounds_of offsets_of numbers_from
moved_listed false base s = refl
moved_listed true base s = refl

pub checked_named : (s : List ℕ) → (checked_of s).edition ≡ version_of (edition_of s)
unfolding checked_of
checked_named s = checked_edition 0 s
