-- Lease requests keep the places in order. Assumes nothing.
use mathlib.Core.Path.{◌≡◌, refl, sym, ap}
use mathlib.Core.Bool.{Bool, true, false, cond, not}
use mathlib.Core.List.{List, [], ◌∷◌, ◌++◌}
use mathlib.Core.Option.{Option, none, some}
use Prim.Native.Nat.{ℕ, zero, suc, ◌+◌, ◌-◌, ◌≤◌, ◌<◌, max}
use native.Mathlib.Omega.{arith}
use lib.ListN.{length, take, drop, get_or, set, length-append, length-take, length-drop}
use lib.Seq.{take_at, length-take-le, drop-set-lt, drop-set-add}
use lib.Dec.{ltb}
use borrow.Author.Tests.{ltb-true, ltb-false}
use Rattle.octets.specs.Numbers.{number_at, number, digits}
use Rattle.octets.proofs.NumberLaws.{length_digits}
use Rattle.format.specs.Layout.{owner_of, expiry_of, expiry_at, renewal_at, fixed_places, record_size}
use Rattle.format.specs.Container.{held, record_ok, last_held}
use Rattle.octets.specs.Lists.{maybe}
use Rattle.octets.specs.Facts.{Each}
use Rattle.rules.specs.Leasing.{vacant, first_of, later, with_last, trim, present}

-- ---- the first place that passes a test
pub record Found (test : List ℕ → Bool) (ls : List (List ℕ)) (i : ℕ) : Type 0 where
  pub inside : i < length ls
  pub passes : test (get_or ls i []) ≡ true

-- neither constructor is the other
pub none-some : {i : ℕ} → ◌≡◌ {A = Option ℕ} none (some i) → ⊥
none-some e = let z : ◌≡◌ {A = ℕ} 0 1 = cc in omega arith

found_step : (test : List ℕ → Bool) (r : List ℕ) (ls : List (List ℕ)) (i : ℕ)
    → ((j : ℕ) → first_of test ls ≡ some j → Found test ls j) →
    (t : Bool) → test r ≡ t → (o : Option ℕ) → first_of test ls ≡ o → cond t (some 0) (maybe none (λ i. some (suc i)) o)
    ≡ some i → Found test (r ∷ ls) i
unfolding maybe
found_step test r ls i ih true h o k e =
    let z : i ≡ 0 = cc in
    rw z (record { inside = omega arith; passes = h })
found_step test r ls i ih false h none k e = absurd (none-some e)
found_step test r ls i ih false h (some j) k e =
    let z : i ≡ suc j = cc in
    let f : Found test ls j = ih j k in
    rw z (record { inside = omega (arith, f.inside); passes = f.passes })

pub first_found : (test : List ℕ → Bool) (ls : List (List ℕ)) (i : ℕ) → first_of test ls ≡ some i → Found test ls i
unfolding first_of
first_found test [] i e = absurd (none-some e)
first_found test (r ∷ ls) i e = found_step test r ls i (λ j. first_found test ls j) (test r) refl
    (first_of test ls) refl e

-- where no place is vacant, every place holds a lease
pub full-present : (ls : List (List ℕ)) → first_of vacant ls ≡ none → present ls ≡ length ls
unfolding first_of vacant present maybe
full-present [] e = refl
full-present (r ∷ ls) e = go (held r) (first_of vacant ls) refl (full-present ls) e
  where
    go : (t : Bool) (o : Option ℕ) → first_of vacant ls ≡ o → (first_of vacant ls ≡ none → present ls ≡ length ls)
        → cond (not t) (some 0) (maybe none (λ i. some (suc i)) o) ≡ none →
        cond t 1 0 + present ls ≡ suc (length ls)
    go true none k ih e = let z = ih k in omega arith
    go true (some j) k ih e = absurd (none-some (sym e))
    go false o k ih e = absurd (none-some (sym e))

-- ---- the later expiry
pub length-later : (x : ℕ) (r : List ℕ) → length r ≡ record_size → length (later x r) ≡ record_size
unfolding later
length-later x r h = simp (length-append, length_digits, length-take, length-drop) (omega arith)

pub owner_later : (x : ℕ) (r : List ℕ) → length r ≡ record_size → owner_of (later x r) ≡ owner_of r
unfolding later owner_of number_at
owner_later x r h = ap number (take_at (take expiry_at r) (digits 4 (max (expiry_of r) x)
    ++ drop renewal_at r) expiry_at (length-take-le expiry_at r (omega arith)))

pub held-later : (x : ℕ) (r : List ℕ) → length r ≡ record_size → held (later x r) ≡ held r
unfolding held
held-later x r h = rw (owner_later x r h)

pub held_ok : (r : List ℕ) → held r ≡ true → record_ok r ≡ true
unfolding record_ok
held_ok r h = rw h

-- ---- the last extra
pub last_set : (ls : List (List ℕ)) (i : ℕ) (r : List ℕ) → held r ≡ true → last_held ls ≡ true → last_held (set ls i r)
    ≡ true
unfolding last_held
last_set [] i r h k = k
last_set (x ∷ []) zero r h k = h
last_set (x ∷ []) (suc i) r h k = k
last_set (x ∷ (y ∷ ls)) zero r h k = k
last_set (x ∷ (y ∷ ls)) (suc zero) r h k = last_set (y ∷ ls) zero r h k
last_set (x ∷ (y ∷ ls)) (suc (suc i)) r h k = last_set (y ∷ ls) (suc i) r h k

pub last_drop_set : (ls : List (List ℕ)) (i : ℕ) (r : List ℕ) → held r ≡ true → last_held (drop fixed_places ls) ≡ true
    → last_held (drop fixed_places (set ls i r)) ≡ true
last_drop_set ls i r h k = go (ltb i fixed_places) refl
  where
    go : (t : Bool) → ltb i fixed_places ≡ t → last_held (drop fixed_places (set ls i r)) ≡ true
    go true e = rw (drop-set-lt fixed_places ls i r (ltb-true i fixed_places e)) k
    go false e =
        let g : fixed_places ≤ i = ltb-false i fixed_places e in
        let z : i ≡ fixed_places + (i - fixed_places) = omega arith in
        rw (z, drop-set-add fixed_places ls (i - fixed_places) r) (last_set (drop fixed_places ls) (i - fixed_places) r h k)

pub last_snoc : (ls : List (List ℕ)) (r : List ℕ) → last_held (ls ++ (r ∷ [])) ≡ held r
unfolding last_held
last_snoc [] r = refl
last_snoc (x ∷ []) r = refl
last_snoc (x ∷ (y ∷ ls)) r = last_snoc (y ∷ ls) r

last_with : (r : List ℕ) (ls : List (List ℕ)) → last_held ls ≡ true → last_held (with_last r ls) ≡ true
unfolding with_last last_held
last_with r [] h = go (held r) refl
  where
    go : (t : Bool) → held r ≡ t → last_held (cond t (r ∷ []) []) ≡ true
    go true e = e
    go false e = refl
last_with r (s ∷ ls) h = h

pub last_trim : (ls : List (List ℕ)) → last_held (trim ls) ≡ true
unfolding trim last_held
last_trim [] = refl
last_trim (r ∷ ls) = last_with r (trim ls) (last_trim ls)

each_with : (P : List ℕ → Type 0) (r : List ℕ) (ls : List (List ℕ)) → P r → Each P ls → Each P (with_last r ls)
unfolding with_last
each_with P r [] h k = go (held r)
  where
    go : (t : Bool) → Each P (cond t (r ∷ []) [])
    go true = (h, tt)
    go false = tt
each_with P r (s ∷ ls) h k = (h, k)

pub each_trim : (P : List ℕ → Type 0) (ls : List (List ℕ)) → Each P ls → Each P (trim ls)
unfolding trim
each_trim P [] h = tt
each_trim P (r ∷ ls) h = each_with P r (trim ls) h.0 (each_trim P ls h.1)

length_with : (r : List ℕ) (ls : List (List ℕ)) (n : ℕ) → length ls ≤ n → length (with_last r ls) ≤ suc n
unfolding with_last
length_with r [] n h = go (held r)
  where
    go : (t : Bool) → length (cond t (r ∷ []) []) ≤ suc n
    go true = omega arith
    go false = omega arith
length_with r (s ∷ ls) n h = omega arith

pub length-trim : (ls : List (List ℕ)) → length (trim ls) ≤ length ls
unfolding trim
length-trim [] = omega arith
length-trim (r ∷ ls) = length_with r (trim ls) (length ls) (length-trim ls)
