-- The leases that a sweep leaves, place by place and in their order. Assumes nothing.
use mathlib.Core.Path.{◌≡◌, refl, sym, ap, ◌∙◌}
use mathlib.Core.Bool.{Bool, true, false, cond, ◌&&◌, false≢true}
use mathlib.Core.List.{List, [], ◌∷◌, ◌++◌, map}
use Prim.Native.Nat.{ℕ, zero, suc, ◌+◌, ◌-◌, ◌≤◌, ◌<◌}
use native.Mathlib.Omega.{arith}
use lib.Dec.{leb, ltb}
use lib.ListN.{length, take, drop, get_or, take-append-drop, get_or-append}
use lib.Seq.{length-take-le, get_or-append-add, get_or-take, get_or-drop}
use borrow.Author.Tests.{ltb-true, ltb-false, le-leb, lt-leb, leb-true}
use Rattle.octets.specs.Facts.{Each}
use Rattle.octets.specs.Lists.{only}
use Rattle.octets.proofs.ListLaws.{each_append, each_take, each_drop}
use Rattle.format.specs.Layout.{fixed_places, expiry_of}
use Rattle.format.specs.Container.{held, last_held}
use Rattle.format.specs.Parts.{no_lease}
use Rattle.format.specs.Claims.{Place}
use Rattle.format.proofs.RoundTrip.{no_lease-held, empty_is}
use Rattle.rules.specs.Leasing.{with_last, trim, drop_tail}
use Rattle.rules.proofs.LeaseLaws.{each_trim}
use Rattle.upkeep_rules.specs.Sweeping.{expired, swept_place}

-- ---- one place after a sweep
-- the lease in it, if it has one, is not below the time
abbrev pub lasts : ℕ → List ℕ → Bool
lasts time r = held r && leb time (expiry_of r)

pub swept-held : (time : ℕ) (r : List ℕ) → held (swept_place time r) ≡ lasts time r
unfolding swept_place expired
swept-held time r = go (held r) (ltb (expiry_of r) time) refl refl
  where
    go : (a b : Bool) → held r ≡ a → ltb (expiry_of r) time ≡ b →
        held (cond (a && b) no_lease r) ≡ (a && leb time (expiry_of r))
    go true true h e = rw (lt-leb time (expiry_of r) (ltb-true (expiry_of r) time e)) no_lease-held
    go true false h e = rw (le-leb time (expiry_of r) (ltb-false (expiry_of r) time e)) h
    go false b h e = h

swept_lasting : (time : ℕ) (r : List ℕ) → lasts time r ≡ true → swept_place time r ≡ r
unfolding swept_place expired
swept_lasting time r = go (held r) (ltb (expiry_of r) time) refl
  where
    go : (a b : Bool) → ltb (expiry_of r) time ≡ b → (a && leb time (expiry_of r)) ≡ true → cond (a && b) no_lease r ≡ r
    go true true e l =
        absurd (false≢true (sym (lt-leb time (expiry_of r) (ltb-true (expiry_of r) time e)) ∙ l))
    go true false e l = refl
    go false b e l = refl

pub swept-above : (time : ℕ) (r : List ℕ) → held (swept_place time r) ≡ true → time ≤ expiry_of (swept_place time r)
swept-above time r h =
    let l : lasts time r ≡ true = sym (swept-held time r) ∙ h in
    rw (swept_lasting time r l) (go (held r) l)
  where
    go : (a : Bool) → (a && leb time (expiry_of r)) ≡ true → time ≤ expiry_of r
    go true e = leb-true time (expiry_of r) e
    go false e = absurd (false≢true e)

pub swept-empty : (time : ℕ) → swept_place time no_lease ≡ no_lease
unfolding swept_place expired
swept-empty time = rw no_lease-held

-- ---- the dropped tail
only-append : {A : Type 0} (test : A → Bool) (a b : List A) → only test (a ++ b) ≡ only test a ++ only test b
unfolding only
only-append test [] b = refl
only-append test (x ∷ a) b = rw (only-append test a b) (go (test x))
  where
    go : (t : Bool) → cond t (x ∷ (only test a ++ only test b)) (only test a ++ only test b)
        ≡ cond t (x ∷ only test a) (only test a) ++ only test b
    go true = refl
    go false = refl

only-trim : (ls : List (List ℕ)) → only held (trim ls) ≡ only held ls
unfolding only trim with_last
only-trim [] = refl
only-trim (r ∷ ls) = go (trim ls) (held r) refl (only-trim ls)
  where
    go : (t : List (List ℕ)) (b : Bool) → held r ≡ b → only held t ≡ only held ls →
        only held (with_last r t) ≡ cond (held r) (r ∷ only held ls) (only held ls)
    go [] true h e = rw (h, ← e, h)
    go [] false h e = rw (h, ← e)
    go (y ∷ t) b h e = rw (← e)

pub only-drop_tail : (ls : List (List ℕ)) → only held (drop_tail ls) ≡ only held ls
unfolding drop_tail
only-drop_tail ls =
    only-append held (take fixed_places ls) (trim (drop fixed_places ls))
    ∙ ap (λ (l : List (List ℕ)). only held (take fixed_places ls) ++ l) (only-trim (drop fixed_places ls))
    ∙ sym (only-append held (take fixed_places ls) (drop fixed_places ls))
    ∙ ap (only held) (take-append-drop fixed_places ls)

at_trim : (ls : List (List ℕ)) (i : ℕ) → Each Place ls → get_or (trim ls) i no_lease ≡ get_or ls i no_lease
unfolding trim with_last
at_trim [] i e = refl
at_trim (r ∷ ls) i e = go (trim ls) (held r) i refl (λ j. at_trim ls j e.1)
  where
    go : (t : List (List ℕ)) (b : Bool) (i : ℕ) → held r ≡ b →
        ((j : ℕ) → get_or t j no_lease ≡ get_or ls j no_lease) →
        get_or (with_last r t) i no_lease ≡ get_or (r ∷ ls) i no_lease
    go [] true zero h f = rw h
    go [] true (suc i) h f = rw h (f i)
    go [] false zero h f = rw h (sym (empty_is r e.0 h))
    go [] false (suc i) h f = rw h (f i)
    go (y ∷ t) b zero h f = refl
    go (y ∷ t) b (suc i) h f = f i

pub at_drop_tail : (ls : List (List ℕ)) (i : ℕ) → fixed_places ≤ length ls → Each Place ls →
    get_or (drop_tail ls) i no_lease ≡ get_or ls i no_lease
unfolding drop_tail
at_drop_tail ls i l e = go (ltb i fixed_places) refl
  where
    a : List (List ℕ)
    a = take fixed_places ls

    b : List (List ℕ)
    b = trim (drop fixed_places ls)

    four : length a ≡ fixed_places
    four = length-take-le fixed_places ls l

    go : (t : Bool) → ltb i fixed_places ≡ t → get_or (a ++ b) i no_lease ≡ get_or ls i no_lease
    go true q =
        let h : i < fixed_places = ltb-true i fixed_places q in
        get_or-append a b no_lease i (omega (arith, four, h)) ∙ get_or-take fixed_places ls i no_lease h
    go false q =
        let h : fixed_places ≤ i = ltb-false i fixed_places q in
        let j : ℕ = i - fixed_places in
        let z : i ≡ length a + j = omega (arith, four, h) in
        let y : fixed_places + j ≡ i = omega (arith, h) in
        ap (λ (k : ℕ). get_or (a ++ b) k no_lease) z ∙ get_or-append-add a b j no_lease
        ∙ at_trim (drop fixed_places ls) j (each_drop Place fixed_places ls e)
        ∙ get_or-drop fixed_places ls j no_lease ∙ ap (λ (k : ℕ). get_or ls k no_lease) y

pub each_drop_tail : (P : List ℕ → Type 0) (ls : List (List ℕ)) → Each P ls → Each P (drop_tail ls)
unfolding drop_tail
each_drop_tail P ls e =
    each_append P (take fixed_places ls) (trim (drop fixed_places ls)) (each_take P fixed_places ls e)
    (each_trim P (drop fixed_places ls) (each_drop P fixed_places ls e))

-- where the last place holds a lease nothing is dropped
trim-held : (ls : List (List ℕ)) → last_held ls ≡ true → trim ls ≡ ls
unfolding trim with_last last_held
trim-held [] h = refl
trim-held (r ∷ []) h = rw h
trim-held (r ∷ (s ∷ ls)) h = ap (with_last r) (trim-held (s ∷ ls) h)

pub drop_tail-held : (ls : List (List ℕ)) → last_held (drop fixed_places ls) ≡ true → drop_tail ls ≡ ls
unfolding drop_tail
drop_tail-held ls h =
    ap (λ (l : List (List ℕ)). take fixed_places ls ++ l) (trim-held (drop fixed_places ls) h)
    ∙ take-append-drop fixed_places ls

-- ---- all places after a sweep
pub only-swept : (time : ℕ) (ls : List (List ℕ)) →
    only held (map (swept_place time) ls) ≡ only (λ r. held r && leb time (expiry_of r)) ls
unfolding only
only-swept time [] = refl
only-swept time (r ∷ ls) = go (lasts time r) refl (only-swept time ls)
  where
    go : (b : Bool) → lasts time r ≡ b →
        only held (map (swept_place time) ls) ≡ only (λ r. held r && leb time (expiry_of r)) ls →
        cond (held (swept_place time r)) (swept_place time r ∷ only held (map (swept_place time) ls))
        (only held (map (swept_place time) ls))
        ≡ cond (lasts time r) (r ∷ only (λ r. held r && leb time (expiry_of r)) ls)
        (only (λ r. held r && leb time (expiry_of r)) ls)
    go true e i = rw (swept-held time r, e, swept_lasting time r e, i)
    go false e i = rw (swept-held time r, e, i)

pub at_swept : (time : ℕ) (ls : List (List ℕ)) (i : ℕ) →
    get_or (map (swept_place time) ls) i no_lease ≡ swept_place time (get_or ls i no_lease)
at_swept time [] i = sym (swept-empty time)
at_swept time (r ∷ ls) zero = refl
at_swept time (r ∷ ls) (suc i) = at_swept time ls i

pub each_above : (time : ℕ) (ls : List (List ℕ)) →
    Each (λ r. held r ≡ true → time ≤ expiry_of r) (map (swept_place time) ls)
each_above time [] = tt
each_above time (r ∷ ls) = (swept-above time r, each_above time ls)

pub none-swept : (time : ℕ) (ls : List (List ℕ)) → Each (λ r. expired time r ≡ false) ls →
    map (swept_place time) ls ≡ ls
unfolding swept_place
none-swept time [] e = refl
none-swept time (r ∷ ls) e = rw e.0 (ap (λ (l : List (List ℕ)). r ∷ l) (none-swept time ls e.1))
