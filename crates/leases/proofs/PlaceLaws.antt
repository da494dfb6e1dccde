-- Reading the lease places: where they stand, the first that passes a test, how many hold a lease, what is left without
-- the empty tail. Assumes nothing.
use mathlib.Core.Path.{◌≡◌, refl, sym, ap, ◌∙◌}
use mathlib.Core.Bool.{Bool, true, false, cond}
use mathlib.Core.List.{List, [], ◌∷◌, ◌++◌}
use mathlib.Core.Option.{none, some}
use mathlib.Core.Option.{Option as Maybe}
use Rattle.std.specs.Prelude.{Option, Some, None}
use Rattle.std.specs.List.{find, range_with_len}
use Rattle.std.specs.Option.{option_map}
use Prim.Native.Nat.{ℕ, zero, suc, ◌+◌, ◌-◌, ◌*◌, ◌≤◌, ◌<◌}
use native.Mathlib.Nat.{zero-add, add_assoc}
use native.Mathlib.Omega.{arith}
use lib.Dec.{ltb}
use lib.ListN.{length, take, drop, get_or, get_or-append}
use lib.Seq.{get_or-append-add}
use borrow.Author.Tests.{ltb-true, ltb-false, lt-ltb, le-ltb}
use Rattle.format.specs.declared.layout.Frame.{Frame}
use Rattle.format.specs.Layout.{limit, leases_at, count_at, extras_of, records, leases_of, fixed_places}
use Rattle.format.specs.View.{place_at}
use Rattle.format.specs.Layout.{record_size, extras_at, expiry_at, expiry_of}
use Rattle.octets.specs.Numbers.{number, number_at}
use Rattle.octets.proofs.ListLaws.{part_part}
use Rattle.format.specs.Container.{held}
use Rattle.format.proofs.WellFormed.{length-records, length_leases, records-add, record_at_lem}
use Rattle.rules.specs.Leasing.{first_of, with_last, trim, present}
use Rattle.rules.proofs.LeaseLaws.{length-trim}
use Rattle.format.specs.Judging.{Known}
use Rattle.octets.specs.Lists.{maybe}
use Rattle.leases.specs.Places.{found_of}
use Rattle.format.proofs.JudgingLaws.{Sized, known_sized, known_most}
use Rattle.format.proofs.KnownLaws.{frame_count, frame_extras}

-- ---- a known container in numbers
pub known_bounds : (c : List ℕ) (f : Frame) → Known c f → Sized c f × (length c ≤ limit)
known_bounds c f k = (known_sized c f k, known_most c f k)

pub known_places : (c : List ℕ) (f : Frame) → Known c f → length (leases_of c) ≡ fixed_places + f.extras
known_places c f k = rw (frame_extras k) (length_leases c)

-- ---- one place
pub fixed_at : (o i : ℕ) → i < fixed_places → place_at o i ≡ leases_at + record_size * i
unfolding place_at
fixed_at o i h = rw (lt-ltb i fixed_places h)

pub extra_at : (o i : ℕ) → fixed_places ≤ i → place_at o i ≡ extras_at o + record_size * (i - fixed_places)
unfolding place_at
extra_at o i h = rw (le-ltb i fixed_places h)

-- by whether a place is one of the four
pub by_place : {A : Type 0} (i : ℕ) → (i < fixed_places → A) → (fixed_places ≤ i → A) → A
by_place {A} i a b = go (ltb i fixed_places) refl
  where
    go : (t : Bool) → ltb i fixed_places ≡ t → A
    go true q = a (ltb-true i fixed_places q)
    go false q = b (ltb-false i fixed_places q)

module _ (c : List ℕ) (f : Frame) (k : Known c f) (i : ℕ) (h : i < fixed_places + f.extras) where
  pub place_inside : place_at f.offset i + record_size ≤ length c
  place_inside =
      let z = known_sized c f k in
      by_place i (λ g. rw (fixed_at f.offset i g) (omega arith))
      (λ g. rw (extra_at f.offset i g) (omega arith))

  pub lease_at : get_or (leases_of c) i [] ≡ take record_size (drop (place_at f.offset i) c)
  unfolding leases_of
  lease_at = by_place i
      (λ g. rw (fixed_at f.offset i g)
      (get_or-append a b [] i (rw (length-records fixed_places leases_at c) g) ∙ record_at_lem fixed_places leases_at i c g))
      (λ g. rw (extra_at f.offset i g, frame_count k)
      (let z : i ≡ length a + (i - fixed_places) = rw (length-records fixed_places leases_at c) (omega arith) in
      ap (λ (j : ℕ). get_or (a ++ b) j []) z ∙ get_or-append-add a b (i - fixed_places) []
      ∙ record_at_lem (extras_of c) (extras_at (count_at c)) (i - fixed_places) c (omega (arith, frame_extras k))))
    where
      a : List (List ℕ)
      a = records fixed_places leases_at c

      b : List (List ℕ)
      b = records (extras_of c) (extras_at (count_at c)) c

-- the expiry of the place at p
pub expiry_at_lem : (p : ℕ) (c : List ℕ) → number_at 4 (p + expiry_at) c ≡ expiry_of (take record_size (drop p c))
unfolding expiry_of number_at
expiry_at_lem p c = ap number (sym (part_part p record_size expiry_at 4 c (omega arith)))

-- the place at p, with the sizes
pub record Inside (c : List ℕ) (f : Frame) (p : ℕ) : Type 0 where
  pub ends : p + record_size ≤ length c
  pub sized : Sized c f
  pub most : length c ≤ limit

pub inside : (c : List ℕ) (f : Frame) → Known c f → (i : ℕ) → i < fixed_places + f.extras →
    (p : ℕ) → p ≡ place_at f.offset i → Inside c f p
inside c f k i h p q =
    record { ends = rw q (place_inside c f k i h); sized = known_sized c f k; most = known_most c f k }

-- ---- the first place that passes a test
-- a place, counted from another
found_from : ℕ → Maybe ℕ → Option ℕ
found_from a none = None
found_from a (some i) = Some (a + i)

found-start : (o : Maybe ℕ) → found_from 0 o ≡ found_of o
unfolding found_from
found-start none = refl
found-start (some i) = ap Some (zero-add i)

found_next : (a : ℕ) (o : Maybe ℕ) → found_from (a + 1) o ≡ found_from a (maybe none (λ i. some (suc i)) o)
unfolding found_from maybe
found_next a none = refl
found_next a (some i) = ap Some (omega arith)

module _ (test : List ℕ → Bool) where
  finds_from : (at : ℕ → Bool) (a : ℕ) (ls : List (List ℕ)) →
      ((i : ℕ) → i < length ls → at (a + i) ≡ test (get_or ls i [])) →
      find at (range_with_len a (length ls)) ≡ found_from a (first_of test ls)
  unfolding first_of found_from
  finds_from at a [] h = refl
  finds_from at a (r ∷ ls) h =
      let e : at a ≡ test r = ap at (omega arith) ∙ h 0 (omega arith) in
      let t : find at (range_with_len (a + 1) (length ls)) ≡ found_from a (maybe none (λ i. some (suc i)) (first_of test ls)) =
      finds_from at (a + 1) ls (λ i l. ap at (omega arith) ∙ h (suc i) (omega arith)) ∙ found_next a (first_of test ls) in
      rw (e, t) (go (test r) a (maybe none (λ i. some (suc i)) (first_of test ls)))
    where
      go : (b : Bool) (a : ℕ) (o : Maybe ℕ) → cond b (Some a) (found_from a o) ≡ found_from a (cond b (some 0) o)
      go true a o = ap Some (omega arith)
      go false a o = refl

  -- what a search through the numbers of the places finds
  pub finds : (ls : List (List ℕ)) (r : Option ℕ) →
      option_map (λ x. x) r ≡ find (λ i. test (get_or ls i [])) (range_with_len 0 (length ls)) →
      r ≡ found_of (first_of test ls)
  finds ls r e =
      same r ∙ e ∙ finds_from (λ i. test (get_or ls i [])) 0 ls (λ i l. rw (zero-add i)) ∙ found-start (first_of test ls)
    where
      same : (o : Option ℕ) → o ≡ option_map (λ x. x) o
      same None = refl
      same (Some x) = refl

-- ---- how many hold a lease
pub present-append : (a b : List (List ℕ)) → present (a ++ b) ≡ present a + present b
unfolding present
present-append [] b = sym (zero-add (present b))
present-append (r ∷ a) b = rw (present-append a b) (sym (add_assoc (cond (held r) 1 0) (present a) (present b)))

pub present_more : (n p : ℕ) (c : List ℕ) (t : Bool) → 0 < n → held (take record_size (drop p c)) ≡ t →
    present (records n p c) ≡ cond t 1 0 + present (records (n - 1) (p + record_size) c)
unfolding present records
present_more zero p c t h e = absurd (omega arith)
present_more (suc n) p c t h e =
    let k : suc n - 1 ≡ n = omega arith in
    rw (e, k)

pub present-none : (n p : ℕ) (c : List ℕ) → n ≤ 0 → present (records n p c) ≡ 0
unfolding present records
present-none zero p c h = refl
present-none (suc n) p c h = absurd (omega arith)

-- All n places, as those from place 0 on.
pub present_first : (n p : ℕ) (c : List ℕ)
    → present (records n p c) ≡ 0 + present (records (n - 0) (p + record_size * 0) c)
present_first n p c =
    let k : n - 0 ≡ n = omega arith in
    let m : p + record_size * 0 ≡ p = omega arith in
    rw (k, m) (sym (zero-add (present (records n p c))))

-- Place i of n, and those behind it.
pub present_next : (n i p : ℕ) (c : List ℕ) (t : Bool) → i < n
    → held (take record_size (drop (p + record_size * i) c)) ≡ t
    → present (records (n - i) (p + record_size * i) c)
    ≡ cond t 1 0 + present (records (n - (i + 1)) (p + record_size * (i + 1)) c)
present_next n i p c t h e =
    let k : n - i - 1 ≡ n - (i + 1) = omega arith in
    let m : p + record_size * i + record_size ≡ p + record_size * (i + 1) = omega arith in
    present_more (n - i) (p + record_size * i) c t (omega arith) e ∙ rw (k, m)

pub present_most : (ls : List (List ℕ)) → present ls ≤ length ls
unfolding present
present_most [] = omega arith
present_most (r ∷ ls) = go (held r) _ (present_most ls)
  where
    go : (t : Bool) (m : ℕ) → m ≤ length ls → cond t 1 0 + m ≤ suc (length ls)
    go true m h = omega arith
    go false m h = omega arith

pub present_few : (n p : ℕ) (c : List ℕ) → present (records n p c) ≤ n
present_few n p c = omega (arith, present_most (records n p c), length-records n p c)

pub present_leases : (c : List ℕ) (f : Frame) → Known c f →
    present (records fixed_places leases_at c) + present (records f.extras (extras_at f.offset) c)
    ≡ present (leases_of c)
unfolding leases_of
present_leases c f k =
    rw (
      present-append (records fixed_places leases_at c) (records (extras_of c) (extras_at (count_at c)) c),
      frame_count k,
      frame_extras k,
    )

-- ---- without the empty tail
with_some : (r x : List ℕ) (a b : List (List ℕ)) → with_last x (a ++ (r ∷ b)) ≡ x ∷ (a ++ (r ∷ b))
unfolding with_last
with_some r x [] b = refl
with_some r x (y ∷ a) b = refl

pub trim-held : (a : List (List ℕ)) (r : List ℕ) → held r ≡ true → trim (a ++ (r ∷ [])) ≡ a ++ (r ∷ [])
unfolding trim with_last
trim-held [] r h = rw h
trim-held (x ∷ a) r h = ap (with_last x) (trim-held a r h) ∙ with_some r x a []

pub trim-empty : (a : List (List ℕ)) (r : List ℕ) → held r ≡ false → trim (a ++ (r ∷ [])) ≡ trim a
unfolding trim with_last
trim-empty [] r h = rw h
trim-empty (x ∷ a) r h = ap (with_last x) (trim-empty a r h)

module _ (n p : ℕ) (c : List ℕ) (h : 0 < n) where
  abbrev last : List ℕ
  last = take record_size (drop (p + record_size * (n - 1)) c)

  -- the last of n places, taken off
  records_last : records n p c ≡ records (n - 1) p c ++ (last ∷ [])
  unfolding records
  records_last =
      let e : n ≡ n - 1 + 1 = omega arith in
      ap (λ (m : ℕ). records m p c) e ∙ records-add (n - 1) 1 p c

  pub kept_all : held last ≡ true → length (trim (records n p c)) ≡ n
  kept_all e =
      ap length (ap trim records_last ∙ trim-held (records (n - 1) p c) last e ∙ sym records_last)
      ∙ length-records n p c

  pub kept_fewer : held last ≡ false → trim (records n p c) ≡ trim (records (n - 1) p c)
  kept_fewer e = ap trim records_last ∙ trim-empty (records (n - 1) p c) last e

pub kept-none : (n p : ℕ) (c : List ℕ) → n ≤ 0 → length (trim (records n p c)) ≡ 0
unfolding records trim
kept-none zero p c h = refl
kept-none (suc n) p c h = absurd (omega arith)

pub kept_few : (n p : ℕ) (c : List ℕ) → length (trim (records n p c)) ≤ n
kept_few n p c = omega (arith, length-trim (records n p c), length-records n p c)
