-- What the tests of the judging pass say, in the form in which the code reads the buffer, and what each answer of it
-- means. Assumes nothing.
use mathlib.Core.Path.{◌≡◌, refl, sym, ap, ◌∙◌}
use mathlib.Core.Bool.{Bool, true, false, not, ◌&&◌}
use Rattle.std.specs.Prelude.{Some, None, Ok, Err}
use mathlib.Core.List.{List, [], ◌∷◌}
use Prim.Native.Nat.{ℕ, zero, suc, ◌+◌, ◌*◌, ◌-◌, ◌≤◌, ◌<◌}
use native.Mathlib.Omega.{arith}
use lib.Dec.{eqb}
use lib.ListN.{length, take, drop, length-drop}
use lib.Seq.{take-take, take_all}
use borrow.Author.Tests.{leb-true, eq-eqb, ne_eqb, le-leb, lt-leb}
use Rattle.std.specs.List.{list_all, range_with_len}
use Rattle.octets.specs.Numbers.{number, number_at}
use Rattle.octets.specs.Strings.{all_zero}
use Rattle.format.specs.Layout.{least, limit, leases_at, count_at, size_of, extras_of, records, leases_of, owner_of}
use Rattle.format.specs.Layout.{data_at, extra_limit, record_size, size_width, size_at, offset_at, fixed_places}
use Rattle.format.specs.Layout.{count_size, used_length, extras_at, used_end, data_end, slack_of}
use Rattle.format.specs.Container.{length_allowed, held, record_ok, last_held, fields_ok, contents_ok, well_formed}
use Rattle.format.specs.Judging.{fields_found, Framed, Judges, Known, frame_of}
use Rattle.std.proofs.lemmas.Option.{cond_some, none-some}
use Rattle.octets.proofs.ListLaws.{both, by_refuting, and_assoc, every_append}
use Rattle.format.proofs.WellFormed.{fields_facts, formed_facts, used_is, last_held-records}
use Rattle.format.proofs.WellFormed.{Fields}
use Rattle.format.proofs.RoundTrip.{extra_leases}
use Rattle.octets.specs.Lists.{every}
use Rattle.octets.specs.Rows.{first_row, row}
use Rattle.format.specs.declared.layout.Frame.{Frame}
use Rattle.format.specs.declared.judging.Flaw.TheVariants.{BadLength, Malformed}

-- ---- one record, by its owner as it stands in the buffer
owner_at : (p : ℕ) (c : List ℕ) → owner_of (take record_size (drop p c)) ≡ number_at 4 p c
unfolding owner_of number_at
owner_at p c = ap number (take-take 4 record_size (drop p c) (omega arith))

pub held_at : (p : ℕ) (c : List ℕ) → held (take record_size (drop p c)) ≡ not (eqb (number_at 4 p c) 0)
unfolding held
held_at p c = rw (owner_at p c)

pub record_held : (p : ℕ) (c : List ℕ) → (number_at 4 p c ≡ 0 → ⊥) → record_ok (take record_size (drop p c)) ≡ true
unfolding record_ok
record_held p c h = rw (held_at p c, ne_eqb _ _ h)

pub record_none : (p : ℕ) (c : List ℕ) → number_at 4 p c ≡ 0 → record_ok (take record_size (drop p c))
    ≡ all_zero (take record_size (drop p c))
unfolding record_ok
record_none p c h = rw (held_at p c, eq-eqb _ _ h)

-- ---- the records, each tested where it stands
records_from : (n a p : ℕ) (c : List ℕ)
    → list_all (λ i. record_ok (take record_size (drop (p + record_size * i) c))) (range_with_len a n)
    ≡ every record_ok (records n (p + record_size * a) c)
unfolding records every
records_from zero a p c = refl
records_from (suc n) a p c =
    let k : p + record_size * a + record_size ≡ p + record_size * (a + 1) = omega arith in
    rw (k, records_from n (a + 1) p c)

pub records_each : (n p : ℕ) (c : List ℕ)
    → list_all (λ i. record_ok (take record_size (drop (p + record_size * i) c))) (range_with_len 0 n)
    ≡ every record_ok (records n p c)
records_each n p c = let k : p + record_size * 0 ≡ p = omega arith in rw (records_from n 0 p c, k)

-- ---- the last of the records
pub last_none : (n p : ℕ) (c : List ℕ) → n ≡ 0 → last_held (records n p c) ≡ true
unfolding records last_held
last_none n p c e = rw e

pub last_some : (n p : ℕ) (c : List ℕ) → (n ≡ 0 → ⊥) → last_held (records n p c)
    ≡ not (eqb (number_at 4 (p + record_size * (n - 1)) c) 0)
last_some zero p c h = absurd (h refl)
last_some (suc n) p c h =
    let k : suc n - 1 ≡ n = omega arith in
    last_held-records n p c ∙ held_at (p + record_size * n) c ∙ rw k

-- ---- the length
pub length_facts : (c : List ℕ) → length_allowed c ≡ true → (least ≤ length c) × (length c ≤ limit)
unfolding length_allowed
length_facts c e =
    let l = both _ _ e in
    (leb-true _ _ l.0, leb-true _ _ l.1)

pub length-true : (c : List ℕ) → least ≤ length c → length c ≤ limit → length_allowed c ≡ true
unfolding length_allowed
length-true c h k = rw (le-leb _ _ h, le-leb _ _ k)

pub too_short : (c : List ℕ) → length c < least → length_allowed c ≡ false
unfolding length_allowed
too_short c h = rw (lt-leb _ _ h)

pub too_long : (c : List ℕ) → least ≤ length c → limit < length c → length_allowed c ≡ false
unfolding length_allowed
too_long c h k = rw (le-leb _ _ h, lt-leb _ _ k)

pub length_unformed : (c : List ℕ) → length_allowed c ≡ false → well_formed c ≡ false
unfolding well_formed
length_unformed c h = rw h

-- ---- the fields, as the code reads them
pub size_read : (c : List ℕ) (s : ℕ) → s ≡ number_at size_width size_at c → size_of c ≡ s
unfolding size_of
size_read c s e = sym e

pub count_read : (c : List ℕ) (o : ℕ) → o ≡ number_at size_width offset_at c → count_at c ≡ o
unfolding count_at
count_read c o e = sym e

pub extras-read : (c : List ℕ) (o e : ℕ) → count_at c ≡ o → e ≡ number_at count_size o c → extras_of c ≡ e
unfolding extras_of
extras-read c o e p r = rw p (sym r)

-- ---- the contents, in the order in which the code tests them
leases_ok : (c : List ℕ) → every record_ok (leases_of c) ≡ (every record_ok (records fixed_places leases_at c)
    && every record_ok (records (extras_of c) (extras_at (count_at c)) c))
unfolding leases_of
leases_ok c = every_append record_ok (records fixed_places leases_at c) (records (extras_of c) (extras_at (count_at c)) c)

pub contents_read : (c : List ℕ) (f : Frame) → Framed c f
    → contents_ok c
    ≡ (every record_ok (records fixed_places leases_at c)
    && (every record_ok (records f.extras (extras_at f.offset) c)
    && (last_held (records f.extras (extras_at f.offset) c)
    && (all_zero (take (length c - used_length f.offset f.extras) (drop (used_length f.offset f.extras) c))
    && all_zero (take (f.offset - (data_at + f.size)) (drop (data_at + f.size) c))))))
unfolding contents_ok slack_of
contents_read c f h =
    let l : List (List ℕ) = records (extras_of c) (extras_at (count_at c)) c in
    let z : take (length c - used_end c) (drop (used_end c) c) ≡ drop (used_end c) c =
    take_all (length c - used_end c) (drop (used_end c) c) (rw length-drop (omega arith)) in
    rw (h.is, z, leases_ok c, extra_leases c)
    (and_assoc (every record_ok (records fixed_places leases_at c)) (every record_ok l)
    (last_held l && (all_zero (drop (used_end c) c)
    && all_zero (take (count_at c - data_end c) (drop (data_end c) c)))))

-- A frame in numbers.
pub record Sized (c : List ℕ) (f : Frame) : Type 0 where
  pub few : f.extras ≤ extra_limit
  pub behind : data_at + f.size ≤ f.offset
  pub fits : f.offset + count_size + record_size * f.extras ≤ length c

fields_sized : (c : List ℕ) (f : Frame) → f ≡ frame_of c → Fields c → Sized c f
fields_sized c f e h =
    let u = used_is (count_at c) (extras_of c) in
    rw e (record { few = h.few; behind = h.behind; fits = omega (arith, h.fits) })

pub framed_sized : (c : List ℕ) (f : Frame) → Framed c f → Sized c f
framed_sized c f h = fields_sized c f h.is (fields_facts c h.agree)

pub known_sized : (c : List ℕ) (f : Frame) → Known c f → Sized c f
known_sized c f k = fields_sized c f k.is (formed_facts c k.formed).fields

pub known_most : (c : List ℕ) (f : Frame) → Known c f → length c ≤ limit
known_most c f k = (formed_facts c k.formed).most

-- ---- what `find_fields` tells its caller
pub found_agree : (c : List ℕ) (f : Frame) → Some f ≡ fields_found c → Framed c f
found_agree c f p = let k = cond_some (fields_ok c) (frame_of c) f (sym p) in record { is = sym k.1; agree = k.0 }

pub found_disagree : (c : List ℕ) → None ≡ fields_found c → fields_ok c ≡ false
found_disagree c p = by_refuting (fields_ok c) (λ h. none-some (frame_of c) (p ∙ rw h))

-- ---- what `judge` answers
pub judge_length : (c : List ℕ) → length_allowed c ≡ false → Judges c (Err BadLength)
unfolding first_row
judge_length c h = record { number = rw h; frame = rw (length_unformed c h) }

unformed : (c : List ℕ) → length_allowed c ≡ true → well_formed c ≡ false → Judges c (Err Malformed)
unfolding first_row
unformed c h k = record { number = rw (h, k); frame = rw k }

pub judge_fields : (c : List ℕ) → length_allowed c ≡ true → fields_ok c ≡ false → Judges c (Err Malformed)
unfolding well_formed
judge_fields c h k = unformed c h (rw (h, k))

module _ (c : List ℕ) (f : Frame) (l : length_allowed c ≡ true) (found : Some f ≡ fields_found c) where
  by_contents : (t : Bool) → contents_ok c ≡ t → well_formed c ≡ t
  unfolding well_formed
  by_contents t k = rw (l, (found_agree c f found).agree, k)

  pub judge_formed : contents_ok c ≡ true → Judges c (Ok f)
  unfolding first_row
  judge_formed k =
      let w : well_formed c ≡ true = by_contents true k in
      record { number = rw (l, w); frame = rw w (ap Some (found_agree c f found).is) }

  pub judge_contents : contents_ok c ≡ false → Judges c (Err Malformed)
  judge_contents k = unformed c l (by_contents false k)

-- ---- what an answer of `judge` means
pub judged_formed : (c : List ℕ) (f : Frame) → Judges c (Ok f) → Known c f
judged_formed c f j =
    let k = cond_some (well_formed c) (frame_of c) f (sym j.frame) in record { is = sym k.1; formed = k.0 }

pub judged-malformed : (c : List ℕ) → Judges c (Err Malformed) → (length_allowed c ≡ true) × (well_formed c ≡ false)
unfolding first_row
judged-malformed c j = go (length_allowed c) (well_formed c) refl refl j.number
  where
    go : (l w : Bool) → length_allowed c ≡ l → well_formed c ≡ w
        → ◌≡◌ {A = ℕ} 2 (first_row (row 1 (not l) ∷ row 2 (not w) ∷ []))
        → (length_allowed c ≡ true) × (well_formed c ≡ false)
    go true true g h q = absurd (omega arith)
    go true false g h q = (g, h)
    go false w g h q = absurd (omega arith)

pub judged-length : (c : List ℕ) → Judges c (Err BadLength) → length_allowed c ≡ false
unfolding first_row
judged-length c j = go (length_allowed c) (well_formed c) refl j.number
  where
    go : (l w : Bool) → length_allowed c ≡ l → ◌≡◌ {A = ℕ} 1 (first_row (row 1 (not l) ∷ row 2 (not w) ∷ []))
        → length_allowed c ≡ false
    go true true g q = absurd (omega arith)
    go true false g q = absurd (omega arith)
    go false w g q = g
