-- What well-formedness of a container says, as records of facts; laws of its lease records. Assumes nothing.
use mathlib.Core.Path.{◌≡◌, refl, ap, ◌∙◌}
use mathlib.Core.Bool.{true, false}
use mathlib.Core.List.{List, [], ◌∷◌, ◌++◌, append_assoc}
use Prim.Native.Nat.{ℕ, zero, suc, ◌+◌, ◌-◌, ◌*◌, ◌≤◌, ◌<◌}
use native.Mathlib.Omega.{arith}
use native.Mathlib.Nat.{not-suc-le-zero}
use lib.ListN.{length, take, drop, get_or, length-append, length-drop}
use lib.Seq.{length-take-le, drop-drop, take-add, take_at, drop_at}
use borrow.Author.Tests.{leb-true, le-leb}
use Rattle.octets.specs.Strings.{all_zero, same, join}
use Rattle.format.specs.Layout.{magic, least, limit, leases_at, data_at, count_at, used_length, size_of, moved_count}
use Rattle.format.specs.Layout.{data_of, extras_of, leases_of, record_size, records, fixed_places, data_end, used_end}
use Rattle.format.specs.Layout.{node_at, extra_limit, extras_at, count_size, slack_of}
use Rattle.format.specs.Container.{length_allowed, held, record_ok, last_held, fields_ok, contents_ok, well_formed}
use Rattle.octets.specs.Lists.{every}
use Rattle.octets.specs.Facts.{Each}
use Rattle.octets.proofs.ListLaws.{both, by_refuting}

-- ---- the fields
pub record Fields (c : List ℕ) : Type 0 where
  pub magical : same (take node_at c) magic ≡ true
  pub behind : data_end c ≤ count_at c
  pub few : extras_of c ≤ extra_limit
  pub fits : used_end c ≤ length c

pub fields_facts : (c : List ℕ) → fields_ok c ≡ true → Fields c
unfolding fields_ok
fields_facts c e =
    let a = both _ _ e in
    let b = both _ _ a.1 in
    let d = both _ _ b.1 in
    record { magical = a.0; behind = leb-true _ _ b.0; few = leb-true _ _ d.0; fits = leb-true _ _ d.1 }

pub fields_true : (c : List ℕ) → Fields c → fields_ok c ≡ true
unfolding fields_ok
fields_true c h = rw (h.magical, le-leb _ _ h.behind, le-leb _ _ h.few, le-leb _ _ h.fits)

pub fields_false : (c : List ℕ) → (Fields c → ⊥) → fields_ok c ≡ false
fields_false c k = by_refuting (fields_ok c) (λ e. k (fields_facts c e))

-- ---- the contents
pub record Contents (c : List ℕ) : Type 0 where
  pub records : every record_ok (leases_of c) ≡ true
  pub last : last_held (drop fixed_places (leases_of c)) ≡ true
  pub zeros : all_zero (drop (used_end c) c) ≡ true
  pub slack : all_zero (take (slack_of c) (drop (data_end c) c)) ≡ true

pub contents_facts : (c : List ℕ) → contents_ok c ≡ true → Contents c
unfolding contents_ok
contents_facts c e =
    let a = both _ _ e in
    let b = both _ _ a.1 in
    let z = both _ _ b.1 in
    record { records = a.0; last = b.0; zeros = z.0; slack = z.1 }

pub contents_true : (c : List ℕ) → Contents c → contents_ok c ≡ true
unfolding contents_ok
contents_true c h = rw (h.records, h.last, h.zeros, h.slack)

-- ---- the whole
pub record Formed (c : List ℕ) : Type 0 where
  pub least_length : least ≤ length c
  pub most : length c ≤ limit
  pub fields : Fields c
  pub contents : Contents c

pub formed_facts : (c : List ℕ) → well_formed c ≡ true → Formed c
unfolding well_formed length_allowed
formed_facts c e =
    let a = both _ _ e in
    let l = both _ _ a.0 in
    let b = both _ _ a.1 in
    record {
      least_length = leb-true _ _ l.0;
      most = leb-true _ _ l.1;
      fields = fields_facts c b.0;
      contents =
          contents_facts c b.1;
    }

pub formed_true : (c : List ℕ) → Formed c → well_formed c ≡ true
unfolding well_formed length_allowed
formed_true c h = rw (
  le-leb _ _ h.least_length,
  le-leb _ _ h.most,
  fields_true c h.fields,
  contents_true c h.contents,
)

-- ---- the table in numbers
pub used_is : (o e : ℕ) → used_length o e ≡ o + count_size + record_size * e
unfolding used_length
used_is o e = refl

pub slack_is : (c : List ℕ) → slack_of c ≡ count_at c - data_end c
unfolding slack_of
slack_is c = refl

-- A count is moved where the data needs its place, and only there.
pub moved_up : (o s : ℕ) → o ≤ data_at + s → moved_count o s ≡ data_at + s
unfolding moved_count
moved_up o s h = omega arith

pub moved-not : (o s : ℕ) → data_at + s ≤ o → moved_count o s ≡ o
unfolding moved_count
moved-not o s h = omega arith

pub moved_most : (o s : ℕ) → (o ≤ moved_count o s) × (data_at + s ≤ moved_count o s)
unfolding moved_count
moved_most o s = (omega arith, omega arith)

pub moved-below : (o s m : ℕ) → o ≤ m → data_at + s ≤ m → moved_count o s ≤ m
unfolding moved_count
moved-below o s m h k = omega arith

-- ---- lease records, read one after the other
pub length-records : (n p : ℕ) (c : List ℕ) → length (records n p c) ≡ n
unfolding records
length-records zero p c = refl
length-records (suc n) p c = ap suc (length-records n (p + record_size) c)

pub records-add : (m n p : ℕ) (c : List ℕ) → records (m + n) p c ≡ records m p c ++ records n (p + record_size * m) c
unfolding records
records-add zero n p c =
    let e : 0 + n ≡ n = omega arith in
    let k : p + record_size * 0 ≡ p = omega arith in
    rw (e, k)
records-add (suc m) n p c =
    let e : suc m + n ≡ suc (m + n) = omega arith in
    let k : p + record_size + record_size * m ≡ p + record_size * suc m = omega arith in
    rw (e, ← k) (ap (λ (l : List (List ℕ)). take record_size (drop p c) ∷ l) (records-add m n (p + record_size) c))

pub records_shift : (n a p : ℕ) (c : List ℕ) → records n (a + p) c ≡ records n p (drop a c)
unfolding records
records_shift zero a p c = refl
records_shift (suc n) a p c =
    let k : a + p + record_size ≡ a + (p + record_size) = omega arith in
    rw (drop-drop p a c, k) (ap (λ (l : List (List ℕ)). take record_size (drop (a + p) c)
    ∷ l) (records_shift n a (p + record_size) c))

pub record_at_lem : (n p i : ℕ) (c : List ℕ) → i < n → get_or (records n p c) i []
    ≡ take record_size (drop (p + record_size * i) c)
unfolding records
record_at_lem zero p i c h = absurd (not-suc-le-zero h)
record_at_lem (suc n) p zero c h =
    let k : p + record_size * 0 ≡ p = omega arith in
    rw k
record_at_lem (suc n) p (suc i) c h =
    let k : p + record_size + record_size * i ≡ p + record_size * suc i = omega arith in
    record_at_lem n (p + record_size) i c (omega arith) ∙ rw k

pub last_held-records : (n p : ℕ) (c : List ℕ) → last_held (records (suc n) p c)
    ≡ held (take record_size (drop (p + record_size * n) c))
unfolding records last_held
last_held-records zero p c =
    let k : p + record_size * 0 ≡ p = omega arith in
    rw k
last_held-records (suc n) p c =
    let k : p + record_size + record_size * n ≡ p + record_size * suc n = omega arith in
    last_held-records n (p + record_size) c ∙ rw k

pub length_leases : (c : List ℕ) → length (leases_of c) ≡ fixed_places + extras_of c
unfolding leases_of
length_leases c = length-append (records fixed_places leases_at c)
    (records (extras_of c) (extras_at (count_at c)) c)
    ∙ rw (length-records fixed_places leases_at c, length-records (extras_of c) (extras_at (count_at c)) c)

-- ---- lease records, joined (records that reach past the end are cut short on both sides)
pub join-records : (n p : ℕ) (c : List ℕ) → join (records n p c) ≡ take (record_size * n) (drop p c)
unfolding records join
join-records zero p c = refl
join-records (suc n) p c =
    let k : record_size * suc n ≡ record_size + record_size * n = omega arith in
    rw (k, take-add record_size (record_size * n) (drop p c), drop-drop record_size p c)
    (ap (λ (l : List ℕ). take record_size (drop p c) ++ l) (join-records n (p + record_size) c))

pub length-join : (ls : List (List ℕ)) → Each (λ r. length r ≡ record_size) ls → length (join ls)
    ≡ record_size * length ls
unfolding join
length-join [] h = refl
length-join (r ∷ ls) h = length-append r (join ls) ∙ rw (h.0, length-join ls h.1) (omega arith)

pub records-join : (ls : List (List ℕ)) (t : List ℕ) → Each (λ r. length r ≡ record_size) ls
    → records (length ls) 0 (join ls ++ t) ≡ ls
unfolding records join
records-join [] t h = refl
records-join (r ∷ ls) t h =
    let c : List ℕ = join ls ++ t in
    let ih : records (length ls) record_size (r ++ c) ≡ ls = records_shift (length ls) record_size 0 (r ++ c)
    ∙ rw (drop_at r c record_size h.0) (records-join ls t h.1) in
    rw (append_assoc r (join ls) t, take_at r c record_size h.0, ih)

-- ---- data
pub data_length_lem : (c : List ℕ) → well_formed c ≡ true → length (data_of c) ≡ size_of c
unfolding data_of
data_length_lem c e = length-take-le (size_of c) (drop data_at c)
    (rw length-drop (omega (arith, (formed_facts c e).fields, used_is (count_at c) (extras_of c))))
