-- The header as it is written: the lengths of its fields, what fits them, and numbers in fields one behind the other,
-- both ways. Assumes nothing.
use mathlib.Core.Path.{◌≡◌, refl, sym, ap, ◌∙◌}
use mathlib.Core.Bool.{true, false}
use mathlib.Core.List.{List, [], ◌∷◌, ◌++◌, append_assoc}
use Prim.Native.Nat.{ℕ, ◌+◌, ◌^◌, ◌≤◌, ◌<◌}
use native.Mathlib.Omega.{arith}
use lib.ListN.{length, take, drop, length-append}
use borrow.Author.Tests.{lt-ltb, le-ltb, ltb-true, ltb-false}
use Rattle.octets.specs.Facts.{Each, Octets}
use Rattle.octets.specs.Lists.{sum}
use Rattle.octets.specs.Numbers.{number, number_at, digits, fits}
use Rattle.octets.specs.Strings.{join}
use Rattle.octets.proofs.ListLaws.{both, field_then, field_back}
use Rattle.octets.proofs.NumberLaws.{length_digits, number_digits, digits_at, number_at-below, octets_digits}
use Rattle.share_format.specs.Header.{Edition, hash_size, iv_size, number_size, offset_sizes, offsets_at}
use Rattle.share_format.specs.Header.{header_size, numbers_from, digits_of, each_fits, told_of, number_fields}
use Rattle.share_format.specs.Header.{offset_fields, offsets_fit}
use Rattle.share_format.specs.Claims.{FitEach}

-- ---- lengths
pub length-numbers : (e : Edition) (sequence : ℕ) (root iv : List ℕ) (required total segment data_length : ℕ)
    → length root ≡ hash_size → length iv ≡ iv_size e
    → length (join (number_fields e sequence root iv required total segment data_length)) ≡ offsets_at e
unfolding number_fields join
length-numbers e sequence root iv required total segment data_length r t =
    simp (length-append, length_digits, r, t) (omega arith)

pub sizes_sum : (e : Edition) → offsets_at e + sum (offset_sizes e) ≡ header_size e
unfolding sum
sizes_sum false = refl
sizes_sum true = refl

pub length_offsets : (e : Edition) (bounds : List ℕ)
    → offsets_at e + length (join (offset_fields e bounds)) ≡ header_size e
unfolding offset_fields digits_of told_of join
length_offsets false bounds = simp (length-append, length_digits)
length_offsets true bounds = simp (length-append, length_digits)

-- ---- what fits 64 bits, and whether the offsets fit
pub fits_64 : (v : ℕ) → v < 18446744073709551616 → fits number_size v ≡ true
unfolding fits
fits_64 v h = lt-ltb _ _ h

pub within_64 : (v : ℕ) → fits number_size v ≡ true → v < 18446744073709551616
unfolding fits
within_64 v e = ltb-true _ _ e

pub exceeds_64 : (v : ℕ) → 18446744073709551616 ≤ v → fits number_size v ≡ false
unfolding fits
exceeds_64 v h = le-ltb _ _ h

pub past_64 : (v : ℕ) → fits number_size v ≡ false → 18446744073709551616 ≤ v
unfolding fits
past_64 v e = ltb-false _ _ e

each_facts : (ns vs : List ℕ) → each_fits ns vs ≡ true → FitEach ns vs
unfolding each_fits fits
each_facts [] vs e = tt
each_facts (n ∷ ns) [] e = tt
each_facts (n ∷ ns) (v ∷ vs) e =
    let p = both (fits n v) (each_fits ns vs) e in
    (ltb-true v (256 ^ n) p.0, each_facts ns vs p.1)

each_true : (ns vs : List ℕ) → FitEach ns vs → each_fits ns vs ≡ true
unfolding each_fits fits
each_true [] vs f = refl
each_true (n ∷ ns) [] f = refl
each_true (n ∷ ns) (v ∷ vs) f = rw (lt-ltb v (256 ^ n) f.0) (each_true ns vs f.1)

pub offset_facts : (e : Edition) (bs : List ℕ) → offsets_fit e bs ≡ true → FitEach (offset_sizes e) (told_of e bs)
unfolding offsets_fit
offset_facts e bs h = each_facts (offset_sizes e) (told_of e bs) h

pub offsets_fit_lem : (e : Edition) (bs : List ℕ) → FitEach (offset_sizes e) (told_of e bs) → offsets_fit e bs ≡ true
unfolding offsets_fit
offsets_fit_lem e bs f = each_true (offset_sizes e) (told_of e bs) f

-- ---- numbers in fields, one behind the other
-- Written from p on, they are read back.
pub numbers-back : (s t : List ℕ) (p : ℕ) (ns vs : List ℕ) → length ns ≡ length vs → FitEach ns vs
    → drop p s ≡ join (digits_of ns vs) ++ t → numbers_from p ns s ≡ vs
unfolding numbers_from digits_of join number_at
numbers-back s t p [] [] l f e = refl
numbers-back s t p [] (v ∷ vs) l f e = absurd (omega arith)
numbers-back s t p (n ∷ ns) [] l f e = absurd (omega arith)
numbers-back s t p (n ∷ ns) (v ∷ vs) l f e =
    let b =
    field_back s p n (p + n) (digits n v) (join (digits_of ns vs) ++ t)
    (e ∙ append_assoc (digits n v) (join (digits_of ns vs)) t) (length_digits n v) refl in
    let first : number (take n (drop p s)) ≡ v = ap number b.0 ∙ number_digits n v f.0 in
    rw (first, numbers-back s t (p + n) ns vs (omega arith) f.1 b.1)

-- Read from p on and written again, they are the bytes that were there.
pub numbers_again : (s : List ℕ) (p : ℕ) (ns : List ℕ) → Octets s → p + sum ns ≤ length s
    → drop p s ≡ join (digits_of ns (numbers_from p ns s)) ++ drop (p + sum ns) s
unfolding numbers_from digits_of join sum
numbers_again s p [] o h = let k : p + 0 ≡ p = omega arith in rw k
numbers_again s p (n ∷ ns) o h =
    let rest = numbers_again s (p + n) ns o (omega arith) in
    let k : p + n + sum ns ≡ p + (n + sum ns) = omega arith in
    let d : List ℕ = digits n (number_at n p s) in
    field_then s p n (p + n) d _ refl (digits_at s n p (number_at n p s) (omega arith) o refl) rest
    ∙ rw k (sym (append_assoc d (join (digits_of ns (numbers_from (p + n) ns s))) (drop (p + (n + sum ns)) s)))

-- Each number that is read fits its field.
pub numbers_fit : (s : List ℕ) (p : ℕ) (ns : List ℕ) → Octets s → FitEach ns (numbers_from p ns s)
unfolding numbers_from
numbers_fit s p [] o = tt
numbers_fit s p (n ∷ ns) o = (number_at-below n p s o, numbers_fit s (p + n) ns o)

pub octets_each : (ns vs : List ℕ) → Each Octets (digits_of ns vs)
unfolding digits_of
octets_each [] vs = tt
octets_each (n ∷ ns) [] = tt
octets_each (n ∷ ns) (v ∷ vs) = (octets_digits n v, octets_each ns vs)
