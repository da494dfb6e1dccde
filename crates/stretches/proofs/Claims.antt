-- What is claimed of lists. Assumes nothing.
use Prim.Native.Nat.{ℕ, ◌+◌, ◌*◌, ◌-◌, ◌≤◌, ◌<◌}
use mathlib.Core.Path.{◌≡◌, refl, sym, ap, ◌∙◌}
use mathlib.Core.Bool.{Bool, true, false}
use mathlib.Core.List.{List, [], ◌∷◌, map}
use native.Mathlib.Omega.{arith}
use lib.ListN.{length, get_or, drop}
use lib.Seq.{get_or-drop}
use lib.Dec.{ltb}
use borrow.Author.Tests.{ltb-true, ltb-false}
use Rattle.octets.specs.Facts.{Octets, Each, Fits32}
use Rattle.octets.specs.Numbers.{digits}
use Rattle.octets.specs.Strings.{all_zero, join}
use Rattle.octets.proofs.ListLaws.{at_rep}
use Rattle.octets.proofs.NumberLaws.{octets_digits}
use Rattle.octets.proofs.StringLaws.{rest_field, all_zero-replicate, octets_append, octets_join}
use Rattle.rules.specs.Changes.{Change}
use Rattle.stretches.specs.Stretches.{Stretch, listed}
use Rattle.stretches.specs.List.{list_length, rows_at, row_size, row_count, stretches_of, list_bytes}
use Rattle.stretches.specs.List.{row_bytes, fresh_list, list_ok}
use Rattle.stretches.specs.Claims.{Rising, GoodList, Judged, Storable, ListRoundTrip, Tracks}
use Rattle.stretches.proofs.ShapeLaws.{never, listed-high, rising-after, length-after, same_stretches}
use Rattle.stretches.proofs.UnwrittenLaws.{listed-unwritten}
use Rattle.stretches.proofs.ByteLaws.{rising_small, length-rows_from, length_list, count_list, rows_list}
use Rattle.stretches.proofs.ByteLaws.{rest_list, ListFormed, list_facts, list_true, list_rows_lem, Zeros, all_zero_lem}
use Rattle.stretches.proofs.ByteLaws.{zeros_true, zeros_facts}

-- ---- the test and its conditions
pub good_list : (l d : List ℕ) → list_ok l d ≡ true → GoodList l d
good_list l d e =
    let f : ListFormed l d = list_facts l d e in
    let k : ℕ = rows_at + row_size * row_count l in
    record {
      long = f.long;
      few = f.few;
      rest = λ i h. rest_at l k i f.rest h;
      rises = f.rises;
      inside = λ i z. inside_at (stretches_of l) (length d) i f.rises z;
      zeros = zeros_facts (stretches_of l) d f.zero;
    }
  where
    rest_at : (l : List ℕ) (k i : ℕ) → all_zero (drop k l) ≡ true → k ≤ i → get_or l i 0 ≡ 0
    rest_at l k i z h =
        let s : k + (i - k) ≡ i = omega arith in
        ap (λ (j : ℕ). get_or l j 0) (sym s) ∙ sym (get_or-drop k l (i - k) 0)
        ∙ ap (λ (x : List ℕ). get_or x (i - k) 0) (rest_field l k z) ∙ at_rep (length l - k) (i - k)

    inside_at : (rs : List Stretch) (n i : ℕ) → Rising 0 rs n → listed rs i ≡ true → i < n
    inside_at rs n i r z = go (ltb i n) refl
      where
        go : (b : Bool) → ltb i n ≡ b → i < n
        go true p = ltb-true i n p
        go false p = never z (listed-high 0 rs n i r (ltb-false i n p))

pub list_good : (l d : List ℕ) → GoodList l d → list_ok l d ≡ true
list_good l d g =
    let k : ℕ = rows_at + row_size * row_count l in
    list_true l d (record {
      long = g.long;
      few = g.few;
      rest = all_zero_lem (drop k l) (λ j. get_or-drop k l j 0 ∙ g.rest (k + j) (omega arith));
      rises = g.rises;
      zero = zeros_true (stretches_of l) d g.zeros;
    })

-- WHEN A LIST IS GOOD
pub judged : (l d : List ℕ) → Judged l d
judged l d = record { exactly = (good_list l d, list_good l d) }

-- ---- the list and its parts
storable_small : (rs : List Stretch) (n : ℕ) → Storable rs n → stretches_of (list_bytes rs) ≡ rs
storable_small rs n s = rows_list rs s.few (rising_small 0 rs n s.fits s.rises)

pub bytes_good : (rs : List Stretch) (d : List ℕ) → Storable rs (length d) → Zeros rs d → list_ok (list_bytes rs) d ≡ true
bytes_good rs d s z =
    let back : stretches_of (list_bytes rs) ≡ rs = storable_small rs (length d) s in
    list_true (list_bytes rs) d (record {
      long = length_list rs s.few;
      few = rw (count_list rs s.few) s.few;
      rest = rw (count_list rs s.few, rest_list rs s.few)
          (all_zero-replicate (list_length - (rows_at + row_size * length rs)));
      rises = rw back s.rises;
      zero = rw back (zeros_true rs d z);
    })

parts_hold : (l d : List ℕ) → list_ok l d ≡ true → Fits32 (length d) → Storable (stretches_of l) (length d)
unfolding stretches_of
parts_hold l d e h =
    let f : ListFormed l d = list_facts l d e in
    record { few = rw (length-rows_from (row_count l) rows_at l) f.few; rises = f.rises; fits = h }

pub zero_list : list_bytes [] ≡ fresh_list
unfolding list_bytes digits join fresh_list
zero_list = refl

each_octets : (rs : List Stretch) → Each Octets (map row_bytes rs)
unfolding row_bytes
each_octets [] = tt
each_octets (r ∷ rs) = (
  octets_append (digits 4 r.start) (digits 4 r.count) (octets_digits 4 r.start) (octets_digits 4 r.count),
  each_octets rs,
)

list_octets : (rs : List Stretch) → Octets (list_bytes rs)
unfolding list_bytes
list_octets rs =
    octets_append (digits 4 (length rs)) _ (octets_digits 4 (length rs))
    (octets_append (join (map row_bytes rs)) _ (octets_join (map row_bytes rs) (each_octets rs))
    (λ i. omega (arith, at_rep (list_length - (rows_at + row_size * length rs)) i)))

-- THE LIST AND ITS PARTS, BOTH WAYS
pub list_round_trip : (l d : List ℕ) (rs : List Stretch) (n : ℕ) → ListRoundTrip l d rs n
list_round_trip l d rs n = record {
  bytes_back = list_rows_lem l d;
  parts_hold = parts_hold l d;
  parts_back = storable_small rs n;
  bytes_good = bytes_good rs d;
  octets = list_octets rs;
  determined = λ other r o e. same_stretches 0 rs other n n r o e;
  fresh = zero_list;
}

-- OVER ANY CHANGES
pub tracks : (os : List Change) → Tracks os
tracks os = record {
  exact = listed-unwritten os;
  rises = rising-after os 0 [] tt;
  few = omega (arith, length-after os 0 [] tt);
}
