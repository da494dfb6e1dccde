-- The list as bytes: there and back, and `list_ok` as facts. Assumes nothing.
use mathlib.Core.Path.{◌≡◌, refl, sym, ap, ap₂, ◌∙◌}
use mathlib.Core.Bool.{Bool, true, false, ◌||◌, false≢true}
use mathlib.Core.List.{List, [], ◌∷◌, ◌++◌, map, append_assoc}
use Prim.Native.Nat.{ℕ, zero, suc, ◌+◌, ◌*◌, ◌-◌, ◌^◌, ◌≤◌, ◌<◌}
use native.Mathlib.Omega.{arith}
use lib.ListN.{length, get_or, take, drop, replicate, length-append, length-replicate}
use lib.Seq.{get_or-take, get_or-drop}
use lib.Dec.{eqb, leb, ltb}
use borrow.Author.Tests.{ltb-true, ltb-false, leb-true, le-leb, eqb-true, eq-eqb}
use Rattle.octets.specs.Numbers.{number, number_at, digits}
use Rattle.octets.specs.Strings.{all_zero, join}
use Rattle.octets.specs.Facts.{Octets, Each}
use Rattle.octets.specs.Lists.{every}
use Rattle.octets.proofs.NumberLaws.{length_digits, number_digits, digits_at}
use Rattle.octets.proofs.StringLaws.{zeros_are, rest_field}
use Rattle.octets.proofs.ListLaws.{both, field_then, field_back, at_rep, at_take_past}
use Rattle.rules.specs.Changes.{covers}
use Rattle.rules.proofs.WriteLaws.{covers-mid}
use Rattle.stretches.specs.Stretches.{Stretch, stretch, end_of, listed, rising}
use Rattle.stretches.specs.List.{list_length, row_limit, row_count, rows_from, stretches_of, row_bytes, list_bytes}
use Rattle.stretches.specs.List.{zero_in, list_ok}
use Rattle.stretches.specs.Claims.{InPlace, Rising}
use Rattle.stretches.proofs.ShapeLaws.{rising_facts, rising-true}

-- ---- from rows to bytes and back
-- the numbers of a row fit their fields
pub record Small (r : Stretch) : Type 0 where
  pub start_fits : r.start < 4294967296
  pub count_fits : r.count < 4294967296

pub rising_small : (low : ℕ) (rs : List Stretch) (n : ℕ) → n < 4294967296 → Rising low rs n → Each Small rs
rising_small low [] n g h = tt
rising_small low (r ∷ rs) n g h =
    let f : InPlace low r n = h.0 in
    (record { start_fits = omega arith; count_fits = omega arith }, rising_small (suc (end_of r)) rs n g h.1)

number_four : (v : ℕ) → v < 4294967296 → number (digits 4 v) ≡ v
number_four v h = let e : 256 ^ 4 ≡ 4294967296 = refl in number_digits 4 v (omega arith)

pub length-rows_from : (n p : ℕ) (l : List ℕ) → length (rows_from n p l) ≡ n
unfolding rows_from
length-rows_from zero p l = refl
length-rows_from (suc n) p l = ap suc (length-rows_from n (p + 8) l)

pub length-row_bytes : (rs : List Stretch) → length (join (map row_bytes rs)) ≡ 8 * length rs
unfolding join row_bytes
length-row_bytes [] = refl
length-row_bytes (r ∷ rs) = simp (length-append, length_digits, length-row_bytes rs) (omega arith)

pub rows_back : (a : ℕ) (l : List ℕ) (rs : List Stretch) (t : List ℕ) → drop a l ≡ join (map row_bytes rs) ++ t → Each Small rs → rows_from (length rs) a l ≡ rs
unfolding rows_from join row_bytes number_at
rows_back a l [] t e h = refl
rows_back a l (r ∷ rs) t e h =
    let ds : List ℕ = digits 4 r.start in
    let dc : List ℕ = digits 4 r.count in
    let k : a + 4 + 4 ≡ a + 8 = omega arith in
    let z0 = field_back l a 4 (a + 4) ds (dc ++ (join (map row_bytes rs) ++ t)) (e ∙ simp append_assoc) (length_digits 4 r.start) refl in
    let z1 = field_back l (a + 4) 4 (a + 8) dc (join (map row_bytes rs) ++ t) z0.1 (length_digits 4 r.count) k in
    ap₂ (λ (v : Stretch) (x : List Stretch). v ∷ x)
    (ap₂ stretch (ap number z0.0 ∙ number_four r.start h.0.start_fits) (ap number z1.0 ∙ number_four r.count h.0.count_fits))
    (rows_back (a + 8) l rs t z1.1 h.1)

module _ (rs : List Stretch) (few : length rs ≤ row_limit) where
  pub length_list : length (list_bytes rs) ≡ list_length
  unfolding list_bytes
  length_list = simp (length-append, length_digits, length-row_bytes, length-replicate) (omega arith)

  count_back : (take 4 (drop 0 (list_bytes rs)) ≡ digits 4 (length rs)) × (drop 4 (list_bytes rs) ≡ join (map row_bytes rs) ++ replicate (list_length - (4 + 8 * length rs)) 0)
  unfolding list_bytes
  count_back = field_back (list_bytes rs) 0 4 4 (digits 4 (length rs)) _ refl (length_digits 4 (length rs)) refl

  pub count_list : row_count (list_bytes rs) ≡ length rs
  unfolding row_count number_at
  count_list = ap number count_back.0 ∙ number_four (length rs) (omega arith)

  pub rows_list : Each Small rs → stretches_of (list_bytes rs) ≡ rs
  unfolding stretches_of
  rows_list h = rw count_list (rows_back 4 (list_bytes rs) rs _ count_back.1 h)

  pub rest_list : drop (4 + 8 * length rs) (list_bytes rs) ≡ replicate (list_length - (4 + 8 * length rs)) 0
  rest_list = (field_back (list_bytes rs) 4 (8 * length rs) (4 + 8 * length rs) (join (map row_bytes rs)) _ count_back.1 (length-row_bytes rs) refl).1

-- ---- from bytes to rows and back
pub rows_then : (n a : ℕ) (l : List ℕ) → a + 8 * n ≤ length l → Octets l → drop a l ≡ join (map row_bytes (rows_from n a l)) ++ drop (a + 8 * n) l
unfolding rows_from join row_bytes
rows_then zero a l h o = let k : a ≡ a + 8 * 0 = omega arith in ap (λ (i : ℕ). drop i l) k
rows_then (suc n) a l h o =
    let e : a + 8 * suc n ≡ a + 8 + 8 * n = omega arith in
    let f : a + 4 + 4 ≡ a + 8 = omega arith in
    let x : List ℕ = digits 4 (number_at 4 a l) in
    let y : List ℕ = digits 4 (number_at 4 (a + 4) l) in
    field_then l a 4 (a + 4) x _ refl (digits_at l 4 a _ (omega arith) o refl)
    (field_then l (a + 4) 4 (a + 8) y _ f (digits_at l 4 (a + 4) _ (omega arith) o refl) (rows_then n (a + 8) l (omega arith) o))
    ∙ rw e (simp append_assoc)

-- ---- `list_ok` as facts
pub record ListFormed (l d : List ℕ) : Type 0 where
  pub long : length l ≡ list_length
  pub few : row_count l ≤ row_limit
  pub rest : all_zero (drop (4 + 8 * row_count l) l) ≡ true
  pub rises : Rising 0 (stretches_of l) (length d)
  pub zero : every (zero_in d) (stretches_of l) ≡ true

pub list_facts : (l d : List ℕ) → list_ok l d ≡ true → ListFormed l d
unfolding list_ok
list_facts l d e =
    let a = both (eqb (length l) list_length) _ e in
    let b = both (leb (row_count l) row_limit) _ a.1 in
    let c = both (all_zero (drop (4 + 8 * row_count l) l)) _ b.1 in
    let g = both (rising 0 (stretches_of l) (length d)) _ c.1 in
    record { long = eqb-true (length l) list_length a.0; few = leb-true (row_count l) row_limit b.0; rest = c.0; rises = rising_facts 0 (stretches_of l) (length d) g.0; zero = g.1 }

pub list_true : (l d : List ℕ) → ListFormed l d → list_ok l d ≡ true
unfolding list_ok
list_true l d f = rw (eq-eqb (length l) list_length f.long, le-leb (row_count l) row_limit f.few, f.rest, rising-true 0 (stretches_of l) (length d) f.rises) f.zero

-- a good list is what its rows write
pub list_rows_lem : (l d : List ℕ) → list_ok l d ≡ true → Octets l → list_bytes (stretches_of l) ≡ l
unfolding list_bytes stretches_of row_count
list_rows_lem l d e o =
    let f : ListFormed l d = list_facts l d e in
    let n : ℕ = row_count l in
    let k : length (rows_from n 4 l) ≡ n = length-rows_from n 4 l in
    let r : drop (4 + 8 * n) l ≡ replicate (list_length - (4 + 8 * n)) 0 = rest_field l (4 + 8 * n) f.rest ∙ rw f.long in
    rw k (sym (field_then l 0 4 4 (digits 4 n) _ refl (digits_at l 4 0 n (omega (arith, f.long)) o refl) (rows_then n 4 l (omega (arith, f.long, f.few)) o ∙ rw r)))

-- ---- the bytes that the rows name
abbrev pub Zeros : List Stretch → List ℕ → Type 0
Zeros rs d = (i : ℕ) → listed rs i ≡ true → get_or d i 0 ≡ 0

pub all_zero_lem : (l : List ℕ) → ((j : ℕ) → get_or l j 0 ≡ 0) → all_zero l ≡ true
unfolding all_zero
all_zero_lem [] h = refl
all_zero_lem (x ∷ l) h = rw (eq-eqb x 0 (h 0)) (all_zero_lem l (λ j. h (suc j)))

pub zeros_true : (rs : List Stretch) (d : List ℕ) → Zeros rs d → every (zero_in d) rs ≡ true
unfolding every zero_in listed
zeros_true [] d h = refl
zeros_true (r ∷ rs) d h = rw (all_zero_lem (take r.count (drop r.start d)) here) (zeros_true rs d (λ i e. h i (rest i (covers r.start r.count i) e)))
  where
    rest : (i : ℕ) (b : Bool) → listed rs i ≡ true → (b || listed rs i) ≡ true
    rest i true e = refl
    rest i false e = e

    here : (j : ℕ) → get_or (take r.count (drop r.start d)) j 0 ≡ 0
    here j = go (ltb j r.count) refl
      where
        go : (b : Bool) → ltb j r.count ≡ b → get_or (take r.count (drop r.start d)) j 0 ≡ 0
        go true e =
            let k : j < r.count = ltb-true j r.count e in
            get_or-take r.count (drop r.start d) j 0 k ∙ get_or-drop r.start d j 0
            ∙ h (r.start + j) (rw (covers-mid r.start r.count (r.start + j) (omega arith) (omega arith)))
        go false e = at_take_past r.count (drop r.start d) j (ltb-false j r.count e)

pub zeros_facts : (rs : List Stretch) (d : List ℕ) → every (zero_in d) rs ≡ true → Zeros rs d
unfolding every zero_in listed covers
zeros_facts [] d h i e = absurd (false≢true e)
zeros_facts (r ∷ rs) d h i e = go (covers r.start r.count i) refl e (zeros_facts rs d k.1 i)
  where
    k : (all_zero (take r.count (drop r.start d)) ≡ true) × (every (zero_in d) rs ≡ true)
    k = both (all_zero (take r.count (drop r.start d))) _ h

    go : (b : Bool) → covers r.start r.count i ≡ b → (b || listed rs i) ≡ true → (listed rs i ≡ true → get_or d i 0 ≡ 0) → get_or d i 0 ≡ 0
    go true c e ih =
        let f = both (leb r.start i) (ltb i (r.start + r.count)) c in
        let p : r.start ≤ i = leb-true r.start i f.0 in
        let q : i < r.start + r.count = ltb-true i (r.start + r.count) f.1 in
        let j : ℕ = i - r.start in
        let s : r.start + j ≡ i = omega arith in
        let t : List ℕ = take r.count (drop r.start d) in
        ap (λ (x : ℕ). get_or d x 0) (sym s) ∙ sym (get_or-drop r.start d j 0) ∙ sym (get_or-take r.count (drop r.start d) j 0 (omega arith))
        ∙ ap (λ (l : List ℕ). get_or l j 0) (zeros_are t k.0) ∙ at_rep (length t) j
    go false c e ih = ih e
