-- Rows of a table when bytes are put into it, and when a span is pushed as a row. Assumes nothing.
use mathlib.Core.Path.{◌≡◌, refl, sym, ap, ap₂, ◌∙◌}
use mathlib.Core.List.{List, [], ◌∷◌, ◌++◌, append_assoc, append-nil}
use Prim.Native.Nat.{ℕ, zero, suc, ◌+◌, ◌*◌, ◌-◌, ◌≤◌, ◌<◌}
use native.Mathlib.Omega.{arith}
use lib.ListN.{length, take, drop, length-append}
use lib.Seq.{take-append-le, take-take, length-take-le, drop_at}
use borrow.Author.Tests.{lt-ltb, le-ltb}
use Rattle.octets.specs.Facts.{Fits32}
use Rattle.octets.specs.Moves.{put}
use Rattle.octets.specs.Numbers.{number, number_at, digits}
use Rattle.octets.specs.Strings.{join}
use Rattle.octets.proofs.ListLaws.{drop-take}
use Rattle.octets.proofs.MoveLaws.{put-put, put-beyond}
use Rattle.octets.proofs.NumberLaws.{length_digits}
use Rattle.stretches.specs.Stretches.{Stretch, stretch, between}
use Rattle.stretches.specs.List.{rows_from, row_bytes}
use Rattle.stretches.proofs.ByteLaws.{Small, rows_back}
use Rattle.lists.specs.declared.rows.Span.{Span}
use Rattle.lists.specs.declared.rows.Rows.{Rows}
use Rattle.lists.specs.Tables.{rows_of, Pushed}

-- ---- bytes put elsewhere leave a number and rows alone
pub number_before : (n p at : ℕ) (bs t : List ℕ) → at ≤ length t → p + n ≤ at
    → number_at n p (put at bs t) ≡ number_at n p t
unfolding number_at
number_before n p at bs t h l =
    ap number (sym (drop-take p n (put at bs t)) ∙ ap (drop p) front ∙ drop-take p n t)
  where
    lt : length (take at t) ≡ at
    lt = length-take-le at t h

    front : take (p + n) (put at bs t) ≡ take (p + n) t
    front =
        take-append-le (p + n) (take at t ++ bs) (drop (at + length bs) t) (rw length-append (omega (arith, lt)))
        ∙ take-append-le (p + n) (take at t) bs (omega (arith, lt)) ∙ take-take (p + n) at t l

pub number_behind : (n p at : ℕ) (bs t : List ℕ) → at ≤ length t → at + length bs ≤ p
    → number_at n p (put at bs t) ≡ number_at n p t
unfolding number_at
number_behind n p at bs t h l = ap (λ (x : List ℕ). number (take n x)) (put-beyond at p bs t h l)

pub rows_before : (k p at : ℕ) (bs t : List ℕ) → at ≤ length t → p + 8 * k ≤ at
    → rows_from k p (put at bs t) ≡ rows_from k p t
unfolding rows_from
rows_before zero p at bs t h l = refl
rows_before (suc k) p at bs t h l =
    ap₂ (λ (r : Stretch) (rs : List Stretch). r ∷ rs)
    (ap₂ stretch (number_before 4 p at bs t h (omega arith)) (number_before 4 (p + 4) at bs t h (omega arith)))
    (rows_before k (p + 8) at bs t h (omega arith))

pub rows_behind : (k p at : ℕ) (bs t : List ℕ) → at ≤ length t → at + length bs ≤ p
    → rows_from k p (put at bs t) ≡ rows_from k p t
unfolding rows_from
rows_behind zero p at bs t h l = refl
rows_behind (suc k) p at bs t h l =
    ap₂ (λ (r : Stretch) (rs : List Stretch). r ∷ rs)
    (ap₂ stretch (number_behind 4 p at bs t h l) (number_behind 4 (p + 4) at bs t h (omega arith)))
    (rows_behind k (p + 8) at bs t h (omega arith))

-- ---- one row apart
-- Row i.
abbrev pub row_at : ℕ → List ℕ → Stretch
row_at i t = stretch (number_at 4 (8 * i) t) (number_at 4 (8 * i + 4) t)

-- of the rows from row i on it is the first
pub rows_next : (n i : ℕ) (t : List ℕ) → i < n
    → rows_from (n - i) (8 * i) t ≡ row_at i t ∷ rows_from (n - (i + 1)) (8 * (i + 1)) t
unfolding rows_from
rows_next n i t h =
    let e : n - i ≡ suc (n - (i + 1)) = omega arith in
    let f : 8 * i + 8 ≡ 8 * (i + 1) = omega arith in
    ap (λ (k : ℕ). rows_from k (8 * i) t) e
    ∙ ap (λ (p : ℕ). row_at i t ∷ rows_from (n - (i + 1)) p t) f

-- and it is the last of one row more than i
rows_more : (k p : ℕ) (t : List ℕ) → rows_from (suc k) p t ≡ rows_from k p t ++ rows_from 1 (p + 8 * k) t
unfolding rows_from
rows_more zero p t = let e : p ≡ p + 8 * 0 = omega arith in ap (λ (q : ℕ). rows_from 1 q t) e
rows_more (suc k) p t =
    let e : p + 8 + 8 * k ≡ p + 8 * suc k = omega arith in
    ap (λ (rs : List Stretch). stretch (number_at 4 p t) (number_at 4 (p + 4) t) ∷ rs)
    (rows_more k (p + 8) t ∙ ap (λ (q : ℕ). rows_from k (p + 8) t ++ rows_from 1 q t) e)

pub rows_last : (i : ℕ) (t : List ℕ) → rows_from (suc i) 0 t ≡ rows_from i 0 t ++ rows_from 1 (8 * i) t
rows_last i t =
    let e : 0 + 8 * i ≡ 8 * i = omega arith in
    rows_more i 0 t ∙ ap (λ (q : ℕ). rows_from i 0 t ++ rows_from 1 q t) e

-- ---- a row put into a table
length-row : (r : Stretch) → length (row_bytes r) ≡ 8
unfolding row_bytes
length-row r = simp (length-append, length_digits)

row_back : (at : ℕ) (r : Stretch) (t : List ℕ) → at ≤ length t → Small r
    → rows_from 1 at (put at (row_bytes r) t) ≡ r ∷ []
unfolding join
row_back at r t h s =
    let b : List ℕ = row_bytes r in
    let rest : List ℕ = drop (at + length b) t in
    rows_back at (put at b t) (r ∷ []) rest
    (ap (drop at) (append_assoc (take at t) b rest) ∙ drop_at (take at t) (b ++ rest) at (length-take-le at t h)
    ∙ ap (λ (l : List ℕ). l ++ rest) (sym (append-nil b)))
    (s, tt)

-- ---- a span as rows, one or none
pub between-some : (a e : ℕ) → a < e → between a e ≡ stretch a (e - a) ∷ []
unfolding between
between-some a e h = rw (lt-ltb a e h)

pub between_none : (a e : ℕ) → e ≤ a → between a e ≡ []
unfolding between
between_none a e h = rw (le-ltb a e h)

pub none_left : {A : Type 0} (l : List A) → length l ≡ 0 → l ≡ []
none_left [] h = refl
none_left (x ∷ l) h = absurd (omega arith)

-- ---- a span pushed: none, or its row by two stores
pub push_none : (t : Rows) (s : Span) → s.to ≤ s.from → Pushed t s t
push_none t s h = record {
  most = omega arith;
  rows = rw (between_none s.from s.to h) (sym (append-nil (rows_of t)));
  rest = λ k p q. refl;
}

pub push_some : (t : Rows) (s : Span) (a b : List ℕ) → s.from < s.to → Fits32 s.to → 8 * t.count + 8 ≤ length t.bytes
    → a ≡ put (8 * t.count) (digits 4 s.from) t.bytes → b ≡ put (8 * t.count + 4) (digits 4 (s.to - s.from)) a
    → Pushed t s (record { bytes = b; count = t.count + 1 })
unfolding row_bytes
push_some t s a b h f l is-a is-b =
    let r : Stretch = stretch s.from (s.to - s.from) in
    let i : ℕ = t.count in
    let lr : length (row_bytes r) ≡ 8 = length-row r in
    let n : i + 1 ≡ suc i = omega arith in
    let e : 8 * i + 4 ≡ 8 * i + length (digits 4 s.from) = rw length_digits in
    let u : List ℕ = put (8 * i) (row_bytes r) t.bytes in
    let is : b ≡ u =
    is-b ∙ rw is-a (put-put (8 * i) (8 * i + 4) (digits 4 s.from) (digits 4 (s.to - s.from)) t.bytes (omega arith) e) in
    let new : rows_from 1 (8 * i) u ≡ r ∷ [] =
    row_back (8 * i) r t.bytes (omega arith) (record { start_fits = omega arith; count_fits = omega arith }) in
    rw is (record {
      most = omega arith;
      rows =
          ap (λ (m : ℕ). rows_from m 0 u) n ∙ rows_last i u
          ∙ ap₂ (λ (x y : List Stretch). x ++ y)
          (rows_before i 0 (8 * i) (row_bytes r) t.bytes (omega arith) (omega arith))
          (new ∙ sym (between-some s.from s.to h));
      rest = λ k p q. rows_behind k p (8 * i) (row_bytes r) t.bytes (omega arith) (omega (arith, lr));
    })
