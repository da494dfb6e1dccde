-- A gap added to rows in order, a write behind the size or inside it, a cut. Assumes nothing.
use mathlib.Core.Path.{◌≡◌, refl, sym, ap, ◌∙◌}
use mathlib.Core.List.{List, [], ◌∷◌, ◌++◌, append-nil}
use Prim.Native.Nat.{ℕ, zero, suc, ◌+◌, ◌*◌, ◌-◌, ◌≤◌, ◌<◌, min}
use native.Mathlib.Omega.{arith}
use borrow.Author.Tests.{lt-ltb, le-ltb, eq-eqb, ne_eqb}
use Rattle.stretches.specs.Stretches.{Stretch, stretch, end_of, below, above, joined, gapped, written_over}
use Rattle.stretches.specs.List.{rows_from}
use Rattle.stretches.specs.Claims.{InPlace, Rising}
use Rattle.stretches.proofs.ShapeLaws.{rising-joined, none_above}
use Rattle.lists.specs.declared.rows.Span.{Span}
use Rattle.lists.specs.declared.rows.Rows.{Rows}
use Rattle.lists.specs.Spans.{span_at}
use Rattle.lists.specs.Tables.{rows_of, Pushed, Ready}
use Rattle.lists.proofs.TableLaws.{row_at, rows_last, between-some, none_left}

-- ---- the gap goes into the last row if that ends at the size, and behind it if not
before_last : (low : ℕ) (rs : List Stretch) (r : Stretch) (n : ℕ) → Rising low (rs ++ (r ∷ [])) n → low < n
before_last low [] r n h = let f : InPlace low r n = h.0 in omega arith
before_last low (s ∷ rs) r n h = let f : InPlace low s n = h.0 in omega arith

joined-touch : (n e low : ℕ) (rs : List Stretch) (r : Stretch) → Rising low (rs ++ (r ∷ [])) n → end_of r ≡ n
    → joined n e (rs ++ (r ∷ [])) ≡ rs ++ (stretch r.start (e - r.start) ∷ [])
unfolding joined
joined-touch n e low [] r h t = rw (eq-eqb (end_of r) n t)
joined-touch n e low (s ∷ rs) r h t =
    let k : suc (end_of s) < n = before_last (suc (end_of s)) rs r n h.1 in
    rw (ne_eqb (end_of s) n (λ q. omega arith))
    (ap (λ (l : List Stretch). s ∷ l) (joined-touch n e (suc (end_of s)) rs r h.1 t))

joined_apart : (n e low : ℕ) (rs : List Stretch) (r : Stretch) → Rising low (rs ++ (r ∷ [])) n → (end_of r ≡ n → ⊥)
    → joined n e (rs ++ (r ∷ [])) ≡ (rs ++ (r ∷ [])) ++ (stretch n (e - n) ∷ [])
unfolding joined
joined_apart n e low [] r h t = rw (ne_eqb (end_of r) n t)
joined_apart n e low (s ∷ rs) r h t =
    let k : suc (end_of s) < n = before_last (suc (end_of s)) rs r n h.1 in
    rw (ne_eqb (end_of s) n (λ q. omega arith))
    (ap (λ (l : List Stretch). s ∷ l) (joined_apart n e (suc (end_of s)) rs r h.1 t))

module _ (t : Rows) (size at : ℕ) (d : Ready t size) (g : size < at) where
  pub gap_alone : t.count ≡ 0 → (u : Rows) → Pushed t (record { from = size; to = at }) u
      → rows_of u ≡ joined size at (rows_of t)
  unfolding joined rows_from
  gap_alone z u p = p.rows ∙ rw (z, between-some size at g)

  module _ (i : ℕ) (last : Span) (e : suc i ≡ t.count) (is : last ≡ span_at (8 * i) t.bytes) where
    r : Stretch
    r = row_at i t.bytes

    split : rows_of t ≡ rows_from i 0 t.bytes ++ (r ∷ [])
    unfolding rows_from r
    split = ap (λ (k : ℕ). rows_from k 0 t.bytes) (sym e) ∙ rows_last i t.bytes

    rises : Rising 0 (rows_from i 0 t.bytes ++ (r ∷ [])) size
    rises = rw split at d.rises

    from_is : last.from ≡ r.start
    unfolding r
    from_is = ap (λ (s : Span). s.from) is

    to_is : last.to ≡ end_of r
    unfolding r
    to_is = ap (λ (s : Span). s.to) is

    pub gap_touch : last.to ≡ size → (u : Rows)
        → Pushed (record { bytes = t.bytes; count = i }) (record { from = last.from; to = at }) u
        → rows_of u ≡ joined size at (rows_of t)
    gap_touch h u p =
        let q : last.from < at = omega (arith, from_is, to_is) in
        p.rows ∙ rw (between-some last.from at q, from_is, split)
        (sym (joined-touch size at 0 (rows_from i 0 t.bytes) r rises (sym to_is ∙ h)))

    pub gap_apart : (last.to ≡ size → ⊥) → (u : Rows) → Pushed t (record { from = size; to = at }) u
        → rows_of u ≡ joined size at (rows_of t)
    gap_apart h u p =
        p.rows ∙ rw (between-some size at g, split)
        (sym (joined_apart size at 0 (rows_from i 0 t.bytes) r rises (λ q. h (to_is ∙ q))))

-- ---- rows that end before a position: all is below it, nothing above
below_all : (m low : ℕ) (rs : List Stretch) (n : ℕ) → Rising low rs n → n ≤ m → below m rs ≡ rs
unfolding below
below_all m low [] n h g = refl
below_all m low (r ∷ rs) n h g =
    let f : InPlace low r n = h.0 in
    let e : min m (end_of r) ≡ end_of r = omega arith in
    let c : end_of r - r.start ≡ r.count = omega arith in
    rw (e, between-some r.start (end_of r) (omega arith), c)
    (ap (λ (l : List Stretch). r ∷ l) (below_all m (suc (end_of r)) rs n h.1 g))

above-none : (m low : ℕ) (rs : List Stretch) (n : ℕ) → Rising low rs n → n ≤ m → above m rs ≡ []
above-none m low rs n h g = none_left (above m rs) (none_above m low rs n h g)

-- ---- a write: behind the size it takes nothing out, inside it leaves no gap
pub written_none : (n at k : ℕ) (rs : List Stretch) → k ≡ 0 → written_over n at k rs ≡ rs
unfolding written_over
written_none n at k rs e = rw e

written_some : (n at k : ℕ) (rs : List Stretch) → 0 < k
    → written_over n at k rs ≡ below at (gapped n at rs) ++ above (at + k) (gapped n at rs)
unfolding written_over
written_some n at zero rs h = absurd (omega arith)
written_some n at (suc k) rs h = refl

pub written_behind : (n at k : ℕ) (rs : List Stretch) → Rising 0 rs n → 0 < k → n < at
    → written_over n at k rs ≡ joined n at rs
unfolding gapped
written_behind n at k rs h p g =
    let q : List Stretch = joined n at rs in
    let j : Rising 0 q at = rising-joined n at 0 rs g (omega arith) h in
    written_some n at k rs p
    ∙ rw (lt-ltb n at g, below_all at 0 q at j (omega arith), above-none (at + k) 0 q at j (omega arith)) (append-nil q)

pub written_inside : (n at k : ℕ) (rs : List Stretch) → 0 < k → at ≤ n
    → written_over n at k rs ≡ below at rs ++ above (at + k) rs
unfolding gapped
written_inside n at k rs p g = written_some n at k rs p ∙ rw (le-ltb n at g)

-- ---- a cut
pub cut_is : (m e low : ℕ) (rs : List Stretch) (n : ℕ) → Rising low rs n → n ≤ e → below m rs ++ above e rs ≡ below m rs
cut_is m e low rs n h g = rw (above-none e low rs n h g) (append-nil (below m rs))
