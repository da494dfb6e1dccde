-- The loop that takes positions out of rows: what it has kept, what it holds back and what it has yet to read make the
-- whole. Assumes nothing.
use mathlib.Core.Path.{◌≡◌, refl, sym, ap, ap₂, subst, ◌∙◌}
use mathlib.Core.Bool.{Bool, true, false, cond}
use mathlib.Core.List.{List, [], ◌∷◌, ◌++◌, append_assoc, append-nil}
use Prim.Native.Nat.{ℕ, suc, ◌+◌, ◌*◌, ◌-◌, ◌≤◌, ◌<◌, min, max}
use native.Mathlib.Omega.{arith}
use lib.Dec.{ltb}
use borrow.Author.Tests.{ltb-true, ltb-false}
use Rattle.octets.specs.Facts.{Fits32}
use Rattle.stretches.specs.Stretches.{Stretch, end_of, between, below, above}
use Rattle.stretches.specs.List.{rows_from}
use Rattle.stretches.specs.Claims.{InPlace, Rising}
use Rattle.stretches.proofs.ShapeLaws.{none_below}
use Rattle.lists.specs.declared.rows.Span.{Span}
use Rattle.lists.specs.declared.rows.Rows.{Rows}
use Rattle.lists.specs.Spans.{span_at, chosen}
use Rattle.lists.specs.Tables.{rows_of, Pushed, Ready, Ordered}
use Rattle.lists.proofs.TableLaws.{row_at, rows_next, between_none, none_left}

-- ---- what the rows name outside of a up to e, row by row
unfoldable pub outside : ℕ → ℕ → List Stretch → List Stretch
outside a e [] = []
outside a e (r ∷ rs) = between r.start (min a (end_of r)) ++ (between (max e r.start) (end_of r) ++ outside a e rs)

pub outside_is : (a e low : ℕ) (rs : List Stretch) (n : ℕ) → a ≤ e → Rising low rs n
    → outside a e rs ≡ below a rs ++ above e rs
unfolding outside below above
outside_is a e low [] n g h = refl
outside_is a e low (r ∷ rs) n g h = go (ltb a (end_of r)) refl (outside_is a e (suc (end_of r)) rs n g h.1)
  where
    x : List Stretch
    x = between r.start (min a (end_of r))

    y : List Stretch
    y = between (max e r.start) (end_of r)

    go : (b : Bool) → ltb a (end_of r) ≡ b → outside a e rs ≡ below a rs ++ above e rs
        → x ++ (y ++ outside a e rs) ≡ (x ++ below a rs) ++ (y ++ above e rs)
    go true p ih =
        let k : a < end_of r = ltb-true a (end_of r) p in
        let z : below a rs ≡ [] =
        none_left (below a rs) (none_below a (suc (end_of r)) rs n h.1 (omega arith)) in
        rw (ih, z) (ap (λ (l : List Stretch). l ++ (y ++ above e rs)) (sym (append-nil x)))
    go false p ih =
        let k : end_of r ≤ a = ltb-false a (end_of r) p in
        let z : y ≡ [] = between_none (max e r.start) (end_of r) (omega arith) in
        rw (ih, z) (sym (append_assoc x (below a rs) (above e rs)))

-- ---- one of two spans: what it names where one is empty
chosen_is : (s u : Span) → (u.from < u.to → s.to ≤ s.from)
    → between (chosen s u).from (chosen s u).to ≡ between u.from u.to ++ between s.from s.to
unfolding chosen
chosen_is s u h = go (ltb s.from s.to) refl (ltb u.from u.to) refl
  where
    go : (b : Bool) → ltb s.from s.to ≡ b → (d : Bool) → ltb u.from u.to ≡ d
        → between (cond b s u).from (cond b s u).to ≡ between u.from u.to ++ between s.from s.to
    go true p true q = absurd (omega (arith, ltb-true s.from s.to p, h (ltb-true u.from u.to q)))
    go true p false q = rw (between_none u.from u.to (ltb-false u.from u.to q))
    go false p d q =
        rw (between_none s.from s.to (ltb-false s.from s.to p))
        (sym (append-nil (between u.from u.to)))

chosen-within : (s u : Span) (m : ℕ) → s.to ≤ m → u.to ≤ m → (chosen s u).to ≤ m
unfolding chosen
chosen-within s u m h k = go (ltb s.from s.to)
  where
    go : (b : Bool) → (cond b s u).to ≤ m
    go true = h
    go false = k

-- ---- the loop
-- Of the n rows that stood in bs i have been read, and those of t are kept. What is left of the last one above e is held
-- back; where that is not nothing, no row to come has anything below a.
pub record Taking (bs : List ℕ) (n a e : ℕ) (t : Rows) (i : ℕ) (held : Span) : Type 0 where
  pub size : ℕ
  pub low : ℕ
  pub fits : Fits32 size
  pub behind : t.count ≤ i
  pub inside : held.to ≤ size
  pub apart : held.from < held.to → a ≤ low
  pub rises : Rising low (rows_from (n - i) (8 * i) t.bytes) size
  pub whole : rows_of t ++ (between held.from held.to ++ outside a e (rows_from (n - i) (8 * i) t.bytes))
      ≡ below a (rows_from n 0 bs) ++ above e (rows_from n 0 bs)

pub taking_start : (t : Rows) (a e : ℕ) → Ordered t → a ≤ e
    → Taking t.bytes t.count a e (record { bytes = t.bytes; count = 0 }) 0 (record { from = 0; to = 0 })
unfolding rows_from
taking_start t a e o g =
    let d : Ready t o.size = o.ready in
    let k : t.count - 0 ≡ t.count = omega arith in
    let z : between 0 0 ≡ [] = between_none 0 0 (omega arith) in
    record {
      size = o.size;
      low = 0;
      fits = d.fits;
      behind = omega arith;
      inside = omega arith;
      apart = λ q. absurd (omega arith);
      rises = rw k d.rises;
      whole = rw (k, z) (outside_is a e 0 (rows_of t) o.size g d.rises);
    }

-- A turn: row i is read, l is where its part below a ends, v is what is pushed.
module _ (bs : List ℕ) (n a e : ℕ) (t : Rows) (i : ℕ) (held row : Span) (w : Taking bs n a e t i held)
    (g : a ≤ e) (more : i < n) (is : row ≡ span_at (8 * i) t.bytes) (l : ℕ)
    (el : l ≡ min a row.to) (v : Span) (ev : v ≡ chosen (record { from = row.from; to = l }) held) where
  r : Stretch
  r = row_at i t.bytes

  rest : List Stretch
  rest = rows_from (n - (i + 1)) (8 * (i + 1)) t.bytes

  next : rows_from (n - i) (8 * i) t.bytes ≡ r ∷ rest
  unfolding r rest
  next = rows_next n i t.bytes more

  placed : Rising w.low (r ∷ rest) w.size
  placed = rw next at w.rises

  from_is : row.from ≡ r.start
  unfolding r
  from_is = ap (λ (s : Span). s.from) is

  to_is : row.to ≡ end_of r
  unfolding r
  to_is = ap (λ (s : Span). s.to) is

  turn_inside : v.to ≤ w.size
  turn_inside =
      let f : InPlace w.low r w.size = placed.0 in
      let k : l ≤ w.size = omega (arith, f, to_is, el) in
      subst (λ (s : Span). s.to ≤ w.size) (sym ev)
      (chosen-within (record { from = row.from; to = l }) held w.size k w.inside)

  -- what `push` asks
  pub turn_asks : Fits32 v.to
  turn_asks = omega (arith, turn_inside, w.fits)

  pub taking_turn : (m : ℕ) → m ≡ max e row.from → (u : Rows) → Pushed t v u
      → Taking bs n a e u (i + 1) (record { from = m; to = row.to })
  unfolding outside rest
  taking_turn m em u p =
      let f : InPlace w.low r w.size = placed.0 in
      let same : rows_from (n - (i + 1)) (8 * (i + 1)) u.bytes ≡ rest =
      p.rest (n - (i + 1)) (8 * (i + 1)) (omega (arith, w.behind)) in
      let b : List Stretch = rows_of t in
      let h : List Stretch = between held.from held.to in
      let x : List Stretch = between row.from l in
      let o : List Stretch = between m row.to ++ outside a e rest in
      let one : between v.from v.to ≡ h ++ x =
      ap (λ (s : Span). between s.from s.to) ev
      ∙ chosen_is (record { from = row.from; to = l }) held (λ q. omega (arith, w.apart q, f, from_is, el)) in
      let kept : rows_of u ≡ b ++ (h ++ x) = p.rows ∙ ap (λ (z : List Stretch). b ++ z) one in
      let left : x ++ o ≡ outside a e (rows_from (n - i) (8 * i) t.bytes) =
      ap₂ (λ (z y : List Stretch). z ++ (y ++ outside a e rest)) (ap₂ between from_is (el ∙ ap (min a) to_is))
      (ap₂ between (em ∙ ap (max e) from_is) to_is)
      ∙ sym (ap (outside a e) next) in
      record {
        size = w.size;
        low = suc (end_of r);
        fits = w.fits;
        behind = omega (arith, p.most, w.behind);
        inside = omega (arith, f, to_is);
        apart = λ q. omega (arith, q, to_is);
        rises = rw same placed.1;
        whole =
            rw (same, kept)
            (append_assoc b (h ++ x) o
            ∙ ap (λ (z : List Stretch). b ++ z) (append_assoc h x o ∙ ap (λ (z : List Stretch). h ++ z) left)
            ∙ w.whole);
      }

-- the end: all rows have been read, and what is held back is pushed
pub taking_end : (bs : List ℕ) (n a e : ℕ) (t : Rows) (i : ℕ) (held : Span) → Taking bs n a e t i held → n ≤ i
    → (u : Rows) → Pushed t held u → rows_of u ≡ below a (rows_from n 0 bs) ++ above e (rows_from n 0 bs)
unfolding outside rows_from
taking_end bs n a e t i held w h u p =
    let z : n - i ≡ 0 = omega arith in
    let b : List Stretch = between held.from held.to in
    p.rows ∙ ap (λ (v : List Stretch). rows_of t ++ v) (sym (append-nil b)
    ∙ ap (λ (j : ℕ). b ++ outside a e (rows_from j (8 * i) t.bytes)) (sym z)) ∙ w.whole
