-- Behind the end of the last gap the writes cover every byte that they add, so what stands there before them does not
-- matter. Assumes nothing.
use mathlib.Core.Path.{◌≡◌, refl, sym, ap, ◌∙◌}
use mathlib.Core.Bool.{Bool, true, false, cond}
use mathlib.Core.List.{List, [], ◌∷◌, map}
use Prim.Native.Nat.{ℕ, zero, suc, ◌+◌, ◌≤◌, ◌<◌, max}
use native.Mathlib.Omega.{arith}
use lib.ListN.{length, get_or}
use lib.Seq.{ext_get_or}
use lib.Dec.{ltb}
use borrow.Author.Tests.{ltb-true, ltb-false}
use Rattle.rules.specs.Writing.{Placed, grow, write_all}
use Rattle.rules.specs.Changes.{covers}
use Rattle.rules.specs.Sizes.{size_all, clip, resize}
use Rattle.rules.proofs.WriteLaws.{covers-mid, over, over_all, length-write_all, at_write_all, size_clipped, over_clipped}
use Rattle.rules.proofs.WriteLaws.{length-resize, at_resize}
use Rattle.writes.specs.Sizes.{gap_end, last_gap}

-- ---- one write
pub gap_some : (b n at k : ℕ) → (k ≡ 0 → ⊥) → gap_end b n at k ≡ cond (ltb n at) at b
unfolding gap_end
gap_some b n at zero h = absurd (h refl)
gap_some b n at (suc k) h = refl

pub gap_none : (b n at k : ℕ) → k ≡ 0 → gap_end b n at k ≡ b
unfolding gap_end
gap_none b n at zero h = refl
gap_none b n at (suc k) h = absurd (omega arith)

-- The end of the last gap only rises, and lies inside the data.
gap_rises : (b n at k : ℕ) → b ≤ n → (b ≤ gap_end b n at k) × (gap_end b n at k ≤ grow n at k)
unfolding gap_end grow
gap_rises b n at zero h = (omega arith, h)
gap_rises b n at (suc k) h = go (ltb n at) refl
  where
    go : (x : Bool) → ltb n at ≡ x → (b ≤ cond x at b) × (cond x at b ≤ max n (at + suc k))
    go true e = let l = ltb-true n at e in (omega arith, omega arith)
    go false e = (omega arith, omega arith)

-- A byte that it adds behind the gap is one that it covers.
added_covered : (b n at k i : ℕ) → n ≤ i → gap_end b n at k ≤ i → i < grow n at k → covers at k i ≡ true
unfolding gap_end grow
added_covered b n at zero i h g l = absurd (omega arith)
added_covered b n at (suc k) i h g l = go (ltb n at) refl g
  where
    go : (x : Bool) → ltb n at ≡ x → cond x at b ≤ i → covers at (suc k) i ≡ true
    go true e m = covers-mid at (suc k) i m (omega arith)
    go false e m = covers-mid at (suc k) i (omega (arith, ltb-false n at e)) (omega arith)

over_covered : (w : Placed) (i u v : ℕ) → covers w.at (length w.bytes) i ≡ true → over w i u ≡ over w i v
unfolding over
over_covered w i u v e = rw e

-- ---- all writes
pub last_rises : (ws : List Placed) (n b : ℕ) → b ≤ n → b ≤ last_gap ws n b
unfolding last_gap
last_rises [] n b h = omega arith
last_rises (w ∷ ws) n b h =
    let g = gap_rises b n w.at (length w.bytes) h in
    omega (arith, g.0, last_rises ws _ _ g.1)

all_covered : (ws : List Placed) (n b i u v : ℕ) → b ≤ n → n ≤ i → last_gap ws n b ≤ i → i < size_all ws n
    → over_all ws i u ≡ over_all ws i v
unfolding last_gap size_all over_all
all_covered [] n b i u v k h g l = absurd (omega arith)
all_covered (w ∷ ws) n b i u v k h g l =
    go (λ m. all_covered ws next gap i (over w i u) (over w i v) rises.1 m g l) (ltb i next) refl
  where
    next : ℕ
    next = grow n w.at (length w.bytes)

    gap : ℕ
    gap = gap_end b n w.at (length w.bytes)

    rises : (b ≤ gap) × (gap ≤ next)
    rises = gap_rises b n w.at (length w.bytes) k

    behind : gap ≤ i
    behind = omega (arith, last_rises ws next gap rises.1, g)

    go : (next ≤ i → over_all ws i (over w i u) ≡ over_all ws i (over w i v)) → (x : Bool) → ltb i next ≡ x
        → over_all ws i (over w i u) ≡ over_all ws i (over w i v)
    go later true e =
        ap (over_all ws i)
        (over_covered w i u v (added_covered b n w.at (length w.bytes) i h behind (ltb-true i next e)))
    go later false e = later (ltb-false i next e)

-- Data of the final size with the old bytes, and zeros behind them, up to the last gap's end becomes by the writes what
-- old data brought to that size becomes.
pub filled : (ws : List Placed) (n F : ℕ) (a d : List ℕ) → length a ≡ F → F ≤ size_all ws n
    → ((i : ℕ) → i < last_gap ws n n → i < F → get_or a i 0 ≡ get_or d i 0)
    → write_all (map (clip F) ws) a ≡ write_all (map (clip F) ws) (resize F d)
filled ws n F a d la h e = ext_get_or 0 _ _ (sized a la ∙ sym (sized (resize F d) (length-resize F d))) at
  where
    sized : (x : List ℕ) → length x ≡ F → length (write_all (map (clip F) ws) x) ≡ F
    sized x l = length-write_all (map (clip F) ws) x ∙ rw l (size_clipped F ws)

    by : (x : List ℕ) (i : ℕ) → i < F → get_or (write_all (map (clip F) ws) x) i 0 ≡ over_all ws i (get_or x i 0)
    by x i l = at_write_all (map (clip F) ws) x i ∙ over_clipped F ws i (get_or x i 0) l

    same : (i : ℕ) → i < F → (b : Bool) → ltb i (last_gap ws n n) ≡ b
        → over_all ws i (get_or a i 0) ≡ over_all ws i (get_or (resize F d) i 0)
    same i l true p = ap (over_all ws i) (e i (ltb-true _ _ p) l ∙ sym (at_resize F d i l))
    same i l false p =
        let g = ltb-false _ _ p in
        all_covered ws n n i _ _ (omega arith) (omega (arith, last_rises ws n n (omega arith))) g (omega arith)

    at : (i : ℕ) → i < length (write_all (map (clip F) ws) a)
        → get_or (write_all (map (clip F) ws) a) i 0 ≡ get_or (write_all (map (clip F) ws) (resize F d)) i 0
    at i lt =
        let l : i < F = omega (arith, sized a la) in
        by a i l ∙ same i l (ltb i (last_gap ws n n)) refl ∙ sym (by (resize F d) i l)
