-- Writes in order and then the cut, by length and by position. Assumes nothing.
use mathlib.Core.Path.{◌≡◌, refl, sym, ap, ◌∙◌}
use mathlib.Core.Bool.{Bool, true, false, cond}
use mathlib.Core.List.{List, [], ◌∷◌, ◌++◌, map}
use mathlib.Core.Option.{Option, none, some}
use Prim.Native.Nat.{ℕ, zero, suc, ◌+◌, ◌-◌, ◌≤◌, ◌<◌, min, max}
use native.Mathlib.Omega.{arith}
use lib.ListN.{length, get_or, take, drop, replicate, length-append, length-take, length-drop, length-replicate}
use lib.ListN.{get_or-append}
use lib.Seq.{get_or-take, get_or-drop, ext_get_or, take_all}
use lib.Dec.{ltb}
use borrow.Author.Tests.{ltb-true, ltb-false, lt-ltb, le-ltb, le-leb, lt-leb}
use Rattle.octets.proofs.ListLaws.{at_past, at_rep, at_app_right, take_min}
use Rattle.rules.specs.Writing.{pad_to, write_at, grow, Placed, write_all, cut_to}
use Rattle.rules.specs.Changes.{covers}
use Rattle.rules.specs.Sizes.{size_all, cut_size, clip, resize}

-- ---- padded data, by position and by length
pub at_pad : (d : List ℕ) (n i : ℕ) → get_or (pad_to d n) i 0 ≡ get_or d i 0
unfolding pad_to
at_pad d n i = go (ltb i (length d)) refl
  where
    go : (b : Bool) → ltb i (length d) ≡ b → get_or (d ++ replicate (n - length d) 0) i 0 ≡ get_or d i 0
    go true e = get_or-append d (replicate (n - length d) 0) 0 i (ltb-true i (length d) e)
    go false e = at_app_right d (replicate (n - length d) 0) i (ltb-false i (length d) e)
        ∙ at_rep (n - length d) (i - length d) ∙ sym (at_past d i (ltb-false i (length d) e))

pub length-pad_to : (d : List ℕ) (n : ℕ) → length (pad_to d n) ≡ max (length d) n
unfolding pad_to
length-pad_to d n = simp (length-append, length-replicate) (omega arith)

-- ---- a write, by length and by position
pub length-write : (d : List ℕ) (off : ℕ) (bs : List ℕ) → length (write_at d off bs) ≡ grow (length d) off (length bs)
unfolding write_at grow
length-write d off [] = refl
length-write d off (b ∷ bs) = simp (length-append, length-take, length-drop, length-pad_to) (omega arith)

-- where a position stands relative to a write of k bytes at off
pub data Spot (off k i : ℕ) : Type 0 where
  low : i < off → Spot off k i
  mid : off ≤ i → i < off + k → Spot off k i
  high : off + k ≤ i → Spot off k i

pub spot : (off k i : ℕ) → Spot off k i
spot off k i = go (ltb i off) refl (ltb i (off + k)) refl
  where
    go : (b : Bool) → ltb i off ≡ b → (c : Bool) → ltb i (off + k) ≡ c → Spot off k i
    go true e c f = low (ltb-true i off e)
    go false e true f = mid (ltb-false i off e) (ltb-true i (off + k) f)
    go false e false f = high (ltb-false i (off + k) f)

pub covers_low : (off k i : ℕ) → i < off → covers off k i ≡ false
unfolding covers
covers_low off k i h = rw (lt-leb off i h)

pub covers-mid : (off k i : ℕ) → off ≤ i → i < off + k → covers off k i ≡ true
unfolding covers
covers-mid off k i h g = rw (le-leb off i h, lt-ltb i (off + k) g)

pub covers_high : (off k i : ℕ) → off + k ≤ i → covers off k i ≡ false
unfolding covers
covers_high off k i h = rw (le-leb off i (omega arith), le-ltb i (off + k) h)

pub at_write : (d : List ℕ) (off : ℕ) (bs : List ℕ) (i : ℕ) → get_or (write_at d off bs) i 0
    ≡ cond (covers off (length bs) i) (get_or bs (i - off) 0) (get_or d i 0)
unfolding write_at
at_write d off [] i = go (spot off 0 i)
  where
    go : Spot off 0 i → get_or d i 0 ≡ cond (covers off 0 i) 0 (get_or d i 0)
    go (low h) = rw (covers_low off 0 i h)
    go (mid h g) = absurd (omega arith)
    go (high h) = rw (covers_high off 0 i h)
at_write d off (b ∷ bs) i = go (spot off (suc (length bs)) i)
  where
    front : List ℕ
    front = take off (pad_to d off)

    both : List ℕ
    both = front ++ (b ∷ bs)

    lf : length front ≡ off
    lf = simp (length-take, length-pad_to) (omega arith)

    lb : length both ≡ off + suc (length bs)
    lb = length-append front (b ∷ bs) ∙ omega (arith, lf)

    go : Spot off (suc (length bs)) i → get_or (both ++ drop (off + suc (length bs)) d) i 0
        ≡ cond (covers off (suc (length bs)) i) (get_or (b ∷ bs) (i - off) 0) (get_or d i 0)
    go (low h) = rw (covers_low off (suc (length bs)) i h) (get_or-append both _ 0 i (omega (arith, lb))
        ∙ get_or-append front _ 0 i (omega (arith, lf)) ∙ get_or-take off (pad_to d off) i 0 h ∙ at_pad d off i)
    go (mid h g) = rw (covers-mid off (suc (length bs)) i h g) (get_or-append both _ 0 i (omega (arith, lb))
        ∙ at_app_right front (b ∷ bs) i (omega (arith, lf)) ∙ rw lf refl)
    go (high h) = rw (covers_high off (suc (length bs)) i h) (at_app_right both _ i (omega (arith, lb))
        ∙ get_or-drop (off + suc (length bs)) d (i - length both) 0 ∙ ap (λ (k : ℕ). get_or d k 0) (omega (arith, lb)))

unfoldable pub over : Placed → ℕ → ℕ → ℕ
over w i v = cond (covers w.at (length w.bytes) i) (get_or w.bytes (i - w.at) 0) v

unfoldable pub over_all : List Placed → ℕ → ℕ → ℕ
over_all [] i v = v
over_all (w ∷ ws) i v = over_all ws i (over w i v)

-- ---- by length and by position
pub length-write_all : (ws : List Placed) (d : List ℕ) → length (write_all ws d) ≡ size_all ws (length d)
unfolding write_all size_all
length-write_all [] d = refl
length-write_all (w ∷ ws) d = length-write_all ws (write_at d w.at w.bytes) ∙ rw length-write

pub at_write_all : (ws : List Placed) (d : List ℕ) (i : ℕ) → get_or (write_all ws d) i 0 ≡ over_all ws i (get_or d i 0)
unfolding write_all over_all over
at_write_all [] d i = refl
at_write_all (w ∷ ws) d i = at_write_all ws (write_at d w.at w.bytes) i ∙ rw at_write

pub length-cut_to : (c : Option ℕ) (d : List ℕ) → length (cut_to c d) ≡ cut_size c (length d)
unfolding cut_to cut_size
length-cut_to none d = refl
length-cut_to (some n) d = length-take n d

pub at_cut_to : (c : Option ℕ) (d : List ℕ) (i : ℕ) → i < length (cut_to c d) → get_or (cut_to c d) i 0 ≡ get_or d i 0
unfolding cut_to
at_cut_to none d i h = refl
at_cut_to (some n) d i h = get_or-take n d i 0 (omega (arith, length-take n d))

-- ---- clipped writes
grow_small : (n off k : ℕ) → k ≤ n - off → grow n off k ≡ n
unfolding grow
grow_small n off zero h = refl
grow_small n off (suc k) h = omega arith

pub size_clipped : (F : ℕ) (ws : List Placed) → size_all (map (clip F) ws) F ≡ F
unfolding size_all clip
size_clipped F [] = refl
size_clipped F (w ∷ ws) = ap (size_all (map (clip F) ws)) (grow_small F w.at (length (take (F - w.at) w.bytes))
    (simp length-take (omega arith))) ∙ size_clipped F ws

over-clip : (F : ℕ) (w : Placed) (i v : ℕ) → i < F → over (clip F w) i v ≡ over w i v
unfolding over clip
over-clip F w i v lt = go (spot w.at (length w.bytes) i)
  where
    o : ℕ
    o = w.at

    n : ℕ
    n = length w.bytes

    k : ℕ
    k = length (take (F - w.at) w.bytes)

    lk : k ≡ min (F - o) n
    lk = length-take (F - w.at) w.bytes

    go : Spot o n i → cond (covers o k i) (get_or (take (F - o) w.bytes) (i - o) 0) v
        ≡ cond (covers o n i) (get_or w.bytes (i - o) 0) v
    go (low h) = rw (covers_low o n i h, covers_low o k i h)
    go (mid h g) = rw (covers-mid o n i h g, covers-mid o k i h (omega (arith, lk)))
        (get_or-take (F - o) w.bytes (i - o) 0 (omega arith))
    go (high h) = rw (covers_high o n i h, covers_high o k i (omega (arith, lk)))

pub over_clipped : (F : ℕ) (ws : List Placed) (i v : ℕ) → i < F → over_all (map (clip F) ws) i v ≡ over_all ws i v
unfolding over_all
over_clipped F [] i v h = refl
over_clipped F (w ∷ ws) i v h = over_clipped F ws i (over (clip F w) i v) h ∙ rw over-clip

pub length-resize : (F : ℕ) (d : List ℕ) → length (resize F d) ≡ F
unfolding resize
length-resize F d = simp (length-take, length-pad_to) (omega arith)

pub at_resize : (F : ℕ) (d : List ℕ) (i : ℕ) → i < F → get_or (resize F d) i 0 ≡ get_or d i 0
unfolding resize
at_resize F d i h = get_or-take F (pad_to d F) i 0 h ∙ at_pad d F i

pub take_writes : (F : ℕ) (ws : List Placed) (d : List ℕ) → F ≤ size_all ws (length d) → take F (write_all ws d)
    ≡ write_all (map (clip F) ws) (resize F d)
take_writes F ws d h = ext_get_or 0 (take F (write_all ws d)) (write_all (map (clip F) ws) (resize F d)) (ll ∙ sym lr) at
  where
    ll : length (take F (write_all ws d)) ≡ F
    ll = simp (length-take, length-write_all) (omega arith)

    lr : length (write_all (map (clip F) ws) (resize F d)) ≡ F
    lr = simp (length-write_all, length-resize, size_clipped)

    at : (i : ℕ) → i < length (take F (write_all ws d)) → get_or (take F (write_all ws d)) i 0
        ≡ get_or (write_all (map (clip F) ws) (resize F d)) i 0
    at i lt =
        let g : i < F = omega (arith, ll) in
        get_or-take F (write_all ws d) i 0 g ∙ at_write_all ws d i ∙ sym (at_write_all (map (clip F) ws) (resize F d) i
        ∙ over_clipped F ws i (get_or (resize F d) i 0) g ∙ ap (over_all ws i) (at_resize F d i g))

-- THE LAW: writes in order and then the cut are the clipped writes over old data brought to the final size
pub no_gap : (ws : List Placed) (c : Option ℕ) (d : List ℕ) →
    cut_to c (write_all ws d)
    ≡ write_all (map (clip (cut_size c (size_all ws (length d)))) ws) (resize (cut_size c (size_all ws (length d))) d)
unfolding cut_to cut_size
no_gap ws none d = sym (take_all (size_all ws (length d)) (write_all ws d) (omega (arith, length-write_all ws d)))
    ∙ take_writes (size_all ws (length d)) ws d (omega arith)
no_gap ws (some n) d = take_min n (write_all ws d)
    ∙ rw length-write_all (take_writes (min n (size_all ws (length d))) ws d (omega arith))
