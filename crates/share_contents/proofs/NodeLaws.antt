-- The hash chain's node numbers, one after the other, and the depth of a tree. Assumes nothing.
use mathlib.Core.Path.{◌≡◌, refl, sym, ap}
use mathlib.Core.Bool.{Bool, true, false, cond, not, ◌&&◌, false≢true}
use mathlib.Core.List.{List, [], ◌∷◌}
use Prim.Native.Nat.{ℕ, zero, suc, ◌+◌, ◌*◌, ◌-◌, ◌≤◌, ◌<◌}
use native.Mathlib.Nat.{not-suc-le-zero, zero-add}
use native.Mathlib.Numerals.{add-one}
use native.Mathlib.Omega.{arith}
use lib.Dec.{eqb, leb, ltb}
use borrow.Author.Tests.{leb-true, leb-false, ltb-true, eqb-false, not-true, eq-eqb, ne_eqb, lt-ltb, le-ltb}
use borrow.Author.Tests.{le-leb, lt-leb}
use Rattle.octets.specs.Numbers.{number_at}
use Rattle.share_contents.specs.Nodes.{depth_from, depth, power, chain_entry_size, nodes_from, nodes_ok}
use Rattle.share_contents.specs.Claims.{DepthIsLeast}
use Rattle.octets.specs.Facts.{Each, Distinct}
use Rattle.octets.specs.Lists.{any_of}
use Rattle.octets.proofs.ListLaws.{both}

-- ---- node numbers
nodes-none : (n p : ℕ) (s : List ℕ) → n ≤ 0 → nodes_from n p s ≡ []
unfolding nodes_from
nodes-none zero p s h = refl
nodes-none (suc n) p s h = absurd (not-suc-le-zero h)

nodes-some : (n p : ℕ) (s : List ℕ) → 0 < n
    → nodes_from n p s ≡ number_at 2 p s ∷ nodes_from (n - 1) (p + chain_entry_size) s
unfolding nodes_from
nodes-some zero p s h = absurd (not-suc-le-zero h)
nodes-some (suc n) p s h =
    let k : suc n - 1 ≡ n = omega arith in
    rw k

-- All of them are left, and those that are left after one.
pub all_nodes : (n p : ℕ) (s : List ℕ) → nodes_from (n - 0) (p + chain_entry_size * 0) s ≡ nodes_from n p s
all_nodes n p s =
    let k : n - 0 ≡ n = omega arith in
    let l : p + chain_entry_size * 0 ≡ p = omega arith in
    rw (k, l)

pub next_nodes : (n p i : ℕ) (s : List ℕ)
    → nodes_from (n - i - 1) (p + chain_entry_size * i + chain_entry_size) s
    ≡ nodes_from (n - (i + 1)) (p + chain_entry_size * (i + 1)) s
next_nodes n p i s =
    let k : n - i - 1 ≡ n - (i + 1) = omega arith in
    let l : p + chain_entry_size * i + chain_entry_size ≡ p + chain_entry_size * (i + 1) = omega arith in
    rw (k, l)

pub occurs_hit : (x n p : ℕ) (s : List ℕ) → 0 < n → x ≡ number_at 2 p s → any_of (eqb x) (nodes_from n p s) ≡ true
unfolding any_of
occurs_hit x n p s h e = rw (nodes-some n p s h, eq-eqb _ _ e)

pub occurs_miss : (x n p : ℕ) (s : List ℕ) → 0 < n → (x ≡ number_at 2 p s → ⊥)
    → any_of (eqb x) (nodes_from n p s)
    ≡ any_of (eqb x) (nodes_from (n - 1) (p + chain_entry_size) s)
unfolding any_of
occurs_miss x n p s h e = rw (nodes-some n p s h, ne_eqb _ _ e)

pub occurs_none : (x n p : ℕ) (s : List ℕ) → n ≤ 0 → any_of (eqb x) (nodes_from n p s) ≡ false
unfolding any_of
occurs_none x n p s h = rw (nodes-none n p s h)

-- The first of the node numbers, read as x, decides or leaves it to the others.
pub nodes-high : (top x n p : ℕ) (s : List ℕ) → 0 < n → x ≡ number_at 2 p s → top ≤ x
    → nodes_ok top (nodes_from n p s) ≡ false
unfolding nodes_ok
nodes-high top x n p s h e k = rw (nodes-some n p s h, ← e, le-ltb _ _ k)

pub nodes_again : (top x n p : ℕ) (s : List ℕ) → 0 < n → x ≡ number_at 2 p s → x < top
    → any_of (eqb x) (nodes_from (n - 1) (p + chain_entry_size) s) ≡ true
    → nodes_ok top (nodes_from n p s) ≡ false
unfolding nodes_ok
nodes_again top x n p s h e k o = rw (nodes-some n p s h, ← e, lt-ltb _ _ k, o)

pub nodes_more : (top x n p : ℕ) (s : List ℕ) → 0 < n → x ≡ number_at 2 p s → x < top
    → any_of (eqb x) (nodes_from (n - 1) (p + chain_entry_size) s) ≡ false
    → nodes_ok top (nodes_from n p s) ≡ nodes_ok top (nodes_from (n - 1) (p + chain_entry_size) s)
unfolding nodes_ok
nodes_more top x n p s h e k o = rw (nodes-some n p s h, ← e, lt-ltb _ _ k, o)

pub nodes-end : (top n p : ℕ) (s : List ℕ) → n ≤ 0 → nodes_ok top (nodes_from n p s) ≡ true
unfolding nodes_ok
nodes-end top n p s h = rw (nodes-none n p s h)

-- The test as facts: each is below `top`, and none comes again.
none_again : (x : ℕ) (xs : List ℕ) → any_of (eqb x) xs ≡ false → Each (λ y. x ≡ y → ⊥) xs
unfolding any_of
none_again x [] e = tt
none_again x (y ∷ xs) e = go (eqb x y) refl e (none_again x xs)
  where
    go : (t : Bool) → eqb x y ≡ t → cond t true (any_of (eqb x) xs) ≡ false
        → (any_of (eqb x) xs ≡ false → Each (λ z. x ≡ z → ⊥) xs) → Each (λ z. x ≡ z → ⊥) (y ∷ xs)
    go true h k ih = absurd (false≢true (sym k))
    go false h k ih = (eqb-false x y h, ih k)

again_none : (x : ℕ) (xs : List ℕ) → Each (λ y. x ≡ y → ⊥) xs → any_of (eqb x) xs ≡ false
unfolding any_of
again_none x [] h = refl
again_none x (y ∷ xs) h = rw (ne_eqb x y h.0) (again_none x xs h.1)

pub nodes_facts : (top : ℕ) (xs : List ℕ) → nodes_ok top xs ≡ true → Each (λ v. v < top) xs × Distinct xs
unfolding nodes_ok
nodes_facts top [] e = (tt, tt)
nodes_facts top (x ∷ xs) e =
    let a = both (ltb x top) (not (any_of (eqb x) xs) && nodes_ok top xs) e in
    let b = both (not (any_of (eqb x) xs)) (nodes_ok top xs) a.1 in
    let f = nodes_facts top xs b.1 in
    ((ltb-true x top a.0, f.0), (none_again x xs (not-true _ b.0), f.1))

pub nodes-true : (top : ℕ) (xs : List ℕ) → Each (λ v. v < top) xs → Distinct xs → nodes_ok top xs ≡ true
unfolding nodes_ok
nodes-true top [] h d = refl
nodes-true top (x ∷ xs) h d = rw (lt-ltb x top h.0, again_none x xs d.0) (nodes-true top xs h.1 d.1)

-- ---- the depth of a tree
pub power_next : (c : ℕ) → power (c + 1) ≡ 2 * power c
unfolding power
power_next c = ap power (add-one c)

one : power 0 ≡ 1
unfolding power
one = refl

power-suc : (c : ℕ) → power (suc c) ≡ 2 * power c
unfolding power
power-suc c = refl

above_other : (c d : ℕ) → c ≤ d → (c ≡ d → ⊥) → suc c ≤ d
above_other c d l k = go (leb (suc c) d) refl
  where
    go : (t : Bool) → leb (suc c) d ≡ t → suc c ≤ d
    go true e = leb-true _ _ e
    go false e = absurd (k (omega (arith, leb-false (suc c) d e)))

power_up : (c : ℕ) → power c ≤ power (suc c)
unfolding power
power_up c = omega arith

power_rises : (c d : ℕ) → c ≤ d → power c ≤ power d
power_rises c zero h = let k : c ≡ 0 = omega arith in rw k (omega arith)
power_rises c (suc d) h = go (leb c d) refl (power_rises c d)
  where
    go : (t : Bool) → leb c d ≡ t → (c ≤ d → power c ≤ power d) → power c ≤ power (suc d)
    go true e ih = omega (arith, ih (leb-true _ _ e), power_up d)
    go false e ih = let k : c ≡ suc d = omega (arith, leb-false c d e) in rw k (omega arith)

pub depth_stop : (more c p n : ℕ) → n ≤ p → depth_from more c p n ≡ c
unfolding depth_from
depth_stop zero c p n h = refl
depth_stop (suc more) c p n h = rw (le-leb _ _ h)

-- A turn of the loop: the fuel is what c lacks of n.
depth_step : (more m c p n : ℕ) → more ≡ suc m → p < n → depth_from more c p n ≡ depth_from m (c + 1) (2 * p) n
unfolding depth_from
depth_step more m c p n e h = rw (e, lt-leb _ _ h, add-one)

-- A number is below its power, so n steps are enough, and none is left over where p is below n.
pub power-above : (c : ℕ) → c < power c
power-above zero = omega (arith, one)
power-above (suc c) = omega (arith, power-suc c, power-above c)

pub depth_turn : (c p n : ℕ) → p ≡ power c → p < n
    → depth_from (n - c) c p n ≡ depth_from (n - (c + 1)) (c + 1) (2 * p) n
depth_turn c p n e h = depth_step _ _ c p n (omega (arith, power-above c)) h

from_enough : (more c p n : ℕ) → p ≡ power c → n ≤ power (c + more) → n ≤ power (depth_from more c p n)
unfolding depth_from
from_enough zero c p n e h = let k : c + 0 ≡ c = omega arith in rw k at h
from_enough (suc more) c p n e h =
    let k : suc c + more ≡ c + suc more = omega arith in
    go (leb n p) refl (from_enough more (suc c) (2 * p) n (rw e (sym (power-suc c))) (rw k h))
  where
    go : (t : Bool) → leb n p ≡ t → n ≤ power (depth_from more (suc c) (2 * p) n)
        → n ≤ power (cond t c (depth_from more (suc c) (2 * p) n))
    go true l ih = omega (arith, leb-true n p l)
    go false l ih = ih

from_least : (more c p n d : ℕ) → p ≡ power c → n ≤ power d → c ≤ d → depth_from more c p n ≤ d
unfolding depth_from
from_least zero c p n d e h l = l
from_least (suc more) c p n d e h l =
    go (leb n p) refl (from_least more (suc c) (2 * p) n d (rw e (sym (power-suc c))) h)
  where
    go : (t : Bool) → leb n p ≡ t → (suc c ≤ d → depth_from more (suc c) (2 * p) n ≤ d)
        → cond t c (depth_from more (suc c) (2 * p) n) ≤ d
    go true k ih = l
    go false k ih = ih (above_other c d l (λ q. omega (arith, leb-false n p k, ap power q)))

pub depth-least : DepthIsLeast
unfolding depth
depth-least n =
    let k : n ≤ power (0 + n) = rw (zero-add n) (omega (arith, power-above n)) in
    (from_enough n 0 1 n (sym one) k, λ c h. from_least n 0 1 n c (sym one) h (omega arith))

-- The tree over at most 2^c leaves has at most that depth and as many leaves.
pub depth-within : (n c : ℕ) → n ≤ power c → (depth n ≤ c) × (1 ≤ power (depth n)) × (power (depth n) ≤ power c)
depth-within n c h =
    let d = (depth-least n).1 c h in
    (d, omega (arith, one, power_rises 0 (depth n) (omega arith)), power_rises (depth n) c d)

pub eight : power 8 ≡ 256
unfolding power
eight = refl

pub sixty_two : power 62 ≡ 4611686018427387904
unfolding power
sixty_two = refl
