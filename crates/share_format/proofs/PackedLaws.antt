-- Parts packed one behind the other have the boundaries that their lengths give, and parts between boundaries in order
-- are packed so, for any edition of a share. Assumes nothing.
use mathlib.Core.Path.{◌≡◌, refl, sym, ap, ◌∙◌}
use mathlib.Core.Bool.{true, false≢true}
use mathlib.Core.List.{List, [], ◌∷◌, ◌++◌, map, append_assoc}
use Prim.Native.Nat.{ℕ, zero, suc, ◌+◌, ◌-◌, ◌≤◌, ◌<◌}
use native.Mathlib.Nat.{not-suc-le-zero}
use native.Mathlib.Omega.{arith}
use lib.Dec.{leb}
use lib.ListN.{length, take, drop, get_or, length-take, length-drop}
use lib.Seq.{drop-length}
use borrow.Author.Tests.{leb-true, le-leb}
use Rattle.octets.specs.Facts.{Each, Fits64}
use Rattle.octets.specs.Lists.{sum}
use Rattle.octets.specs.Strings.{join}
use Rattle.octets.proofs.ListLaws.{both, field_then, field_back}
use Rattle.share_format.specs.Bounds.{in_order, part_of, packed}
use Rattle.share_format.proofs.BoundLaws.{last_of, in_order_parts}

-- ---- from the parts to their boundaries
packed_first : (a : ℕ) (ns : List ℕ) → get_or (packed a ns) 0 0 ≡ a
unfolding packed
packed_first a [] = refl
packed_first a (n ∷ ns) = refl

-- Where parts stand one behind the other from `a` on, part i by their boundaries is part i of them.
pub packed_part : (a : ℕ) (s t : List ℕ) (ps : List (List ℕ)) (i : ℕ) → i < length ps → drop a s ≡ join ps ++ t
    → part_of i (packed a (map length ps)) s ≡ get_or ps i []
unfolding packed part_of join
packed_part a s t [] i h e = absurd (not-suc-le-zero h)
packed_part a s t (p ∷ ps) zero h e =
    let k : a + length p - a ≡ length p = omega arith in
    rw (packed_first (a + length p) (map length ps), k)
    (field_back s a (length p) (a + length p) p (join ps ++ t) (e ∙ append_assoc p (join ps) t) refl refl).0
packed_part a s t (p ∷ ps) (suc i) h e =
    packed_part (a + length p) s t ps i (omega arith)
    (field_back s a (length p) (a + length p) p (join ps ++ t) (e ∙ append_assoc p (join ps) t) refl refl).1

-- ---- from boundaries in order to the parts
-- The parts between the boundary `a` and those after it.
unfoldable pub parts_between : ℕ → List ℕ → List ℕ → List (List ℕ)
parts_between a [] s = []
parts_between a (b ∷ bs) s = take (b - a) (drop a s) ∷ parts_between b bs s

-- The next boundary lies inside, and the others are in order behind it.
next_inside : (m : ℕ) (ms : List ℕ) (a b : ℕ) (bs s : List ℕ) → in_order (m ∷ ms) a (b ∷ bs) ≡ true
    → last_of a (b ∷ bs) ≡ length s → (a ≤ b) × (b ≤ length s) × (in_order ms b bs ≡ true)
unfolding in_order
next_inside m ms a b bs s e l =
    let p = in_order_parts (m ∷ ms) a (b ∷ bs) s e l 0 (omega arith) in
    (omega (arith, p.0), p.1, (both (leb (a + m) b) (in_order ms b bs) e).1)

-- Their lengths have the boundaries again.
pub between-packed : (ms : List ℕ) (a : ℕ) (bs s : List ℕ) → in_order ms a bs ≡ true → last_of a bs ≡ length s
    → packed a (map length (parts_between a bs s)) ≡ a ∷ bs
unfolding in_order last_of parts_between packed
between-packed [] a [] s e l = refl
between-packed [] a (b ∷ bs) s e l = absurd (false≢true e)
between-packed (m ∷ ms) a [] s e l = absurd (false≢true e)
between-packed (m ∷ ms) a (b ∷ bs) s e l =
    let h = next_inside m ms a b bs s e l in
    let k : a + length (take (b - a) (drop a s)) ≡ b = simp (length-take, length-drop) (omega (arith, h.0, h.1)) in
    rw k (ap (λ (ns : List ℕ). a ∷ ns) (between-packed ms b bs s h.2 l))

-- Joined, they are all from `a` on.
pub between_join : (ms : List ℕ) (a : ℕ) (bs s : List ℕ) → in_order ms a bs ≡ true → last_of a bs ≡ length s
    → join (parts_between a bs s) ≡ drop a s
unfolding in_order last_of parts_between join
between_join [] a [] s e l = rw (l, drop-length)
between_join [] a (b ∷ bs) s e l = absurd (false≢true e)
between_join (m ∷ ms) a [] s e l = absurd (false≢true e)
between_join (m ∷ ms) a (b ∷ bs) s e l =
    let h = next_inside m ms a b bs s e l in
    let k : a + (b - a) ≡ b = omega (arith, h.0) in
    sym (field_then s a (b - a) b _ _ k refl (sym (between_join ms b bs s h.2 l)))

-- ---- what parts packed so are
pub packed-head : (a : ℕ) (ns : List ℕ) → packed a ns ≡ a ∷ drop 1 (packed a ns)
unfolding packed
packed-head a [] = refl
packed-head a (n ∷ ns) = refl

-- Each number is at least its least, and there are as many.
abbrev pub EachLeast : List ℕ → List ℕ → Type 0
EachLeast [] [] = Unit {0}
EachLeast [] (n ∷ ns) = ⊥
EachLeast (m ∷ ms) [] = ⊥
EachLeast (m ∷ ms) (n ∷ ns) = (m ≤ n) × EachLeast ms ns

-- They are in order exactly when each has its least size.
pub packed_facts : (ms ns : List ℕ) (a : ℕ) → in_order ms a (drop 1 (packed a ns)) ≡ true → EachLeast ms ns
unfolding packed in_order
packed_facts [] [] a e = tt
packed_facts [] (n ∷ ns) a e = absurd (false≢true (rw (packed-head (a + n) ns) at e))
packed_facts (m ∷ ms) [] a e = absurd (false≢true e)
packed_facts (m ∷ ms) (n ∷ ns) a e =
    let p =
    both (leb (a + m) (a + n)) (in_order ms (a + n) (drop 1 (packed (a + n) ns))) (rw (packed-head (a + n) ns) at e) in
    let l = leb-true (a + m) (a + n) p.0 in
    (omega arith, packed_facts ms ns (a + n) p.1)

pub packed-order : (ms ns : List ℕ) (a : ℕ) → EachLeast ms ns → in_order ms a (drop 1 (packed a ns)) ≡ true
unfolding packed in_order
packed-order [] [] a f = refl
packed-order [] (n ∷ ns) a f = absurd f
packed-order (m ∷ ms) [] a f = absurd f
packed-order (m ∷ ms) (n ∷ ns) a f =
    let l : leb (a + m) (a + n) ≡ true = le-leb (a + m) (a + n) (omega (arith, f.0)) in
    rw (packed-head (a + n) ns, l) (packed-order ms ns (a + n) f.1)

-- The last is the end of all, and none is beyond it.
pub packed_last : (a : ℕ) (ns : List ℕ) → get_or (packed a ns) (length ns) 0 ≡ a + sum ns
unfolding packed sum
packed_last a [] = omega arith
packed_last a (n ∷ ns) = omega (arith, packed_last (a + n) ns)

pub packed-fits : (a : ℕ) (ns : List ℕ) → Fits64 (a + sum ns) → Each Fits64 (packed a ns)
unfolding packed sum
packed-fits a [] h = (omega arith, tt)
packed-fits a (n ∷ ns) h = (omega arith, packed-fits (a + n) ns (omega arith))
