-- Tests in a row, tests over lists, what holds of each element, parts and positions. Assumes nothing.
pub use mathlib.Core.Bool.{and_assoc, and-false, and-true}
pub use Rattle.std.proofs.lemmas.List.{drop-take}
use mathlib.Core.Path.{◌≡◌, refl, sym, ap, ◌∙◌}
use mathlib.Core.Bool.{Bool, true, false, cond, ◌&&◌, false≢true, true≢false}
use mathlib.Core.List.{List, [], ◌∷◌, ◌++◌, map}
use mathlib.Core.Option.{Option, none, some}
use Prim.Native.Nat.{ℕ, zero, suc, ◌+◌, ◌-◌, ◌≤◌, ◌<◌, min}
use native.Mathlib.Numerals.{add-one}
use native.Mathlib.Omega.{arith}
use lib.Dec.{ltb}
use lib.ListN.{length, take, drop, get_or, set, replicate, length-take, take-append-drop, get_or-eq_default}
use lib.ListN.{drop_of_length-le}
use lib.Seq.{drop-cons, take-take, take_all, take_at, drop_at, drop-drop, get_or-append-add}
use borrow.Author.Tests.{ltb-true, ltb-false}
use Rattle.octets.specs.Lists.{every, sum, is_some, or_else}
use Rattle.octets.specs.Facts.{Each}
use Rattle.octets.specs.Last.{newer, last_said}

-- ---- tests in a row
pub both : (a b : Bool) → (a && b) ≡ true → (a ≡ true) × (b ≡ true)
both true b e = (refl, e)
both false b e = absurd (false≢true e)

pub by_refuting : (t : Bool) → (t ≡ true → ⊥) → t ≡ false
by_refuting true h = absurd (h refl)
by_refuting false h = refl

-- the same by `cond`, which the checker keeps apart
pub cond-false : (a b : Bool) → cond a b false ≡ (a && b)
cond-false true b = refl
cond-false false b = refl

pub cond-true-false : (b : Bool) → cond b true false ≡ b
cond-true-false true = refl
cond-true-false false = refl

-- ---- each element
module _ {A : Type 0} (P : A → Type 0) where
  pub each_append : (a b : List A) → Each P a → Each P b → Each P (a ++ b)
  each_append [] b h k = k
  each_append (x ∷ a) b h k = (h.0, each_append a b h.1 k)

  pub each_take : (n : ℕ) (ls : List A) → Each P ls → Each P (take n ls)
  each_take zero ls h = tt
  each_take (suc n) [] h = h
  each_take (suc n) (x ∷ ls) h = (h.0, each_take n ls h.1)

  pub each_drop : (n : ℕ) (ls : List A) → Each P ls → Each P (drop n ls)
  each_drop zero ls h = h
  each_drop (suc n) [] h = h
  each_drop (suc n) (x ∷ ls) h = each_drop n ls h.1

  pub each_set : (ls : List A) (i : ℕ) (r : A) → Each P ls → P r → Each P (set ls i r)
  each_set [] i r h k = tt
  each_set (x ∷ ls) zero r h k = (k, h.1)
  each_set (x ∷ ls) (suc i) r h k = (h.0, each_set ls i r h.1 k)

  pub each_at : (ls : List A) (i : ℕ) (d : A) → i < length ls → Each P ls → P (get_or ls i d)
  each_at [] i d h e = absurd (omega arith)
  each_at (x ∷ ls) zero d h e = e.0
  each_at (x ∷ ls) (suc i) d h e = each_at ls i d (omega arith) e.1

pub each_map : {A : Type 0} (P Q : A → Type 0) → ((x : A) → P x → Q x) → (xs : List A) → Each P xs → Each Q xs
each_map P Q f [] e = tt
each_map P Q f (x ∷ xs) e = (f x e.0, each_map P Q f xs e.1)

module _ {A : Type 0} (test : A → Bool) where
  pub every_each : (xs : List A) → every test xs ≡ true → Each (λ x. test x ≡ true) xs
  unfolding every
  every_each [] e = tt
  every_each (x ∷ xs) e = let b = both (test x) (every test xs) e in (b.0, every_each xs b.1)

  pub each_every : (xs : List A) → Each (λ x. test x ≡ true) xs → every test xs ≡ true
  unfolding every
  each_every [] e = refl
  each_every (x ∷ xs) e = rw e.0 (each_every xs e.1)

  pub every_append : (a b : List A) → every test (a ++ b) ≡ (every test a && every test b)
  unfolding every
  every_append [] b = refl
  every_append (x ∷ a) b =
      ap (λ (t : Bool). test x && t) (every_append a b) ∙ sym (and_assoc (test x) (every test a) (every test b))

  pub every_map : {B : Type 0} (f : B → A) (xs : List B) → every test (map f xs) ≡ every (λ x. test (f x)) xs
  unfolding every
  every_map f [] = refl
  every_map f (x ∷ xs) = ap (λ (t : Bool). test (f x) && t) (every_map f xs)

-- ---- sums
pub sum_drop : (ns : List ℕ) (i : ℕ) → i < length ns → sum (drop i ns) ≡ get_or ns i 0 + sum (drop (i + 1) ns)
unfolding sum
sum_drop ns i h = rw (add-one, drop-cons ns i 0 h)

pub sum-none : (ns : List ℕ) (i : ℕ) → length ns ≤ i → sum (drop i ns) ≡ 0
unfolding sum
sum-none ns i h = rw (drop_of_length-le ns {i = i} h)

-- ---- parts
-- m elements at f of the n elements at p
pub part_part : (p n f m : ℕ) (c : List ℕ) → f + m ≤ n → take m (drop f (take n (drop p c))) ≡ take m (drop (p + f) c)
part_part p n f m c h =
    let e : n ≡ f + (n - f) = omega arith in
    ap (λ (j : ℕ). take m (drop f (take j (drop p c)))) e
    ∙ rw (drop-take f (n - f) (drop p c), take-take m (n - f) (drop f (drop p c)) (omega arith), drop-drop f p c)

pub take_min : (n : ℕ) (d : List ℕ) → take n d ≡ take (min n (length d)) d
take_min n d = go (ltb n (length d)) refl
  where
    go : (b : Bool) → ltb n (length d) ≡ b → take n d ≡ take (min n (length d)) d
    go true e = let m : n ≡ min n (length d) = omega (arith, ltb-true n (length d) e) in ap (λ (k : ℕ). take k d) m
    go false e = take_all n d (ltb-false n (length d) e)
        ∙ sym (take_all (min n (length d)) d (omega (arith, ltb-false n (length d) e)))

-- a field of k elements at a, then what follows it
pub field_then : (c : List ℕ) (a k b : ℕ) (x t : List ℕ) → a + k ≡ b → take k (drop a c) ≡ x → drop b c ≡ t → drop a c
    ≡ x ++ t
field_then c a k b x t e p q =
    sym (take-append-drop k (drop a c)) ∙ ap (λ (l : List ℕ). l ++ drop k (drop a c)) p
    ∙ ap (λ (l : List ℕ). x ++ l) (drop-drop k a c ∙ ap (λ (n : ℕ). drop n c) e ∙ q)

-- a field read back, and what follows it
pub field_back : (c : List ℕ) (k n j : ℕ) (m t : List ℕ) → drop k c ≡ m ++ t → length m ≡ n → k + n ≡ j
    → (take n (drop k c) ≡ m) × (drop j c ≡ t)
field_back c k n j m t e l q = (
  rw e (take_at m t n l),
  ap (λ (i : ℕ). drop i c) (sym q) ∙ sym (drop-drop n k c)
      ∙ rw e (drop_at m t n l),
)

-- ---- elements by position, where 0 stands past the end
pub at_past : (l : List ℕ) (i : ℕ) → length l ≤ i → get_or l i 0 ≡ 0
at_past l i h = get_or-eq_default l 0 h

pub at_take_past : (n : ℕ) (l : List ℕ) (i : ℕ) → n ≤ i → get_or (take n l) i 0 ≡ 0
at_take_past n l i h = at_past (take n l) i (simp length-take (omega arith))

pub at_rep : (n i : ℕ) → get_or {A = ℕ} (replicate n 0) i 0 ≡ 0
at_rep zero i = refl
at_rep (suc n) zero = refl
at_rep (suc n) (suc i) = at_rep n i

pub at_app_right : (a b : List ℕ) (i : ℕ) → length a ≤ i → get_or (a ++ b) i 0 ≡ get_or b (i - length a) 0
at_app_right a b i h =
    let e : i ≡ length a + (i - length a) = omega arith in
    ap (λ (k : ℕ). get_or (a ++ b) k 0) e ∙ get_or-append-add a b (i - length a) 0

-- ---- what may be missing
pub is_none : {A : Type 0} (o : Option A) → is_some o ≡ false → o ≡ none
unfolding is_some
is_none none h = refl
is_none (some i) h = absurd (true≢false h)

pub newer_assoc : {A : Type 0} (x y z : Option A) → newer x (newer y z) ≡ newer (newer x y) z
unfolding newer
newer_assoc x y (some b) = refl
newer_assoc x y none = refl

pub or_else-newer : {A : Type 0} (x y : Option A) (v : A) → or_else (newer x y) v ≡ or_else y (or_else x v)
unfolding or_else newer
or_else-newer x (some b) v = refl
or_else-newer x none v = refl

pub last_said-append : {A B : Type 0} (says : A → Option B) (a b : List A) →
    last_said says (a ++ b) ≡ newer (last_said says a) (last_said says b)
unfolding last_said newer
last_said-append {B = B} says [] b = go (last_said says b)
  where
    go : (x : Option B) → x ≡ newer none x
    go (some v) = refl
    go none = refl
last_said-append says (o ∷ a) b =
    rw (last_said-append says a b) (newer_assoc (says o) (last_said says a) (last_said says b))
