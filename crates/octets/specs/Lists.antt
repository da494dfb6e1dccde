-- Tests over lists of anything, sums, and what may be missing.
use Rattle.std.specs.Prelude.{ℕ, ◌+◌, Bool, true, false, cond, ◌&&◌, List, [], ◌∷◌}
use Rattle.std.proofs.Math.Option.{Option, none, some}

-- Whether every element passes a test, whether some element does.
unfoldable pub every : {A : Type 0} → (A → Bool) → List A → Bool
every test [] = true
every test (x ∷ xs) = test x && every test xs

unfoldable pub any_of : {A : Type 0} → (A → Bool) → List A → Bool
any_of test [] = false
any_of test (x ∷ xs) = cond (test x) true (any_of test xs)

-- The elements that pass a test, in their order.
unfoldable pub only : {A : Type 0} → (A → Bool) → List A → List A
only test [] = []
only test (x ∷ xs) = cond (test x) (x ∷ only test xs) (only test xs)

-- The sum of numbers.
unfoldable pub sum : List ℕ → ℕ
sum [] = 0
sum (n ∷ ns) = n + sum ns

-- What may be missing: whether it is there, a value where it is not, what becomes of it.
unfoldable pub is_some : {A : Type 0} → Option A → Bool
is_some none = false
is_some (some x) = true

unfoldable pub or_else : {A : Type 0} → Option A → A → A
or_else (some x) y = x
or_else none y = y

unfoldable pub maybe : {A B : Type 0} → B → (A → B) → Option A → B
maybe y f none = y
maybe y f (some x) = f x
