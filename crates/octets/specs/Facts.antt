-- What claims say of lists: facts, where Lists and Strings have tests.
use Rattle.std.specs.Prelude.{ℕ, ◌<◌, ◌≡◌, true, List, [], ◌∷◌, get_or, eqb}
use Rattle.octets.specs.Lists.{any_of}

-- P holds of each element.
abbrev pub Each : {A : Type 0} → (A → Type 0) → List A → Type 0
Each P [] = Unit {0}
Each P (x ∷ xs) = P x × Each P xs

-- No two elements are the same.
abbrev pub Distinct : {A : Type 0} → List A → Type 0
Distinct [] = Unit {0}
Distinct (x ∷ xs) = Each (λ y. x ≡ y → ⊥) xs × Distinct xs

-- n is one of the numbers.
abbrev pub Among : ℕ → List ℕ → Type 0
Among n ns = any_of (eqb n) ns ≡ true

-- A number fits 64 bits, or 32.
abbrev pub Fits64 : ℕ → Type 0
Fits64 n = n < 18446744073709551616

abbrev pub Fits32 : ℕ → Type 0
Fits32 n = n < 4294967296

-- Every element is a byte.
abbrev pub Octets : List ℕ → Type 0
Octets s = (i : ℕ) → get_or s i 0 < 256
