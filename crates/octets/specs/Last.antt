-- The last element of a list that says anything decides (docs/RULES.md, H12).
use Rattle.std.specs.Prelude.{List, [], ◌∷◌}
use Rattle.std.proofs.Math.Option.{Option, none, some}

unfoldable pub newer : {A : Type 0} → Option A → Option A → Option A
newer x (some b) = some b
newer x none = x

unfoldable pub last_said : {A B : Type 0} → (A → Option B) → List A → Option B
last_said says [] = none
last_said says (x ∷ xs) = newer (says x) (last_said says xs)
