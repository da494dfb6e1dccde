-- Numbers that are given exactly when their reason is there. Assumes nothing.
use mathlib.Core.Path.{◌≡◌, sym, ◌∙◌}
use mathlib.Core.Bool.{true, false, true≢false}
use mathlib.Core.List.{List}
use mathlib.Core.Logic.{◌↔◌}
use Prim.Native.Nat.{ℕ}
use Rattle.format.specs.Container.{length_allowed, well_formed}
use Rattle.rules.proofs.OutcomeLaws.{formed_length}

-- the number is this one, and its reason is there; or it is another, and its reason is not
pub given : {A : Type 0} {n : ℕ} (k : ℕ) → n ≡ k → A → (n ≡ k) ↔ A
given k e a = (λ _. a, λ _. e)

pub other : {A : Type 0} {n : ℕ} (j k : ℕ) → n ≡ j → (j ≡ k → ⊥) → (A → ⊥) → (n ≡ k) ↔ A
other j k e d f = (λ q. absurd (d (sym e ∙ q)), λ a. absurd (f a))

-- a container that is well formed has an allowed length
pub not_both : (c : List ℕ) → well_formed c ≡ true → length_allowed c ≡ false → ⊥
not_both c w a = true≢false (sym (formed_length c w) ∙ a)
