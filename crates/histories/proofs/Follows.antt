-- A run on encodings follows the run on what they encode, and an invariant lasts. Assumes nothing.
use mathlib.Core.Path.{◌≡◌, refl, ap, ap₂, ◌∙◌}
use mathlib.Core.List.{List, [], ◌∷◌}
use Rattle.histories.specs.Runs.{answers, final}

module _ {R A S B : Type 0} (valid : S → Type 0) (enc : S → B) (ans : R → S → A) (next : R → S → S) (bans : R → B
    → A) (bnext : R → B → B) where
  pub record Follows : Type 0 where
    pub answer : (r : R) (s : S) → valid s → bans r (enc s) ≡ ans r s
    pub after : (r : R) (s : S) → valid s → bnext r (enc s) ≡ enc (next r s)
    pub lasts : (r : R) (s : S) → valid s → valid (next r s)

  pub valid_final : Follows → (h : List R) (s : S) → valid s → valid (final next h s)
  unfolding final
  valid_final f [] s v = v
  valid_final f (r ∷ rs) s v = valid_final f rs (next r s) (f.lasts r s v)

  pub follows_answers : Follows → (h : List R) (s : S) → valid s → answers bans bnext h (enc s) ≡ answers ans next h s
  unfolding answers
  follows_answers f [] s v = refl
  follows_answers f (r ∷ rs) s v =
      ap₂ ◌∷◌ (f.answer r s v) (rw (f.after r s v) (follows_answers f rs (next r s) (f.lasts r s v)))

  pub follows_final : Follows → (h : List R) (s : S) → valid s → final bnext h (enc s) ≡ enc (final next h s)
  unfolding final
  follows_final f [] s v = refl
  follows_final f (r ∷ rs) s v = ap (final bnext rs) (f.after r s v) ∙ follows_final f rs (next r s) (f.lasts r s v)
