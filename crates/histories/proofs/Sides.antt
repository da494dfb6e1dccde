-- One side of a state, seen by a view: a run in which no answer is bad shows there what the side's own calls do alone.
-- Over any calls, answers and states. Assumes nothing.
use mathlib.Core.Path.{◌≡◌, refl, sym, ap, ap₂, ◌∙◌}
use mathlib.Core.Bool.{Bool, true, false}
use mathlib.Core.List.{List, [], ◌∷◌, ◌++◌}
use Rattle.histories.specs.Runs.{answers, final, only, beside, Never}

-- one list of calls behind another
pub final-append : {R S : Type 0} (leave : R → S → S) (h k : List R) (s : S) →
    final leave (h ++ k) s ≡ final leave k (final leave h s)
unfolding final
final-append leave [] k s = refl
final-append leave (x ∷ h) k s = final-append leave h k (leave x s)

module _ {R A S P : Type 0} (mine : R → Bool) (bad : A → Bool) (ans : R → S → A) (next : R → S → S) (view : S
    → P) (pans : R → P → A) (pnext : R → P → P) where
  pub record Sided : Type 0 where
    pub answer : (r : R) (s : S) → mine r ≡ true → bad (ans r s) ≡ false → ans r s ≡ pans r (view s)
    pub moves : (r : R) (s : S) → mine r ≡ true → bad (ans r s) ≡ false → view (next r s) ≡ pnext r (view s)
    pub stays : (r : R) (s : S) → mine r ≡ false → bad (ans r s) ≡ false → view (next r s) ≡ view s

  -- what a call of this side finds by the view alone, it finds as if the others were not there
  module _ {B : Type 0} (look : R → S → B) (plook : R → P → B)
      (finds : (r : R) (s : S) → mine r ≡ true → bad (ans r s) ≡ false → look r s ≡ plook r (view s)) where
    looked_step : Sided → (r : R) (rs : List R) (s : S) →
        beside mine rs (answers look next rs (next r s)) ≡ answers plook pnext (only mine rs) (view (next r s)) →
        bad (ans r s) ≡ false → (b : Bool) → mine r ≡ b →
        beside mine (r ∷ rs) (answers look next (r ∷ rs) s) ≡ answers plook pnext (only mine (r ∷ rs)) (view s)
    unfolding answers only beside
    looked_step x r rs s i n true e =
        rw e (ap₂ ◌∷◌ (finds r s e n) (i ∙ ap (answers plook pnext (only mine rs)) (x.moves r s e n)))
    looked_step x r rs s i n false e = rw e (i ∙ ap (answers plook pnext (only mine rs)) (x.stays r s e n))

    looked : Sided → (h : List R) (s : S) → Never bad (answers ans next h s) →
        beside mine h (answers look next h s) ≡ answers plook pnext (only mine h) (view s)
    unfolding answers only beside
    looked x [] s n = refl
    looked x (r ∷ rs) s n = looked_step x r rs s (looked x rs (next r s) n.1) n.0 (mine r) refl

    pub looks_agree : Sided → (h k : List R) (s : S) → only mine h ≡ only mine k → Never bad (answers ans next h s) →
        Never bad (answers ans next k s) →
        beside mine h (answers look next h s) ≡ beside mine k (answers look next k s)
    looks_agree x h k s e nh nk = looked x h s nh ∙ rw e (sym (looked x k s nk))

  ends_step : Sided → (r : R) (rs : List R) (s : S) →
      view (final next rs (next r s)) ≡ final pnext (only mine rs) (view (next r s)) → bad (ans r s) ≡ false →
      (b : Bool) → mine r ≡ b → view (final next (r ∷ rs) s) ≡ final pnext (only mine (r ∷ rs)) (view s)
  unfolding final only
  ends_step x r rs s i n true e = rw e (i ∙ ap (final pnext (only mine rs)) (x.moves r s e n))
  ends_step x r rs s i n false e = rw e (i ∙ ap (final pnext (only mine rs)) (x.stays r s e n))

  ends : Sided → (h : List R) (s : S) → Never bad (answers ans next h s) →
      view (final next h s) ≡ final pnext (only mine h) (view s)
  unfolding answers final only
  ends x [] s n = refl
  ends x (r ∷ rs) s n = ends_step x r rs s (ends x rs (next r s) n.1) n.0 (mine r) refl

  pub record Agree (h k : List R) (s : S) : Type 0 where
    pub answers_agree : beside mine h (answers ans next h s) ≡ beside mine k (answers ans next k s)
    pub view_agrees : view (final next h s) ≡ view (final next k s)

  -- two histories with the same requests of this side, whatever else they hold and wherever that stands
  pub agree : Sided → (h k : List R) (s : S) → only mine h ≡ only mine k → Never bad (answers ans next h s)
      → Never bad (answers ans next k s) → Agree h k s
  agree x h k s e nh nk = record {
    answers_agree = looks_agree ans pans x.answer x h k s e nh nk;
    view_agrees = ends x h s nh ∙ rw e (sym (ends x k s nk));
  }
