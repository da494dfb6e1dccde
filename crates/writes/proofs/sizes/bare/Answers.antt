-- The lesser of the last gap's end and the final size, less the size, which is below neither.
use mathlib.Core.Path.{ap, ◌∙◌}
use Prim.Native.Nat.{ℕ, ◌-◌, min}
use native.Mathlib.Omega.{arith}
use Rattle.rules.specs.Writing.{placed}
use Rattle.requests.specs.Forms.{writes_in}
use Rattle.writes.proofs.GapLaws.{last_rises}
use Rattle.writes.proofs.sizes.bare.Goals as goal

pub overflow_sub-result : goal.overflow_sub-result
overflow_sub-result c =
    let a = c.args in
    omega (
      arith,
      c.walk.ensures.gap,
      c.min.ensures,
      last_rises (placed (writes_in a.t a.q.now) a.size) a.size a.size (omega arith),
    )

pub returns : goal.returns
returns c =
    let a = c.args in
    ap (λ (n : ℕ). n - a.size) (c.min.ensures ∙ ap (λ (n : ℕ). min n a.f) c.walk.ensures.gap)
