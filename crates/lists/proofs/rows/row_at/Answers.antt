use mathlib.Core.Path.{ap₂}
use Prim.Native.Nat.{ℕ, ◌+◌}
use Rattle.lists.proofs.rows.row_at.Goals as goal

pub returns : goal.returns
returns c = ap₂ (λ (a k : ℕ). record { from = a; to = a + k }) c.u32_at-start.ensures c.u32_at-count.ensures
