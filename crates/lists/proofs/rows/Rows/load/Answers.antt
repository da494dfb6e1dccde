use mathlib.Core.Path.{ap₂, ◌∙◌}
use Prim.Native.Nat.{ℕ}
use mathlib.Core.List.{List}
use native.Mathlib.Omega.{arith}
use Rattle.stretches.specs.List.{row_count, rows_from}
use Rattle.lists.proofs.StoreLaws.{load_rows}
use Rattle.lists.proofs.rows.Rows.load.Goals as goal

pub returns : goal.returns
unfolding row_count
returns c =
    ap₂ (λ (n : ℕ) (t : List ℕ). rows_from n 0 t) c.u32_at.ensures c.copy_part.ensures
    ∙ load_rows c.args.l.now _ (omega arith)
