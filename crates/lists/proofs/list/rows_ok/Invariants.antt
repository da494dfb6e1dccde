use mathlib.Core.Path.{◌≡◌}
use Prim.Native.Nat.{◌*◌, ◌-◌}
use Rattle.stretches.specs.List.{row_size, rows_from}
use Rattle.lists.proofs.JudgeLaws.{rows_good}
use Rattle.lists.proofs.list.rows_ok.Given as goal

abbrev pub invariant-loop-i : goal.invariant-loop-i
invariant-loop-i l = rows_good 0 (rows_from l.n 0 l.t) l.d ≡ rows_good l.low (rows_from (l.n - l.i) (row_size * l.i) l.t) l.d
