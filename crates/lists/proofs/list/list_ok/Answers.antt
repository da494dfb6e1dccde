use mathlib.Core.Path.{◌∙◌}
use Prim.Native.Nat.{◌+◌, ◌*◌, ◌-◌}
use native.Mathlib.Omega.{arith}
use Rattle.stretches.specs.List.{rows_at, row_size}
use Rattle.lists.proofs.JudgeLaws.{ok_length, ok_count, ok_rest, ok_rows}
use Rattle.lists.proofs.list.list_ok.Goals as goal

pub returns-then-l-ne-LIST_LENGTH : goal.returns-then-l-ne-LIST_LENGTH
returns-then-l-ne-LIST_LENGTH c = let a = c.args in ok_length a.l.now a.d.now c.if-l-ne-LIST_LENGTH.true

pub returns-then-n-gt-ROW_LIMIT : goal.returns-then-n-gt-ROW_LIMIT
returns-then-n-gt-ROW_LIMIT c =
    let a = c.args in
    ok_count a.l.now a.d.now (omega arith) c.u32_at-n.result c.u32_at-n.ensures (omega arith)

pub returns-then-all_zero : goal.returns-then-all_zero
returns-then-all_zero c =
    let a = c.args in
    let n = c.u32_at-n.result in
    c.rows_ok.ensures
    ∙ ok_rows a.l.now a.d.now (omega arith) n c.u32_at-n.ensures (omega arith)
    c.all_zero.result c.all_zero.ensures (rows_at + row_size * n - rows_at) (omega arith) c.if-all_zero.true

pub returns-else-all_zero : goal.returns-else-all_zero
returns-else-all_zero c =
    let a = c.args in
    c.if-all_zero.false
    ∙ ok_rest a.l.now a.d.now (omega arith) c.u32_at-n.result c.u32_at-n.ensures (omega arith)
    c.all_zero.result c.all_zero.ensures c.if-all_zero.false
