use mathlib.Core.Path.{sym, ◌∙◌}
use native.Mathlib.Omega.{arith}
use Rattle.lists.proofs.JudgeLaws.{span_inside, good_start, good_fails, good_turn, good_end}
use Rattle.lists.proofs.list.rows_ok.Goals as goal

pub loop-i-init : goal.loop-i-init
loop-i-init c = let a = c.args in good_start a.t.now a.d.now a.n

pub row_at-row-requires : goal.row_at-row-requires
row_at-row-requires c = (omega arith, omega arith)

pub returns-then-not-row_ok : goal.returns-then-not-row_ok
returns-then-not-row_ok c =
    let l = c.loop-i in
    let a = c.args in
    good_fails a.t.now a.d.now a.n l.low l.i c.row_at-row.result _ (omega arith) c.row_at-row.ensures
    l.invariant (sym c.row_ok.ensures ∙ c.if-not-row_ok.true)

pub overflow_add-low : goal.overflow_add-low
overflow_add-low c =
    let l = c.loop-i in
    let a = c.args in
    let e = sym c.row_ok.ensures ∙ c.if-not-row_ok.false in
    omega (arith, span_inside l.low c.row_at-row.result a.d.now e)

pub loop-i-preserved : goal.loop-i-preserved
loop-i-preserved c =
    let l = c.loop-i in
    let a = c.args in
    good_turn a.t.now a.d.now a.n l.low l.i c.row_at-row.result _ (omega arith)
    c.row_at-row.ensures l.invariant
    (sym c.row_ok.ensures ∙ c.if-not-row_ok.false)

pub returns : goal.returns
returns c =
    let l = c.loop-i in
    let a = c.args in
    good_end a.t.now a.d.now a.n l.low l.i _ (omega arith) l.invariant
