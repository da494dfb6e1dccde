-- What is left of the table, with what has been measured, is the whole.
use mathlib.Core.Path.{◌≡◌}
use native.Mathlib.Omega.{arith}
use Prim.Native.Nat.{◌+◌, ◌-◌, ◌<◌}
use Rattle.octets.specs.Facts.{Octets}
use Rattle.replies.proofs.PieceLaws.{measuring_none, measuring_bound, measuring_next, measuring_end}
use Rattle.replies.proofs.pieces.measure.Goals as goal

pub returns-in_err-position : goal.returns-in_err-position
returns-in_err-position c =
    let h : 0 < c.args.t.count - c.loop.counter = omega arith in
    let o : Octets c.args.q.now = λ i. omega (arith, c.type_inv.q i) in
    rw c.from_residual.ensures
    (measuring_none c.loop.invariant h o c.entry-entry.ensures c.resolve.ensures c.in_err-position.was)

pub overflow_add-length-in-loop : goal.overflow_add-length-in-loop
overflow_add-length-in-loop c =
    let h : 0 < c.args.t.count - c.loop.counter = omega arith in
    let o : Octets c.args.q.now = λ i. omega (arith, c.type_inv.q i) in
    let b = measuring_bound c.loop.invariant h o c.entry-entry.ensures c.resolve.ensures c.in_ok-position.was _ c.piece-found.ensures c.requires.0 c.requires.1 in
    omega arith

pub loop-preserved : goal.loop-preserved
loop-preserved c =
    let h : 0 < c.args.t.count - c.loop.counter = omega arith in
    let o : Octets c.args.q.now = λ i. omega (arith, c.type_inv.q i) in
    let e : c.args.t.count - c.loop.counter - 1 ≡ c.args.t.count - (c.loop.counter + 1) = omega arith in
    rw (← e) (measuring_next c.loop.invariant h o c.entry-entry.ensures c.resolve.ensures c.in_ok-position.was _ c.piece-found.ensures)

pub returns : goal.returns
returns c = measuring_end c.loop.invariant (omega arith)
