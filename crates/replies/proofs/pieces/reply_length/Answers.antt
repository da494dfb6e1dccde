-- What is left of the table, with what has been measured, is the whole.
use mathlib.Core.Path.{◌≡◌}
use native.Mathlib.Omega.{arith}
use Prim.Native.Nat.{◌+◌, ◌-◌, ◌<◌}
use Rattle.octets.specs.Facts.{Octets}
use Rattle.replies.proofs.PieceLaws.{reading, summing_bound, summing_next, summing_end}
use Rattle.replies.proofs.pieces.reply_length.Goals as goal

pub overflow_add-sum-in-loop : goal.overflow_add-sum-in-loop
overflow_add-sum-in-loop c =
    let h : 0 < c.args.t.count - c.loop.counter = omega arith in
    let o : Octets c.args.q.now = λ i. omega (arith, c.type_inv.q i) in
    let b = summing_bound c.loop.invariant h (reading o c.entry-entry.ensures c.position.ensures) _ c.piece-found.ensures c.requires.0 c.requires.1 in
    omega arith

pub loop-preserved : goal.loop-preserved
loop-preserved c =
    let h : 0 < c.args.t.count - c.loop.counter = omega arith in
    let o : Octets c.args.q.now = λ i. omega (arith, c.type_inv.q i) in
    let e : c.args.t.count - c.loop.counter - 1 ≡ c.args.t.count - (c.loop.counter + 1) = omega arith in
    rw (← e) (summing_next c.loop.invariant h (reading o c.entry-entry.ensures c.position.ensures) _ c.piece-found.ensures)

pub returns : goal.returns
returns c = summing_end c.loop.invariant (omega arith)
