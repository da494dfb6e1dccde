-- The invariant: what the first entries of the table give.
use native.Mathlib.Omega.{arith}
use Prim.Native.Nat.{◌+◌}
use Rattle.requests.proofs.FormLaws.{adding_start, adding_next, bodies_most}
use Rattle.requests.proofs.forms.pass_writes.Goals as goal

pub loop-init : goal.loop-init
loop-init c = adding_start _ _

pub overflow_add-length : goal.overflow_add-length
overflow_add-length c =
    let t = adding_next c.loop.invariant _ c.entry-entry.ensures in
    let s = bodies_most c.args.q.now (λ i. omega (arith, c.type_inv.q i)) (c.loop.counter + 1) c.args.first.at in
    omega (arith, t.summed)

pub loop-preserved : goal.loop-preserved
loop-preserved c = adding_next c.loop.invariant _ c.entry-entry.ensures
