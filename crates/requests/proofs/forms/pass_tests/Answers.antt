-- The invariant: what the first entries of the table give.
use native.Mathlib.Omega.{arith}
use Prim.Native.Nat.{◌+◌}
use Rattle.requests.proofs.FormLaws.{testing_start, testing_next, specimens_most}
use Rattle.requests.proofs.forms.pass_tests.Goals as goal

pub loop-init : goal.loop-init
loop-init c = testing_start _ _

pub overflow_add-length : goal.overflow_add-length
overflow_add-length c =
    let t = testing_next c.loop.invariant _ c.test-test.ensures _ c.entry_ok-good.ensures in
    let s = specimens_most c.args.q.now (λ i. omega (arith, c.type_inv.q i)) (c.loop.counter + 1) c.args.first.at in
    omega (arith, t.summed)

pub loop-preserved : goal.loop-preserved
loop-preserved c = testing_next c.loop.invariant _ c.test-test.ensures _ c.entry_ok-good.ensures
