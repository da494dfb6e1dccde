-- The tests passed hold, so all do where those left do.
use mathlib.Core.Path.{◌≡◌, ap, sym, ◌∙◌}
use native.Mathlib.Omega.{arith}
use Prim.Native.Nat.{◌+◌, ◌-◌, ◌<◌, ◌≤◌}
use lib.ListN.{length}
use Rattle.rules.specs.Requests.{test_size}
use Rattle.rules.specs.Testing.{decides}
use Rattle.requests.specs.Cursors.{body_of, body_at}
use Rattle.requests.specs.declared.cursors.TestEntry.{TestEntry}
use Rattle.replies.proofs.PieceLaws.{Reading, reading, read-holds, holds_at, holding_specimen, holding_false, holding_next}
use Rattle.replies.proofs.PieceLaws.{holding_end}
use Rattle.replies.proofs.tests.all_hold.Goals as goal

pub body-specimen-requires : goal.body-specimen-requires
body-specimen-requires c =
    let h : 0 < c.args.t.tests.count - c.loop.counter = omega arith in
    let k : c.loop.specimens.at + c.test-test.result.specimen ≤ length c.args.q.now =
    rw c.test-test.ensures (holding_specimen c.loop.invariant h) in
    omega arith

pub bytes-requires : goal.bytes-requires
bytes-requires c =
    let h : 0 < c.args.t.tests.count - c.loop.counter = omega arith in
    let k : c.loop.specimens.at + c.test-test.result.specimen ≤ length c.args.q.now =
    rw c.test-test.ensures (holding_specimen c.loop.invariant h) in
    rw c.body-specimen.ensures (omega arith, omega arith)

pub returns-then-not-decide : goal.returns-then-not-decide
returns-then-not-decide c =
    let h : 0 < c.args.t.tests.count - c.loop.counter = omega arith in
    let E : Reading c.loop.cursor.at test_size c.args.q.now c.args.d.now c.test-test.result.entry c.position.result =
    reading (λ i. omega (arith, c.type_inv.q i)) (ap (λ (y : TestEntry). y.entry) c.test-test.ensures) c.position.ensures in
    let f : c.bytes.result.now ≡ body_of (body_at c.loop.specimens.at c.test-test.result.specimen) c.args.q.now =
    c.bytes.ensures ∙ rw c.body-specimen.ensures in
    let y : holds_at c.loop.cursor.at c.loop.specimens.at c.args.q.now c.args.d.now ≡ c.decide.result =
    sym (c.decide.ensures ∙ ap (decides c.test-test.result.opcode) c.compare-order.ensures
    ∙ read-holds _ c.test-test.ensures E c.piece-part.ensures f) in
    holding_false c.loop.invariant h (y ∙ c.if-not-decide.true)

pub loop-preserved : goal.loop-preserved
loop-preserved c =
    let h : 0 < c.args.t.tests.count - c.loop.counter = omega arith in
    let E : Reading c.loop.cursor.at test_size c.args.q.now c.args.d.now c.test-test.result.entry c.position.result =
    reading (λ i. omega (arith, c.type_inv.q i)) (ap (λ (y : TestEntry). y.entry) c.test-test.ensures) c.position.ensures in
    let f : c.bytes.result.now ≡ body_of (body_at c.loop.specimens.at c.test-test.result.specimen) c.args.q.now =
    c.bytes.ensures ∙ rw c.body-specimen.ensures in
    let y : holds_at c.loop.cursor.at c.loop.specimens.at c.args.q.now c.args.d.now ≡ c.decide.result =
    sym (c.decide.ensures ∙ ap (decides c.test-test.result.opcode) c.compare-order.ensures
    ∙ read-holds _ c.test-test.ensures E c.piece-part.ensures f) in
    let e : c.args.t.tests.count - c.loop.counter - 1 ≡ c.args.t.tests.count - (c.loop.counter + 1) = omega arith in
    rw (← e, c.body-specimen.ensures) (holding_next c.loop.invariant h c.test-test.ensures (y ∙ c.if-not-decide.false))

pub returns : goal.returns
returns c = holding_end c.loop.invariant (omega arith)
