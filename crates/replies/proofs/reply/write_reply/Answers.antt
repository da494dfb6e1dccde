-- What is left of the table, put into the present reply space, is the whole reply, put into the first.
use mathlib.Core.Path.{◌≡◌}
use native.Mathlib.Omega.{arith}
use Prim.Native.Nat.{◌+◌, ◌-◌, ◌*◌, ◌<◌}
use Rattle.rules.specs.Testing.{length_size}
use Rattle.replies.proofs.PieceLaws.{Reading, reading, writing_start, writing_room, writing-next, writing_end}
use Rattle.replies.proofs.reply.write_reply.Goals as goal

pub loop-i-init : goal.loop-i-init
loop-i-init c =
    let e : c.args.t.count - 0 ≡ c.args.t.count = omega arith in
    rw e (writing_start _ _ _ _ c.requires.0 c.requires.2)

pub copy_part-requires : goal.copy_part-requires
copy_part-requires c =
    let h : 0 < c.args.t.count - c.loop-i.i = omega arith in
    let E : Reading c.loop-i.cursor.at c.args.t.stride c.args.q.now c.args.d.now c.entry-entry.result c.position.result = reading (λ i. omega (arith, c.type_inv.q i)) c.entry-entry.ensures c.position.ensures in
    let room = writing_room c.loop-i.invariant h E _ c.piece-part.ensures in
    omega arith

pub loop-i-preserved : goal.loop-i-preserved
loop-i-preserved c =
    let h : 0 < c.args.t.count - c.loop-i.i = omega arith in
    let E : Reading c.loop-i.cursor.at c.args.t.stride c.args.q.now c.args.d.now c.entry-entry.result c.position.result = reading (λ i. omega (arith, c.type_inv.q i)) c.entry-entry.ensures c.position.ensures in
    let e : c.args.t.count - c.loop-i.i - 1 ≡ c.args.t.count - (c.loop-i.i + 1) = omega arith in
    let k : length_size * c.loop-i.i + length_size ≡ length_size * (c.loop-i.i + 1) = omega arith in
    rw (c.copy_part.ensures, c.put_u32.ensures, ← e, ← k)
    (writing-next c.loop-i.invariant h E c.piece-part.result.now c.piece-part.ensures)

pub returns : goal.returns
returns c = writing_end c.loop-i.invariant (omega arith)
