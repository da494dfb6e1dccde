-- Each way out has met the tests of the rows above its own.
use native.Mathlib.Omega.{arith}
use Rattle.format.proofs.KnownLaws.{known_room, lent_small}
use Rattle.reading.proofs.ReadLaws.{asked_by, reply_length, read_unresolved, read_no_space, read_done}
use Rattle.reading.proofs.read.Goals as goal

pub data_end-e-requires : goal.data_end-e-requires
data_end-e-requires c = omega (arith, known_room c.requires.0)

pub slice_bounds-d-end : goal.slice_bounds-d-end
slice_bounds-d-end c = omega (arith, c.data_end-e.ensures, known_room c.requires.0)

pub measure-requires : goal.measure-requires
measure-requires c = (c.requires.1.table, lent_small c.requires.0 c.data_end-e.ensures)

pub returns-in_default : goal.returns-in_default
returns-in_default c =
    let b = read_unresolved (asked_by c.requires c.data_end-e.ensures c.measure.ensures) c.args.r.now _ c.in_default.is c.refused.ensures in
    record { value = b.0; r_after = b.1 }

pub returns-then-r-length : goal.returns-then-r-length
returns-then-r-length c =
    let b = read_no_space (asked_by c.requires c.data_end-e.ensures c.measure.ensures) c.args.r.now _ _ c.in-Some.is c.if-r-length.true c.refused-then-r-length.ensures in
    record { value = b.0; r_after = b.1 }

pub write_reply-requires : goal.write_reply-requires
write_reply-requires c =
    let n = reply_length (asked_by c.requires c.data_end-e.ensures c.measure.ensures) _ c.in-Some.is in
    (c.requires.1.table, lent_small c.requires.0 c.data_end-e.ensures, omega (arith, c.if-r-length.false))

pub returns : goal.returns
returns c =
    let b = read_done (asked_by c.requires c.data_end-e.ensures c.measure.ensures) c.args.r.now _ _ c.in-Some.is _ c.if-r-length.false c.done.ensures c.write_reply.ensures in
    record { value = b.0; r_after = b.1 }
