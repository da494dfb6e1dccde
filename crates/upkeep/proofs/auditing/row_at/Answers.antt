-- Each field is read where it stands in the buffer. Assumes nothing.
use Rattle.upkeep.proofs.AuditLaws.{row_read}
use Rattle.upkeep.proofs.auditing.row_at.Goals as goal

pub returns : goal.returns
returns c =
    row_read c.args.p c.args.c.now _ c.u32_at.ensures
    c.u32_at-2.ensures c.array_at.ensures c.array_at-2.ensures c.array_at-3.ensures
