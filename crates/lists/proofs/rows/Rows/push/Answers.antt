-- The two stores are one of the row's bytes. Assumes nothing.
use native.Mathlib.Omega.{arith}
use Rattle.lists.proofs.TableLaws.{push_none, push_some}
use Rattle.lists.proofs.rows.Rows.push.Goals as goal

pub returns-then-s : goal.returns-then-s
returns-then-s c =
    push_some c.args.self.now c.args.s _ _ c.if-s.true (omega arith) (omega arith) c.put_u32.ensures c.put_u32-then-s.ensures

pub returns-else-s : goal.returns-else-s
returns-else-s c = push_none c.args.self.now c.args.s c.if-s.false
