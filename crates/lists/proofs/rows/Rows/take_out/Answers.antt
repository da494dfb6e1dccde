-- The invariant: what is kept, what is held back and what the rows left name outside of a up to e are the whole.
-- Assumes nothing.
use native.Mathlib.Omega.{arith}
use Rattle.lists.proofs.StoreLaws.{counted}
use Rattle.lists.proofs.TakingLaws.{taking_start, turn_asks, taking_turn, taking_end}
use Rattle.lists.proofs.rows.Rows.take_out.Goals as goal

pub loop-i-init : goal.loop-i-init
loop-i-init c = taking_start c.args.self.now c.args.a c.args.e c.requires.0 c.requires.1

pub push-requires : goal.push-requires
push-requires c =
    let o = c.loop-i in (
      omega (arith, c.requires.0.ready.room, counted c.args.self.now.count 0 c.args.self.now.bytes),
      turn_asks _ _ _ _ o.self o.i o.held c.row_at-row.result o.invariant c.requires.1
          c.loop-i-test.true c.row_at-row.ensures c.min.result c.min.ensures c.choose.result c.choose.ensures,
    )

pub loop-i-preserved : goal.loop-i-preserved
loop-i-preserved c =
    let o = c.loop-i in
    taking_turn _ _ _ _ o.self o.i o.held c.row_at-row.result o.invariant c.requires.1
    c.loop-i-test.true c.row_at-row.ensures c.min.result c.min.ensures c.choose.result c.choose.ensures
    c.max.result c.max.ensures c.push.new.self c.push.ensures

pub push-requires-2 : goal.push-requires-2
push-requires-2 c =
    let w = c.loop-i.invariant in (omega (arith, c.requires.0.ready.room, counted c.args.self.now.count 0 c.args.self.now.bytes), omega (arith, w.inside, w.fits))

pub returns : goal.returns
returns c =
    let o = c.loop-i in
    taking_end _ _ _ _ o.self o.i o.held o.invariant c.loop-i-test.false c.push-2.new.self c.push-2.ensures
