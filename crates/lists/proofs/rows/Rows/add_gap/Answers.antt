-- The last row ends at the size or not, or there is none. Assumes nothing.
use Prim.Native.Nat.{◌-◌}
use native.Mathlib.Omega.{arith}
use Rattle.lists.proofs.GapLaws.{gap_alone, gap_touch, gap_apart}
use Rattle.lists.proofs.rows.Rows.add_gap.Goals as goal
use Rattle.lists.proofs.rows.Rows.add_gap.Goals.{then-self-gt0+else-last-size, else-self-gt0}

pub returns-then-last-size : goal.returns-then-last-size
returns-then-last-size c =
    let a = c.args in
    gap_touch a.self.now a.size a.at c.requires.0 c.requires.1.0 (a.self.now.count - 1) c.row_at-last.result
    (omega arith) c.row_at-last.ensures c.if-last-size.true _ c.push.ensures

pub returns : goal.returns
returns c =
    let a = c.args in
    let t = a.self.now in
    elim c.if-self-gt0.branch [
      | then-self-gt0+else-last-size w ↦ gap_apart t a.size a.at c.requires.0 c.requires.1.0 (t.count - 1) w.row_at-last.result
          (omega (arith, w.if-self-gt0.true)) w.row_at-last.ensures w.if-last-size.false _ c.push-2.ensures
      | else-self-gt0 w ↦ gap_alone t a.size a.at c.requires.0 c.requires.1.0 (omega (arith, w.if-self-gt0.false)) _
          c.push-2.ensures
    ]
