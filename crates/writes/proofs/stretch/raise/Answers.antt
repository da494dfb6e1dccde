-- The move and the clear together: bytes by position before the gap, and one equation behind it.
use Prim.Native.Nat.{◌-◌}
use native.Mathlib.Omega.{arith}
use lib.ListN.{length}
use Rattle.writes.proofs.StretchLaws.{raised}
use Rattle.writes.proofs.stretch.raise.Goals as goal

pub clear_part-requires : goal.clear_part-requires
clear_part-requires c =
    let m = c.max.ensures in
    (omega arith, omega (arith, c.requires.0, c.requires.1))

pub returns : goal.returns
returns c =
    let a = c.args in
    rw (c.clear_part.ensures, c.move_up.ensures)
    (raised a.p.now a.s (length a.p.now - a.t) a.z a.t c.max.result (omega (arith, c.requires.0))
    (omega (arith, c.requires.0)) (omega (arith, c.requires.1)) c.requires.2 c.max.ensures)
