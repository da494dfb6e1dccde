-- The tail begins at the count.
use native.Mathlib.Omega.{arith}
use Rattle.format.proofs.WellFormed.{used_is}
use Rattle.format.proofs.layout.Frame.used.Goals as goal

pub returns : goal.returns
returns c =
    let s = c.args.self in
    omega (arith, c.tail_size.ensures, used_is s.offset s.extras)
