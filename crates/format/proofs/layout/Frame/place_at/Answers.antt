-- The first four places are fixed, the others follow the count.
use native.Mathlib.Omega.{arith}
use borrow.Author.Tests.{lt-ltb, le-ltb}
use Rattle.format.specs.View.{place_at}
use Rattle.format.proofs.layout.Frame.place_at.Goals as goal

pub returns-then-i-lt-FIXED_PLACES : goal.returns-then-i-lt-FIXED_PLACES
unfolding place_at
returns-then-i-lt-FIXED_PLACES c = rw (lt-ltb _ _ c.if-i-lt-FIXED_PLACES.true)

pub overflow_add-result-2 : goal.overflow_add-result-2
overflow_add-result-2 c = omega (arith, c.extras_at.ensures)

pub returns : goal.returns
unfolding place_at
returns c = rw (le-ltb _ _ c.if-i-lt-FIXED_PLACES.false) (omega (arith, c.extras_at.ensures))
