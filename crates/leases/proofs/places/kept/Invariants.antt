-- The invariant: the places from i on are empty, so what is kept is kept of the first i. Assumes nothing.
use mathlib.Core.Path.{◌≡◌}
use Rattle.format.specs.Layout.{records}
use Rattle.rules.specs.Leasing.{trim}
use Rattle.leases.proofs.places.kept.Given as goal

abbrev pub invariant-loop-i : goal.invariant-loop-i
invariant-loop-i l = trim (records l.n l.from l.c) ≡ trim (records l.i l.from l.c)
