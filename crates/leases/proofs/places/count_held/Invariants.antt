-- The invariant: the leases counted and those in the places left are all. Assumes nothing.
use mathlib.Core.Path.{◌≡◌}
use Prim.Native.Nat.{◌+◌, ◌-◌, ◌*◌, ◌≤◌}
use Rattle.format.specs.Layout.{records, record_size}
use Rattle.rules.specs.Leasing.{present}
use Rattle.leases.proofs.places.count_held.Given as goal

abbrev pub invariant-loop-i : goal.invariant-loop-i
invariant-loop-i l = (l.count ≤ l.i)
    × (present (records l.n l.from l.c) ≡ l.count + present (records (l.n - l.i) (l.from + record_size * l.i) l.c))
