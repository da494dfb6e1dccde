-- The invariant: the leases counted and those in the places left are all. Assumes nothing.
use mathlib.Core.Path.{sym, ◌∙◌}
use mathlib.Core.Bool.{true, false}
use Prim.Native.Nat.{◌+◌, ◌-◌, ◌*◌}
use native.Mathlib.Omega.{arith}
use Rattle.format.specs.Layout.{record_size}
use Rattle.leases.proofs.PlaceLaws.{present-none, present_first, present_next}
use Rattle.leases.proofs.places.count_held.Goals as goal
use Rattle.leases.proofs.places.count_held.Goals.{then-is_held, else-is_held}

pub loop-i-init : goal.loop-i-init
loop-i-init c = let a = c.args in (omega arith, present_first a.n a.from a.c.now)

pub loop-i-preserved : goal.loop-i-preserved
loop-i-preserved c =
    let a = c.args in
    let more = present_next a.n c.loop-i.i a.from a.c.now in
    let h = sym c.is_held.ensures in
    elim c.if-is_held.branch [
      | then-is_held w ↦ let m = more true (omega arith) (h ∙ w.if-is_held.true) in (omega arith, omega arith)
      | else-is_held w ↦ let m = more false (omega arith) (h ∙ w.if-is_held.false) in (omega arith, omega arith)
    ]

pub returns : goal.returns
returns c =
    let a = c.args in
    omega (arith, present-none (a.n - c.loop-i.i) (a.from + record_size * c.loop-i.i) a.c.now (omega arith))
