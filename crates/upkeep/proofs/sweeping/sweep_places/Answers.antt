-- The invariant: what is left, swept into the present bytes, is the whole, swept into the first. Assumes nothing.
use mathlib.Core.Path.{◌≡◌, sym, ◌∙◌}
use mathlib.Core.Bool.{Bool, true, false}
use native.Mathlib.Nat.{add-zero}
use native.Mathlib.Omega.{arith}
use Rattle.upkeep.proofs.SweepLaws.{sweeping-none, sweeping_more, sweeping_all}
use Rattle.upkeep.proofs.sweeping.sweep_places.Goals as goal
use Rattle.upkeep.proofs.sweeping.sweep_places.Goals.{then-sweep_place, else-sweep_place}

pub loop-i-init : goal.loop-i-init
loop-i-init c = let a = c.args in sweeping-none a.time a.from a.n a.c.now c.requires.0

pub loop-i-preserved : goal.loop-i-preserved
loop-i-preserved c =
    let a = c.args in
    let turn = λ (b : Bool) (e : c.sweep_place.result ≡ b).
    sweeping_more a.time a.from a.n a.c.now c.loop-i.i c.loop-i.count b c.loop-i.c _ c.loop-i.invariant
    c.loop-i-test.true (sym e ∙ c.sweep_place.ensures.value, c.sweep_place.ensures.c_after) in
    elim c.if-sweep_place.branch [
      | then-sweep_place w ↦ rw w.count-is (turn true w.if-sweep_place.true)
      | else-sweep_place w ↦ rw (w.count-is, ← add-zero c.loop-i.count) (turn false w.if-sweep_place.false)
    ]

pub returns : goal.returns
returns c =
    let a = c.args in
    let both = sweeping_all a.time a.from a.n a.c.now c.loop-i.i c.loop-i.count c.loop-i.c c.loop-i.invariant (omega arith) in
    record { value = both.0; c_after = both.1 }
