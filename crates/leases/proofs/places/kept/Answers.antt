-- The invariant: the places from i on are empty, so what is kept is kept of the first i. Assumes nothing.
use mathlib.Core.Path.{◌≡◌, sym, ap, ◌∙◌}
use Prim.Native.Nat.{◌+◌, ◌-◌}
use native.Mathlib.Omega.{arith}
use lib.ListN.{length}
use Rattle.leases.proofs.PlaceLaws.{kept_all, kept_fewer, kept-none}
use Rattle.leases.proofs.places.kept.Goals as goal

pub returns-then-is_held : goal.returns-then-is_held
returns-then-is_held c =
    let a = c.args in
    let i = c.loop-i.i in
    let h = sym c.is_held.ensures ∙ c.if-is_held.true in
    let e : i - 1 + 1 ≡ i = omega arith in
    e ∙ sym (ap length c.loop-i.invariant ∙ kept_all i a.from a.c.now (omega arith) h)

pub loop-i-preserved : goal.loop-i-preserved
loop-i-preserved c =
    let a = c.args in
    let h = sym c.is_held.ensures ∙ c.if-is_held.false in
    c.loop-i.invariant ∙ kept_fewer c.loop-i.i a.from a.c.now (omega arith) h

pub returns : goal.returns
returns c =
    let a = c.args in
    sym (ap length c.loop-i.invariant ∙ kept-none c.loop-i.i a.from a.c.now (omega arith))
