-- The place by whether it is held and when it expires. Assumes nothing.
use mathlib.Core.Path.{sym, ◌∙◌}
use native.Mathlib.Omega.{arith}
use Rattle.upkeep.proofs.SweepLaws.{emptied, lasts, stays_empty}
use Rattle.upkeep.proofs.sweeping.sweep_place.Goals as goal

pub returns-then-not-is_held : goal.returns-then-not-is_held
returns-then-not-is_held c =
    let a = c.args in
    let both = stays_empty a.time a.p a.c.now c.requires (sym c.is_held.ensures ∙ c.if-not-is_held.true) in
    record {
      value = both.0;
      c_after = both.1;
    }

pub returns-then-time-u32_at : goal.returns-then-time-u32_at
returns-then-time-u32_at c =
    let a = c.args in
    let both = lasts a.time a.p a.c.now c.requires
    (sym c.is_held.ensures ∙ c.if-not-is_held.false)
    (omega (arith, c.u32_at.ensures)) in
    record {
      value = both.0;
      c_after = both.1;
    }

pub returns : goal.returns
returns c =
    let a = c.args in
    let e = emptied a.time a.p a.c.now c.requires
    (sym c.is_held.ensures ∙ c.if-not-is_held.false)
    (omega (arith, c.u32_at.ensures)) in
    record {
      value = e.0;
      c_after = c.clear_part.ensures ∙ e.1;
    }
