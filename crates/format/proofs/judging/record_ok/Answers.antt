-- The four bytes at p are the owner of the record there, and the slice is the record.
use mathlib.Core.Path.{◌≡◌, sym, ap, ◌∙◌}
use Prim.Native.Nat.{ℕ, ◌+◌, ◌-◌}
use lib.ListN.{take, drop}
use native.Mathlib.Omega.{arith}
use Rattle.octets.specs.Strings.{all_zero}
use Rattle.format.specs.Layout.{record_size}
use Rattle.format.proofs.JudgingLaws.{record_held, record_none}
use Rattle.format.proofs.judging.record_ok.Goals as goal

pub returns-then-u32_at-ne0 : goal.returns-then-u32_at-ne0
returns-then-u32_at-ne0 c = sym (record_held _ _ (λ z. c.if-u32_at-ne0.true (c.u32_at.ensures ∙ z)))

pub returns : goal.returns
returns c =
    let a = c.args in
    let k : a.p + record_size - a.p ≡ record_size = omega arith in
    c.all_zero.ensures ∙ ap (λ (n : ℕ). all_zero (take n (drop a.p a.c.now))) k
    ∙ sym (record_none _ _ (sym c.u32_at.ensures ∙ c.if-u32_at-ne0.false))
