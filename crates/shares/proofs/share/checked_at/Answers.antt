-- A fault refuses; without one the offsets are in order, so the boundaries may be formed.
use mathlib.Core.Path.{sym, ap, ◌∙◌}
use native.Mathlib.Omega.{arith}
use Rattle.share_contents.proofs.FaultLaws.{number_of-above}
use Rattle.share_judging.proofs.JudgingLaws.{head_facts, outcome-ordered}
use Rattle.share_format.specs.Header.{version_of}
use Rattle.shares.proofs.ShareLaws.{checked_refused, checked_zero, accepted-inside}
use Rattle.shares.proofs.share.checked_at.Goals as goal

pub returns-in-Err : goal.returns-in-Err
returns-in-Err c =
    let n = c.number.ensures in
    let k = checked_refused _ _ _ (n ∙ c.in-Err.ensures) (λ z. omega (arith, n, z, number_of-above c.in-Err.fault)) in
    c.refused.ensures ∙ rw c.of-edition.ensures k

pub bounds_at-requires : goal.bounds_at-requires
bounds_at-requires c =
    let e = c.of-edition.ensures in
    let z = sym c.in-Ok.ensures in
    let h = head_facts _ _ (outcome-ordered _ z).0 in
    (e, rw e h.0, rw e (accepted-inside _ z), c.requires)

pub returns-in-Ok : goal.returns-in-Ok
returns-in-Ok c =
    checked_zero _ _ _ _ (sym c.in-Ok.ensures) (c.version.ensures ∙ ap version_of c.of-edition.ensures) c.bounds_at.ensures
