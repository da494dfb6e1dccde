-- The container first, then the sweep. Assumes nothing.
use mathlib.Core.Path.{subst}
use Rattle.std.proofs.lemmas.Result.{err_from_is_err_and}
use Rattle.format.specs.Judging.{Judges}
use Rattle.upkeep.proofs.SweepLaws.{sweep_done, sweep_flawed}
use Rattle.upkeep.proofs.sweeping.swept_leases.Goals as goal

pub returns-in_err-frame : goal.returns-in_err-frame
returns-in_err-frame c =
    let a = c.args in
    let p = err_from_is_err_and c.from_residual.result c.from_residual.ensures.1 in
    let r = sweep_flawed a.c.now a.time _ (subst (Judges _) c.in_err-frame.was c.judge.ensures) in
    record { value = rw (p.1, p.2) r.0; c_after = r.1 }

pub returns : goal.returns
returns c =
    let a = c.args in
    let r = sweep_done a.c.now a.time _ _ (subst (Judges _) c.in_ok-frame.was c.judge.ensures).number
    (c.sweep_formed.ensures.value, c.sweep_formed.ensures.c_after) in
    record { value = r.0; c_after = r.1 }
