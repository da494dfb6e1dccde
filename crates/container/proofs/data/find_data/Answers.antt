-- Each answer of the judgement is one of what is lent.
use mathlib.Core.Path.{subst}
use native.Mathlib.Omega.{arith}
use Rattle.format.specs.Judging.{Judges}
use Rattle.format.proofs.JudgingLaws.{judged_formed}
use Rattle.format.proofs.KnownLaws.{known_room}
use Rattle.container.proofs.DataLaws.{lent-flawed, lent_formed}
use Rattle.container.proofs.data.find_data.Goals as goal

pub data_end-requires : goal.data_end-requires
data_end-requires c =
    let k = judged_formed _ _ (subst (Judges _) c.in-Ok.is c.judge.ensures) in
    omega (arith, known_room k)

pub returns-in-Ok : goal.returns-in-Ok
returns-in-Ok c = lent_formed _ _ _ (subst (Judges _) c.in-Ok.is c.judge.ensures) c.data_end.ensures

pub returns-in-Err : goal.returns-in-Err
returns-in-Err c = lent-flawed _ _ (subst (Judges _) c.in-Err.is c.judge.ensures)
