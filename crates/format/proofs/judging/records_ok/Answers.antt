-- Each number below n is the place of a record, and all of them pass if all records do.
use mathlib.Core.Path.{refl, ◌∙◌}
use native.Mathlib.Omega.{arith}
use Prim.Native.Nat.{ℕ, ◌+◌, ◌*◌}
use lib.ListN.{take, drop}
use Rattle.std.proofs.Common.{rules, tests}
use Rattle.std.proofs.lemmas.Iterator.{YieldsList-from_range}
use Rattle.std.proofs.lemmas.Iterator.Search.{all_from_yields_List}
use Rattle.format.specs.Layout.{record_size}
use Rattle.format.specs.Container.{record_ok}
use Rattle.format.proofs.JudgingLaws.{records_each}
use Rattle.format.proofs.judging.records_ok.Goals as goal

pub returns : goal.returns
returns c =
    let a = c.args in
    all_from_yields_List (λ (i : ℕ). record_ok (take record_size (drop (a.from + record_size * i) a.c.now))) _ _ _
    c.all.ensures.ran (YieldsList-from_range 0 a.n a.n refl (omega arith)) (λ x b q k. search (rules, tests))
    ∙ records_each a.n a.from a.c.now
