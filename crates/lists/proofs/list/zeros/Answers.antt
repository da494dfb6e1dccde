-- Short strings are looked at byte by byte.
use Rattle.std.proofs.Common.{rules, tests, ◌≡◌, ◌∙◌}
use Rattle.std.specs.List.{list_all}
use Rattle.std.proofs.lemmas.Iterator.{YieldsList-from_slice}
use Rattle.std.proofs.lemmas.Iterator.Search.{all_from_yields_List}
use lib.Dec.{eqb}
use Rattle.lists.proofs.JudgeLaws.{zero_each}
use Rattle.lists.proofs.list.zeros.Goals as goal

pub returns-then-s-lt-LONG : goal.returns-then-s-lt-LONG
returns-then-s-lt-LONG c =
    let s = c.args.s.now in
    let r : c.all.result ≡ list_all (λ x. eqb x 0) s =
    all_from_yields_List (λ x. eqb x 0) _ _ c.all.result c.all.ensures.ran (YieldsList-from_slice s c.iter.ensures.rest)
    (λ x b q k. search (rules, tests)) in
    r ∙ zero_each s
