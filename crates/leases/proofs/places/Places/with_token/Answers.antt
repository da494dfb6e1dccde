-- The first number whose place passes. Assumes nothing.
use mathlib.Core.Path.{refl}
use native.Mathlib.Omega.{arith}
use lib.ListN.{length}
use borrow.Author.Tests.{tests}
use Rattle.std.proofs.Common.{rules}
use Rattle.std.proofs.lemmas.Iterator.{YieldsList-from_range}
use Rattle.std.proofs.lemmas.Iterator.Search.{find_from_yields_List}
use Rattle.leases.specs.Places.{has_token}
use Rattle.format.specs.Layout.{leases_of}
use Rattle.leases.proofs.PlaceLaws.{finds}
use Rattle.leases.proofs.OperationLaws.{Finds, found_inside}
use Rattle.leases.proofs.places.Places.with_token.Goals as goal

pub returns : goal.returns
returns c =
    let p = c.args.self.now in
    let ls = leases_of p.c.now in
    let e : Finds p.c.now (has_token c.args.field c.args.token.now) c.find.result =
    finds (has_token c.args.field c.args.token.now) ls _ (find_from_yields_List _ _ _ _ c.find.ensures.ran
    (YieldsList-from_range 0 c.len.result (length ls) refl (omega (arith, c.len.ensures)))
    (λ x b q k. search (rules, tests))) in
    record { first = e; inside = found_inside p.c.now _ p.known _ _ e }
