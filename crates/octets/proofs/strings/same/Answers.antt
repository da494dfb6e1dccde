-- The OR of the XORs of all pairs of bytes is 0 where each pair is equal.
use Rattle.std.proofs.Common.{rules, tests, ◌≡◌, ◌∙◌, ap, ℕ, nat_eq}
use Rattle.std.specs.List.{fold, zip}
use Rattle.std.proofs.lemmas.Iterator.{YieldsList-from_slice, YieldsList-from_zip}
use Rattle.std.proofs.lemmas.Iterator.Consumers.{fold_from_yields_List}
use Rattle.octets.proofs.StringLaws.{or_xor, fold_or_xor}
use Rattle.octets.proofs.strings.same.Goals as goal

pub returns : goal.returns
returns c =
    let a = c.args.a.now in
    let b = c.args.b.now in
    let r : c.fold.result ≡ fold or_xor 0 (zip a b) =
    fold_from_yields_List _ or_xor 0 c.fold.result c.fold.ensures.ran
    (YieldsList-from_zip (YieldsList-from_slice a (cc)) (YieldsList-from_slice b (cc)))
    (λ n p m q k. search (rules, tests)) in
    ap (λ (n : ℕ). nat_eq n 0) r ∙ fold_or_xor a b 0 c.requires
