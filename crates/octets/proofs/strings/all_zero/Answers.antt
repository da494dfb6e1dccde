-- The whole is zero where each block and the rest are.
use Rattle.std.proofs.Common.{rules, tests, ◌≡◌, ◌∙◌, ap, sym, true, false, length, ◌/◌}
use Rattle.std.specs.List.{list_all}
use Rattle.std.proofs.lemmas.Iterator.{YieldsList-from_slice}
use Rattle.std.proofs.lemmas.Iterator.Search.{all_from_yields_List}
use Rattle.octets.specs.Strings.{all_zero}
use Rattle.octets.proofs.StringLaws.{zero_blocks}
use Rattle.octets.proofs.strings.all_zero.Goals as goal

pub returns-then-all : goal.returns-then-all
returns-then-all c =
    let s = c.args.s.now in
    let r : c.all.result ≡ list_all all_zero c.as_chunks.result.0.now =
    all_from_yields_List all_zero _ _ c.all.result c.all.ensures.ran (YieldsList-from_slice c.as_chunks.result.0.now (cc))
    (λ x b q k. search (rules, tests)) in
    c.zero_part-then-all.ensures ∙ ap all_zero c.as_chunks.ensures.back
    ∙ zero_blocks 64 (length s / 64) s true (sym c.if-all.true ∙ r ∙ ap (list_all all_zero) c.as_chunks.ensures.front)

pub returns-else-all : goal.returns-else-all
returns-else-all c =
    let s = c.args.s.now in
    let r : c.all.result ≡ list_all all_zero c.as_chunks.result.0.now =
    all_from_yields_List all_zero _ _ c.all.result c.all.ensures.ran (YieldsList-from_slice c.as_chunks.result.0.now (cc))
    (λ x b q k. search (rules, tests)) in
    c.if-all.false
    ∙ zero_blocks 64 (length s / 64) s false (sym c.if-all.false ∙ r ∙ ap (list_all all_zero) c.as_chunks.ensures.front)
