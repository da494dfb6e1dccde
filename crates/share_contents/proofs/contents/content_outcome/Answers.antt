-- Each answer is the row whose test holds once those before it are known not to.
use mathlib.Core.Path.{◌≡◌, sym, ◌∙◌}
use mathlib.Core.Bool.{true}
use borrow.Author.Tests.{eq-eqb, ne_eqb}
use Rattle.octets.specs.Rows.{first_row}
use Rattle.share_contents.specs.Contents.{chain_ok, tree_ok, blocks_ok, content_rows}
use Rattle.share_format.specs.Editions.{is_mdmf}
use Rattle.share_numbers.proofs.CodingLaws.{segment_some}
use Rattle.share_contents.proofs.contents.content_outcome.Goals as goal

pub returns-then-not-chain_ok : goal.returns-then-not-chain_ok
unfolding content_rows first_row
returns-then-not-chain_ok c = rw (sym c.chain_ok.ensures ∙ c.if-not-chain_ok.true)

pub tree_ok-requires : goal.tree_ok-requires
tree_ok-requires c = segment_some _ _ _ _ c.requires.1

pub returns-then-not-tree_ok : goal.returns-then-not-tree_ok
unfolding content_rows first_row
returns-then-not-tree_ok c =
    let chained : let a = c.args in
    chain_ok a.numbers.total a.chain.now ≡ true =
    sym c.chain_ok.ensures ∙ c.if-not-chain_ok.false in
    rw (chained, sym c.tree_ok.ensures ∙ c.if-not-tree_ok.true)

pub blocks_ok-requires : goal.blocks_ok-requires
blocks_ok-requires c = (c.requires.0, segment_some _ _ _ _ c.requires.1)

pub returns-then-not-blocks_ok : goal.returns-then-not-blocks_ok
unfolding content_rows first_row
returns-then-not-blocks_ok c =
    let chained : let a = c.args in
    chain_ok a.numbers.total a.chain.now ≡ true =
    sym c.chain_ok.ensures ∙ c.if-not-chain_ok.false in
    let treed : let a = c.args in
    tree_ok (is_mdmf a.edition) a.numbers.segment_size a.numbers.data_length a.tree.now ≡ true =
    sym c.tree_ok.ensures ∙ c.if-not-tree_ok.false in
    rw (chained, treed, sym c.blocks_ok.ensures ∙ c.if-not-blocks_ok.true)

pub returns-then-numbers-eq-LAST_SEQUENCE : goal.returns-then-numbers-eq-LAST_SEQUENCE
unfolding content_rows first_row
returns-then-numbers-eq-LAST_SEQUENCE c =
    let chained : let a = c.args in
    chain_ok a.numbers.total a.chain.now ≡ true =
    sym c.chain_ok.ensures ∙ c.if-not-chain_ok.false in
    let treed : let a = c.args in
    tree_ok (is_mdmf a.edition) a.numbers.segment_size a.numbers.data_length a.tree.now ≡ true =
    sym c.tree_ok.ensures ∙ c.if-not-tree_ok.false in
    let blocked : let a = c.args in
    blocks_ok (is_mdmf a.edition) a.numbers.segment_size a.numbers.required a.numbers.data_length a.share_data.now ≡ true =
    sym c.blocks_ok.ensures ∙ c.if-not-blocks_ok.false in
    rw (chained, treed, blocked, eq-eqb _ _ c.if-numbers-eq-LAST_SEQUENCE.true)

pub returns : goal.returns
unfolding content_rows first_row
returns c =
    let chained : let a = c.args in
    chain_ok a.numbers.total a.chain.now ≡ true =
    sym c.chain_ok.ensures ∙ c.if-not-chain_ok.false in
    let treed : let a = c.args in
    tree_ok (is_mdmf a.edition) a.numbers.segment_size a.numbers.data_length a.tree.now ≡ true =
    sym c.tree_ok.ensures ∙ c.if-not-tree_ok.false in
    let blocked : let a = c.args in
    blocks_ok (is_mdmf a.edition) a.numbers.segment_size a.numbers.required a.numbers.data_length a.share_data.now ≡ true =
    sym c.blocks_ok.ensures ∙ c.if-not-blocks_ok.false in
    rw (chained, treed, blocked, ne_eqb _ _ c.if-numbers-eq-LAST_SEQUENCE.false)
