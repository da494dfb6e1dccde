-- Boundaries that are not in order, or do not end with the share, give 25; else the parts may be taken.
use mathlib.Core.Path.{◌≡◌, sym, ◌∙◌}
use mathlib.Core.Bool.{true}
use borrow.Author.Tests.{eq-eqb, ne_eqb}
use Rattle.octets.specs.Rows.{first_row}
use Rattle.share_format.specs.Editions.{is_mdmf}
use Rattle.share_format.specs.Header.{bounds_of}
use Rattle.share_numbers.specs.Order.{placed_ok}
use Rattle.share_judging.specs.Judging.{ordered, body_rows}
use Rattle.share_numbers.proofs.OrderLaws.{placed-inside}
use Rattle.share_judging.proofs.judging.body_outcome.Goals as goal

pub returns-then-not-placed_ok : goal.returns-then-not-placed_ok
unfolding body_rows first_row ordered
returns-then-not-placed_ok c = rw (← c.bounds-bounds.ensures, sym c.placed_ok.ensures ∙ c.if-not-placed_ok.true)

pub returns-then-bounds-s : goal.returns-then-bounds-s
unfolding body_rows first_row ordered
returns-then-bounds-s c =
    let placed : let a = c.args in
    placed_ok (is_mdmf a.edition) (bounds_of (is_mdmf a.edition) a.s.now) ≡ true =
    rw (← c.bounds-bounds.ensures) (sym c.placed_ok.ensures ∙ c.if-not-placed_ok.false) in
    rw (placed, ← c.bounds-bounds.ensures, ne_eqb _ _ c.if-bounds-s.true)

pub laid_outcome-requires : goal.laid_outcome-requires
laid_outcome-requires c =
    let placed : let a = c.args in
    placed_ok (is_mdmf a.edition) (bounds_of (is_mdmf a.edition) a.s.now) ≡ true =
    rw (← c.bounds-bounds.ensures) (sym c.placed_ok.ensures ∙ c.if-not-placed_ok.false) in
    let b = c.bounds-bounds.ensures in
    let i = placed-inside _ _ c.args.s.now (placed) (rw b at c.if-bounds-s.false) in
    (c.requires.0, c.requires.1, c.requires.2, rw b i)

pub returns : goal.returns
unfolding body_rows first_row ordered
returns c =
    let placed : let a = c.args in
    placed_ok (is_mdmf a.edition) (bounds_of (is_mdmf a.edition) a.s.now) ≡ true =
    rw (← c.bounds-bounds.ensures) (sym c.placed_ok.ensures ∙ c.if-not-placed_ok.false) in
    let b = c.bounds-bounds.ensures in
    rw (placed, eq-eqb _ _ (rw b at c.if-bounds-s.false)) (rw b at c.laid_outcome.ensures)
