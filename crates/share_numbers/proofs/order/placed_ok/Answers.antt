-- The first boundary, then the order of the others.
use mathlib.Core.Path.{sym, ◌∙◌}
use Rattle.share_numbers.proofs.OrderLaws.{placed-false, placed_rest}
use Rattle.share_numbers.proofs.order.placed_ok.Goals as goal

pub returns-then-bounds-header_size : goal.returns-then-bounds-header_size
returns-then-bounds-header_size c =
    let z = c.header_size.ensures in
    sym (placed-false _ _ (λ e. c.if-bounds-header_size.true (e ∙ sym z)))

pub returns : goal.returns
returns c =
    let f = c.if-bounds-header_size.false ∙ c.header_size.ensures in
    rw c.least_sizes-least.ensures at c.in_order.ensures ∙ placed_rest _ c.args.bounds f
