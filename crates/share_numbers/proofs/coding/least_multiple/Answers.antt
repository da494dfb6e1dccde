-- Where n is no multiple, the least one above it is n and what its remainder lacks of k.
use mathlib.Core.Path.{sym}
use native.Mathlib.Omega.{arith}
use Rattle.share_format.proofs.MultipleLaws.{least_whole, least_more}
use Rattle.share_numbers.proofs.coding.least_multiple.Goals as goal

pub returns-then-rest-eq0 : goal.returns-then-rest-eq0
returns-then-rest-eq0 c =
    let a = c.args in
    let e = least_whole a.k a.n c.if-rest-eq0.true in
    (rw e (omega arith), sym e)

pub returns-else-rest-eq0 : goal.returns-else-rest-eq0
returns-else-rest-eq0 c =
    let a = c.args in
    rw (least_more a.k a.n c.requires c.if-rest-eq0.false) c.checked_add.ensures
