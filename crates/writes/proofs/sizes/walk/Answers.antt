-- The invariant: what is left of the table leads to the size and leaves the last gap of the whole table.
use native.Mathlib.Omega.{arith}
use Rattle.octets.specs.Facts.{Octets}
use Rattle.writes.proofs.TableLaws.{taken, rest_fits, entry_bounds}
use Rattle.writes.proofs.TableLaws.{walking_start, walking_next, walking_sized, walking_bared}
use Rattle.writes.proofs.sizes.walk.Goals as goal

pub loop-init : goal.loop-init
loop-init c = walking_start c.args.t c.args.size _ c.requires.0 (omega arith)

pub entry-entry-requires : goal.entry-entry-requires
entry-entry-requires c = (omega arith, rest_fits c.loop.invariant.rest (omega arith))

pub grown-after-requires : goal.grown-after-requires
grown-after-requires c =
    let octets : Octets c.args.q.now = λ i. omega (arith, c.type_inv.q i) in
    let W = c.loop.invariant in
    entry_bounds (taken c.loop.after octets (omega arith) W.rest c.entry-entry.ensures c.position-place.ensures)
    octets c.requires.0.short _ c.requires.1 W.small

pub loop-preserved : goal.loop-preserved
loop-preserved c =
    let octets : Octets c.args.q.now = λ i. omega (arith, c.type_inv.q i) in
    let W = c.loop.invariant in
    walking_next W (taken c.loop.after octets (omega arith) W.rest c.entry-entry.ensures c.position-place.ensures)
    _ _ _ c.grown-after.ensures c.gap_end-gap.ensures (omega arith)

pub returns-clause-size : goal.returns-clause-size
returns-clause-size c = walking_sized c.loop.invariant (omega arith)

pub returns-clause-gap : goal.returns-clause-gap
returns-clause-gap c = walking_bared c.loop.invariant (omega arith)
