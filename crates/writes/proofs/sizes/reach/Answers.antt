-- The invariant: what is left of the table leads to where the whole table leads.
use mathlib.Core.Path.{◌∙◌}
use native.Mathlib.Omega.{arith}
use Rattle.octets.specs.Facts.{Octets}
use Rattle.writes.proofs.TableLaws.{rest_fits, entry_bounds}
use Rattle.writes.proofs.TableLaws.{reaching_start, reaching_taken, reaching_next, reaching_none, reaching_end}
use Rattle.writes.proofs.sizes.reach.Goals as goal

pub loop-init : goal.loop-init
loop-init c = reaching_start c.args.t c.args.size _ c.requires.0 (omega arith)

pub entry-entry-requires : goal.entry-entry-requires
entry-entry-requires c = (omega arith, rest_fits c.loop.invariant.rest (omega arith))

pub returns-in_err-place : goal.returns-in_err-place
returns-in_err-place c =
    let octets : Octets c.args.q.now = λ i. omega (arith, c.type_inv.q i) in
    c.from_residual.ensures
    ∙ reaching_none c.loop.invariant octets (omega arith) c.entry-entry.ensures c.resolve.ensures (omega arith) c.in_err-place.was

pub grown-after-requires : goal.grown-after-requires
grown-after-requires c =
    let octets : Octets c.args.q.now = λ i. omega (arith, c.type_inv.q i) in
    let R = c.loop.invariant in
    entry_bounds (reaching_taken R octets (omega arith) c.entry-entry.ensures c.resolve.ensures (omega arith) _ c.in_ok-place.was)
    octets c.requires.0.short _ c.requires.1 R.small

pub loop-preserved : goal.loop-preserved
loop-preserved c =
    let octets : Octets c.args.q.now = λ i. omega (arith, c.type_inv.q i) in
    reaching_next c.loop.invariant octets (omega arith) c.entry-entry.ensures c.resolve.ensures (omega arith) _ c.in_ok-place.was
    _ _ c.grown-after.ensures (omega arith)

pub returns : goal.returns
returns c = reaching_end c.loop.invariant (omega arith)
