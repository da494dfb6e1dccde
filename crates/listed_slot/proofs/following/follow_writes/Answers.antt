-- The invariant: what is left of the table makes of the rows so far what the whole table makes of the first rows.
use native.Mathlib.Omega.{arith}
use Rattle.octets.specs.Facts.{Octets}
use Rattle.writes.proofs.TableLaws.{taken, rest_fits, entry_bounds}
use Rattle.listed_slot.proofs.FollowingLaws.{following_start, following_next, following_end}
use Rattle.listed_slot.proofs.following.follow_writes.Goals as goal

pub loop-init : goal.loop-init
loop-init c = let p = c.requires in following_start c.args.t c.args.size _ c.args.rows.now p.0 p.1.1 (omega arith)

pub entry-entry-requires : goal.entry-entry-requires
entry-entry-requires c = (omega arith, rest_fits c.loop.invariant.rest (omega arith))

pub write_over-requires : goal.write_over-requires
write_over-requires c =
    let octets : Octets c.args.q.now = λ i. omega (arith, c.type_inv.q i) in
    let F = c.loop.invariant in (
      F.ready,
      entry_bounds (taken c.loop.after octets (omega arith) F.rest c.entry-entry.ensures c.position-place.ensures)
          octets c.requires.0.short _ c.requires.1.0 F.small,
    )

pub grown-after-requires : goal.grown-after-requires
grown-after-requires c =
    let octets : Octets c.args.q.now = λ i. omega (arith, c.type_inv.q i) in
    let F = c.loop.invariant in
    entry_bounds (taken c.loop.after octets (omega arith) F.rest c.entry-entry.ensures c.position-place.ensures)
    octets c.requires.0.short _ c.requires.1.0 F.small

pub loop-preserved : goal.loop-preserved
loop-preserved c =
    let octets : Octets c.args.q.now = λ i. omega (arith, c.type_inv.q i) in
    let F = c.loop.invariant in
    following_next F (taken c.loop.after octets (omega arith) F.rest c.entry-entry.ensures c.position-place.ensures)
    c.requires.0.short c.requires.1.0 _ _ _ c.write_over.ensures c.grown-after.ensures (omega arith)

pub returns-clause-rows_after : goal.returns-clause-rows_after
returns-clause-rows_after c = following_end c.loop.invariant (omega arith)
