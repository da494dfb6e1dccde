-- The invariant: the rows from `at` on are those from i on, so a lease is left, and `at` is a place. Assumes nothing.
use mathlib.Core.Path.{refl, sym, ap, ◌∙◌}
use mathlib.Core.Bool.{not}
use Rattle.upkeep.proofs.AuditLaws.{reached, reached_empty, reached_held}
use Rattle.upkeep.proofs.auditing.next_lease.Goals as goal

pub loop-at-init : goal.loop-at-init
loop-at-init c = reached c.args.c.now _ c.args.i c.args.i c.frame_of-frame.ensures c.requires.1 refl

pub is_held-requires : goal.is_held-requires
is_held-requires c = rw c.place_at.ensures c.loop-at.invariant.inside

pub loop-at-preserved : goal.loop-at-preserved
loop-at-preserved c =
    reached _ _ _ _ c.frame_of-frame.ensures c.requires.1
    (reached_empty _ _ _ _ c.loop-at.invariant c.place_at.result c.place_at.ensures
    (ap not (sym c.is_held.ensures ∙ c.loop-at-test.true)))

pub row_at-requires : goal.row_at-requires
row_at-requires c = rw c.place_at-2.ensures c.loop-at.invariant.inside

pub returns : goal.returns
returns c =
    rw (c.row_at.ensures, c.place_at-2.ensures, ← c.place_at.ensures)
    (reached_held _ _ _ _ c.loop-at.invariant c.place_at.result c.place_at.ensures
    (ap not (sym c.is_held.ensures ∙ c.loop-at-test.false)))
