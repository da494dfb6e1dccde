-- The bytes before the node id are as many as the magic has.
use mathlib.Core.Path.{sym}
use lib.Seq.{length-take-le}
use Rattle.format.specs.Layout.{node_at}
use Rattle.format.proofs.judging.has_magic.Goals as goal

pub slice_bounds-same-end : goal.slice_bounds-same-end
slice_bounds-same-end c = sym (length-take-le node_at c.before.args.c.now c.before.requires)

pub same-requires : goal.same-requires
same-requires c = length-take-le node_at c.args.c.now c.requires
