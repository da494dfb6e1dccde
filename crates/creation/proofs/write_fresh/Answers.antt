-- The stores into a cleared buffer, one after the other. Assumes nothing.
use mathlib.Core.Path.{◌≡◌}
use lib.ListN.{length, replicate}
use Rattle.creation.proofs.FreshLaws.{fresh-bytes}
use Rattle.creation.proofs.write_fresh.Goals as goal

pub returns : goal.returns
returns c =
    let a = c.args in
    let zeros : c.fill.new.self ≡ replicate (length a.c.now) 0 = c.fill.ensures.after (λ y h. h) in
    rw (c.put_u64.ensures, c.copy_part-3.ensures, c.copy_part-2.ensures, c.copy_part.ensures, zeros)
    (fresh-bytes (length a.c.now) a.node.now a.enabler.now c.requires.0 c.requires.1 c.requires.2)
