-- A write that begins inside the data is a put of its clipped bytes; one that begins behind it writes nothing.
use mathlib.Core.Path.{◌∙◌}
use native.Mathlib.Omega.{arith}
use lib.ListN.{length-take}
use Rattle.writes.proofs.TableLaws.{write_near, write_far}
use Rattle.writes.proofs.overlay.overlay_one.Goals as goal

pub returns-then-d-position : goal.returns-then-d-position
returns-then-d-position c =
    let a = c.args in
    write_far a.d.now a.position a.bytes.now (omega arith)

pub slice_bounds-copy_part-end : goal.slice_bounds-copy_part-end
slice_bounds-copy_part-end c = rw length-take (omega arith)

pub copy_part-requires : goal.copy_part-requires
copy_part-requires c = rw length-take (omega arith)

pub returns : goal.returns
returns c =
    let a = c.args in
    let n = c.min-n in
    c.copy_part.ensures
    ∙ write_near a.d.now a.position n.result a.bytes.now (omega arith) n.ensures
