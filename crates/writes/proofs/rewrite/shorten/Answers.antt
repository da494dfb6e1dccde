-- The size, then what is freed, then the writes.
use native.Mathlib.Omega.{arith}
use Rattle.std.proofs.Common.{rules}
use Rattle.octets.specs.Facts.{Octets}
use Rattle.format.specs.View.{tail_size}
use Rattle.format.specs.Parts.{parts_of}
use Rattle.format.proofs.ViewLaws.{formed_laid}
use Rattle.rules.specs.Outcomes.{after}
use Rattle.requests.specs.Forms.{cut_in}
use Rattle.format.proofs.KnownLaws.{known_room}
use Rattle.writes.proofs.Whole.{freed_whole, final_room}
use Rattle.writes.proofs.rewrite.shorten.Goals as goal

pub put_size-requires : goal.put_size-requires
put_size-requires c = omega (arith, final_room c.requires.0 c.requires.2)

pub free-requires : goal.free-requires
free-requires c =
    let r = known_room c.requires.0 in
    (omega (arith, c.requires.3), omega (arith, r.0, r.1), omega (arith, r.2))

pub write_data-requires : goal.write_data-requires
write_data-requires c =
    let k = known_room c.requires.0 in
    (omega (arith, final_room c.requires.0 c.requires.2), c.requires.1, omega arith)

pub returns : goal.returns
unfolding after parts_of
returns c =
    let a = c.args in
    let k = tail_size a.frame.extras in
    let b = a.frame.offset in
    let m = known_room c.requires.0 in
    let o : Octets a.c.now = λ i. search rules in
    let L = (c.put_size.ensures b k).turn (formed_laid a.c.now a.frame c.requires.0 o) in
    let F = (c.free.ensures b k m.0).turn L in
    freed_whole a.c.now _ a.frame a.f c.requires.0 o _ (cut_in a.t.cut) c.requires.3
    ((c.write_data.ensures b k (omega (arith, m.0, c.requires.3))).turn F) c.requires.2.size
