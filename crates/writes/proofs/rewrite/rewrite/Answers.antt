-- The three ways that change the size promise the whole; where it stays, the writes alone make it.
use native.Mathlib.Omega.{arith}
use Rattle.std.proofs.Common.{rules}
use Rattle.octets.specs.Facts.{Octets}
use Rattle.format.specs.View.{tail_size}
use Rattle.format.specs.Parts.{parts_of}
use Rattle.format.proofs.KnownLaws.{known_room}
use Rattle.format.proofs.ViewLaws.{formed_laid}
use Rattle.rules.specs.Outcomes.{after}
use Rattle.requests.specs.Forms.{cut_in}
use Rattle.writes.proofs.Whole.{filled_whole, same_head}
use Rattle.writes.proofs.rewrite.rewrite.Goals as goal

pub overflow_sub-frame : goal.overflow_sub-frame
overflow_sub-frame c = omega (arith, (known_room c.requires.0).0)

pub write_data-requires : goal.write_data-requires
write_data-requires c =
    let m = known_room c.requires.0 in
    (omega (arith, m.0, m.1), c.requires.1, omega arith)

pub returns : goal.returns
unfolding after parts_of
returns c =
    let a = c.args in
    let k = tail_size a.frame.extras in
    let m = known_room c.requires.0 in
    let o : Octets a.c.now =
    λ i. search rules in
    let b = a.frame.offset in
    let W = (c.write_data.ensures b k (omega (arith, m.0))).turn (formed_laid a.c.now a.frame c.requires.0 o) in
    filled_whole a.c.now _ a.frame a.f c.requires.0 o _ (cut_in a.t.cut) (omega arith) (omega (arith, m.0))
    (rw (← same_head a.c.now a.c.now a.frame a.f c.requires.0 o (omega arith)) W) c.requires.2.size
