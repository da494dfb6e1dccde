-- The view refitted, then the writes, then the fields.
use mathlib.Core.Path.{◌≡◌, sym, ◌∙◌}
use Prim.Native.Nat.{◌+◌, ◌-◌}
use lib.ListN.{length, drop, replicate, drop_of_length-le}
use native.Mathlib.Omega.{arith}
use Rattle.std.proofs.Common.{rules}
use Rattle.octets.specs.Facts.{Octets}
use Rattle.format.specs.View.{tail_size}
use Rattle.format.specs.Parts.{parts_of}
use Rattle.format.proofs.ViewLaws.{formed_laid}
use Rattle.format.proofs.ByteLaws.{at_loose}
use Rattle.rules.specs.Outcomes.{after}
use Rattle.requests.specs.Forms.{cut_in}
use Rattle.format.specs.Layout.{data_at, data_of, slack_of, moved_count}
use Rattle.format.proofs.WellFormed.{moved_up}
use Rattle.format.proofs.KnownLaws.{known_room}
use Rattle.writes.proofs.Whole.{rewritten_whole, both_fit, final_room}
use Rattle.writes.proofs.rewrite.lengthen.Goals as goal

pub bare-z-requires : goal.bare-z-requires
bare-z-requires c =
    let k = known_room c.requires.0 in
    (c.requires.1, omega arith, omega (arith, c.requires.3))

pub lift-requires : goal.lift-requires
lift-requires c = (both_fit c.requires.0 c.requires.2, c.requires.3, omega (arith, c.bare-z.ensures))

pub write_data-requires : goal.write_data-requires
write_data-requires c =
    let k = known_room c.requires.0 in
    (omega (arith, final_room c.requires.0 c.requires.2), c.requires.1, omega arith)

pub resized-requires : goal.resized-requires
resized-requires c = omega (arith, final_room c.requires.0 c.requires.2)

pub put_fields-requires : goal.put_fields-requires
put_fields-requires c = omega (arith, final_room c.requires.0 c.requires.2)

pub returns : goal.returns
unfolding after parts_of
returns c =
    let a = c.args in
    let k = tail_size a.frame.extras in
    let e = data_at + a.f in
    let g : moved_count a.frame.offset a.f ≡ e = moved_up a.frame.offset a.f c.requires.3 in
    let o : Octets a.c.now = λ i. search rules in
    let x = c.lift.ensures.turn (formed_laid a.c.now a.frame c.requires.0 o) in
    let n : length x.bytes ≡ a.f = omega (arith, x.laid.upto) in
    let m : length x.bytes - a.f ≡ 0 = omega arith in
    let y : drop a.f x.bytes ≡ replicate (length x.bytes - a.f) 0 =
    drop_of_length-le x.bytes {i = a.f} (omega arith) ∙ rw m in
    let P = rw c.resized.ensures at c.put_fields.ensures in
    let d = a.c.now in
    rewritten_whole d _ a.frame a.f c.requires.0 o _ (cut_in a.t.cut) x.bytes (x.laid.upto ∙ sym g)
    (λ i l h. x.first i (omega (arith, c.bare-z.ensures)) (omega arith) ∙ at_loose (data_of d) (slack_of d) i) y
    (rw g (rw g at ((P e k).turn ((c.write_data.ensures e k (omega arith)).turn x.laid)))) c.requires.2.size
