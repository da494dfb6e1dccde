-- Stores, each behind the one before.
use mathlib.Core.Path.{◌≡◌, refl}
use mathlib.Core.List.{[]}
use native.Mathlib.Omega.{arith}
use lib.ListN.{length, get_or, length-map}
use lib.Seq.{take_all}
use Rattle.std.proofs.lemmas.List.{take_more}
use Rattle.octets.proofs.MoveLaws.{stored_none, stored_more}
use Rattle.share_writing.specs.Facts.{strings}
use Rattle.share_writing.proofs.PartLaws.{blank, string_at, join_upto, stored-length}
use Rattle.share_writing.proofs.put_parts.Goals as goal

pub loop-part-init : goal.loop-part-init
loop-part-init c = stored_none c.args.from c.args.d.now (omega (arith, c.requires))

pub copy_part-requires : goal.copy_part-requires
copy_part-requires c =
    let l = c.loop-part in
    let ps = c.args.parts.now in
    let h = c.loop-part-test.true in
    let s = l.invariant in
    let u = join_upto (strings ps) l.part-index (rw length-map h) in
    let n = rw (string_at ps l.part-index h) at u in
    let k = stored-length _ _ _ _ _ s (omega (arith, s.ends, n, c.requires)) in
    omega (arith, k, n, s.ends, c.requires)

pub loop-part-preserved : goal.loop-part-preserved
loop-part-preserved c =
    let l = c.loop-part in
    let ps = c.args.parts.now in
    let h = c.loop-part-test.true in
    rw (take_more (strings ps) l.part-index [] (rw length-map h), string_at ps l.part-index h)
    (stored_more _ _ (length (get_or ps l.part-index blank).now) _ _ _ _ _ l.invariant c.copy_part.ensures refl)

pub returns : goal.returns
returns c =
    let l = c.loop-part in
    let ps = c.args.parts.now in
    let k : length (strings ps) ≡ length ps = length-map _ _ in
    let t = take_all l.part-index (strings ps) (omega (arith, k, c.loop-part-test.false)) in
    (rw t at l.invariant).is
