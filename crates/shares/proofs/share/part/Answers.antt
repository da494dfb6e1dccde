-- The boundaries that the checker tells lie inside the slice; the edition that it tells is the share's.
use mathlib.Core.Path.{◌≡◌, ap, ◌∙◌}
use Rattle.share_format.specs.Header.{edition_of}
use Rattle.share_format.specs.Editions.{part_number}
use Rattle.shares.specs.Share.{share_part, part_at}
use Rattle.shares.specs.declared.share.Checked.{Checked}
use Rattle.shares.proofs.ShareLaws.{share_inside, checked_named, named}
use Rattle.shares.proofs.share.part.Goals as goal

pub part-requires : goal.part-requires
part-requires c =
    let h = c.number.ensures.below in
    (h, rw c.check-checked.ensures (share_inside c.args.s.now _ h))

pub returns : goal.returns
unfolding part_at share_part
returns c =
    let a = c.args in
    let e = c.check-checked.ensures in
    let n = named (edition_of a.s.now) _ (ap (λ (x : Checked). x.edition) e ∙ checked_named a.s.now) in
    let i : c.number.result ≡ part_number a.part (edition_of a.s.now) = c.number.ensures.is ∙ rw (c.named-edition.ensures ∙ n) in
    record {
      bytes = c.part.ensures.bytes ∙ rw (e, i);
      place = c.part.ensures.place ∙ rw (e, i);
    }
