-- As `part`, with the boundaries counted from the container's first byte.
use mathlib.Core.Path.{◌≡◌, ap, ◌∙◌}
use Rattle.container.specs.Data.{data_lent}
use Rattle.share_format.specs.Header.{edition_of}
use Rattle.share_format.specs.Editions.{part_number}
use Rattle.shares.specs.Share.{container_part, container_part_at}
use Rattle.shares.specs.declared.share.Checked.{Checked}
use Rattle.shares.proofs.ShareLaws.{container_inside, container_edition, named}
use Rattle.shares.proofs.share.container_part.Goals as goal

pub part-requires : goal.part-requires
part-requires c =
    let h = c.number.ensures.below in
    (h, rw c.check_container-checked.ensures (container_inside c.args.c.now _ h))

pub returns : goal.returns
unfolding container_part container_part_at
returns c =
    let a = c.args in
    let d = data_lent a.c.now in
    let e = c.check_container-checked.ensures in
    let n = named (edition_of d) _ (ap (λ (x : Checked). x.edition) e ∙ container_edition a.c.now) in
    let i : c.number.result ≡ part_number a.part (edition_of d) = c.number.ensures.is ∙ rw (c.named-edition.ensures ∙ n) in
    record {
      bytes = c.part.ensures.bytes ∙ rw (e, i);
      place = c.part.ensures.place ∙ rw (e, i);
    }
