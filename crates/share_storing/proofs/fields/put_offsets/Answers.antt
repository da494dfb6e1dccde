-- Each edition has its own.
use mathlib.Core.Path.{◌∙◌}
use Rattle.share_storing.proofs.fields.put_offsets.Goals as goal

pub put_mdmf_offsets-requires : goal.put_mdmf_offsets-requires
put_mdmf_offsets-requires c = rw c.in-Mdmf.is at c.requires.0

pub put_sdmf_offsets-requires : goal.put_sdmf_offsets-requires
put_sdmf_offsets-requires c =
    let z = c.in-Sdmf.is in
    let p = c.requires in
    (rw z at p.0, p.1 (rw z))

pub returns-in-Mdmf : goal.returns-in-Mdmf
returns-in-Mdmf c = c.put_mdmf_offsets.ensures ∙ rw c.in-Mdmf.is

pub returns-in-Sdmf : goal.returns-in-Sdmf
returns-in-Sdmf c = c.put_sdmf_offsets.ensures ∙ rw c.in-Sdmf.is
