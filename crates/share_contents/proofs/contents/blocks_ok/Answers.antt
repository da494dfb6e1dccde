-- Each edition has its own.
use mathlib.Core.Path.{◌∙◌}
use Rattle.share_contents.specs.Contents.{blocks_ok}
use Rattle.share_contents.proofs.contents.blocks_ok.Goals as goal

pub segments-requires : goal.segments-requires
segments-requires c = c.requires.1 (rw c.in-Mdmf.is)

pub returns-in-Mdmf : goal.returns-in-Mdmf
unfolding blocks_ok
returns-in-Mdmf c = c.salted_ok.ensures ∙ rw (c.in-Mdmf.is, c.segments.ensures)

pub returns-in-Sdmf : goal.returns-in-Sdmf
unfolding blocks_ok
returns-in-Sdmf c = rw c.in-Sdmf.is
