-- Each edition has its own.
use mathlib.Core.Path.{◌∙◌}
use Rattle.share_contents.specs.Contents.{tree_ok}
use Rattle.share_contents.proofs.contents.tree_ok.Goals as goal

pub segments-requires : goal.segments-requires
segments-requires c = c.requires (rw c.in-Mdmf.is)

pub returns-in-Mdmf : goal.returns-in-Mdmf
unfolding tree_ok
returns-in-Mdmf c = c.full_tree_ok.ensures ∙ rw (c.in-Mdmf.is, c.segments.ensures)

pub returns-in-Sdmf : goal.returns-in-Sdmf
unfolding tree_ok
returns-in-Sdmf c = c.one_hash_ok.ensures ∙ rw c.in-Sdmf.is
