-- The salts are taken off.
use mathlib.Core.Path.{sym, ◌∙◌}
use Rattle.share_contents.proofs.ContentLaws.{salts_few, salts_off, rounded-ceil}
use Rattle.share_contents.proofs.contents.salted_ok.Goals as goal

pub returns-then-size-salt : goal.returns-then-size-salt
returns-then-size-salt c = sym (salts_few _ _ _ _ c.if-size-salt.true)

pub returns : goal.returns
returns c = rw (c.div_ceil.ensures ∙ sym (rounded-ceil c.args.data_length c.args.k c.requires)) (salts_off _ _ _ _ c.if-size-salt.false)
