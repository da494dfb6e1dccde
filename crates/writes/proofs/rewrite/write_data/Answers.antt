-- What is lent is the data at its final size.
use Rattle.rules.specs.Writing.{placed}
use Rattle.requests.specs.Forms.{writes_in}
use Rattle.writes.proofs.RewriteLaws.{data_laid}
use Rattle.writes.proofs.rewrite.write_data.Goals as goal

pub returns : goal.returns
returns c o k w =
    let a = c.args in
    let ws = placed (writes_in a.t a.q.now) a.size in
    record { turn = λ L. data_laid _ o k a.c.now _ _ _ _ L a.f ws w c.overlay_all.ensures }
