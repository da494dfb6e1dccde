-- A read goes to its reader; anything else is refused as the empty request is.
use Rattle.container.proofs.LookingLaws.{looked_read, looked_other}
use Rattle.container.proofs.looking.read_formed.Goals as goal

pub returns-in-Some : goal.returns-in-Some
returns-in-Some c =
    let both = looked_read c.args.c.now c.args.q.now c.args.r.now _ _ _ c.in-Some.ensures.is
    (c.read.ensures.value, c.read.ensures.r_after) in
    record { value = both.0; r_after = both.1 }

pub returns-in-None : goal.returns-in-None
returns-in-None c =
    let both = looked_other c.args.c.now c.args.q.now c.args.r.now _ c.requires.formed c.in-None.ensures
    c.refused.ensures in
    record { value = both.0; r_after = both.1 }
