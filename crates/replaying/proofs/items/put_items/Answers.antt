-- What is left of the line, put into the buffer as it is now, is the whole line put into the first buffer.
use Rattle.std.proofs.Common.{refl, ◌∙◌, ◌+◌, length, arith}
use Rattle.std.proofs.lemmas.Result.{err_from_is_err_and}
use Rattle.replaying.proofs.ItemLaws.{turn, done, stopped}
use Rattle.replaying.proofs.items.put_items.Goals as goal

pub loop-next-init : goal.loop-next-init
loop-next-init c = (
  length c.args.s.now + 1,
  record {
    in_text = c.requires.0;
    enough = omega arith;
    in_room = c.requires.1;
    room = refl;
    puts = refl;
    counts = refl;
    rights = refl;
    answers = refl;
  },
)

pub loop-next-preserved : goal.loop-next-preserved
loop-next-preserved c =
    let w = rw (c.in_ok-next.was, c.in-Some.is) at c.put_item.ensures in
    turn _ _ _ _ _ _ _ _ c.loop-next.invariant.1 _ _ _ _ w.1

pub returns-in_err-next : goal.returns-in_err-next
returns-in_err-next c =
    let w = rw c.in_err-next.was at c.put_item.ensures in
    let p = err_from_is_err_and c.from_residual.result c.from_residual.ensures.1 in
    rw (p.1, p.2) (let z = stopped _ _ _ _ _ _ _ _ c.loop-next.invariant.1 c.put_item.new.d _ w in record { written = z.0; answer = z.1 })

pub returns : goal.returns
returns c =
    let w = rw (c.in_ok-next.was, c.in_default.is) at c.put_item.ensures in
    let z = done _ _ _ _ _ _ _ _ c.loop-next.invariant.1 w.0 in
    record { written = (z.0.0, z.0.1, z.0.2, w.1 ∙ z.0.3); answer = z.1 }
