-- The two lengths, whatever the offsets name.
use native.Mathlib.Omega.{arith}
use Rattle.format.proofs.KnownLaws.{lent, known_room, lent_small}
use Rattle.verdicts.proofs.VerdictLaws.{Judging, judging, both_are}
use Rattle.verdicts.proofs.writing.both_lengths.Goals as goal

pub data_end-to-requires : goal.data_end-to-requires
data_end-to-requires c = omega (arith, known_room c.requires.0)

pub size_reached-reached-requires : goal.size_reached-reached-requires
size_reached-reached-requires c = (c.requires.1, omega (arith, known_room c.requires.0))

pub slice_bounds-reply_length-end : goal.slice_bounds-reply_length-end
slice_bounds-reply_length-end c = omega (arith, c.data_end-to.ensures, known_room c.requires.0)

pub reply_length-requires : goal.reply_length-requires
reply_length-requires c = (c.requires.1.tests, lent_small c.requires.0 c.data_end-to.ensures)

pub returns : goal.returns
returns c =
    let J : let a = c.args in Judging a.c.now a.q.now (lent a.c.now c.data_end-to.result) a.frame a.t =
    judging c.requires c.data_end-to.ensures in
    both_are J 0 _ _ _ c.reply_length.ensures c.size_reached-reached.ensures c.cut_size.ensures
