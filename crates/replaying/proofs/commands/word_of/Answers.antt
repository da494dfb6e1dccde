-- Bytes that are no text are no word.
use Rattle.std.proofs.Common.{sym, ◌∙◌}
use Rattle.replaying.proofs.WordLaws.{unnamed}
use Rattle.replaying.proofs.commands.word_of.Goals as goal

pub returns-in_err-ok : goal.returns-in_err-ok
returns-in_err-ok c =
    rw c.from_residual.ensures
    (sym (unnamed c.args.w.now c.from_utf8.result c.from_utf8.ensures.cases
    (sym c.ok.ensures.value ∙ c.in_err-ok.was)))
