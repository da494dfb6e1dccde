-- The bytes that are taken are the run.
use Rattle.std.proofs.Common.{◌∙◌, ap, ℕ, ◌+◌, drop}
use Rattle.std.proofs.lemmas.List.{take_rest}
use Rattle.replaying.proofs.TextLaws.{length-taken}
use Rattle.replaying.proofs.scanning.run_end.Goals as goal

pub returns-clause-end : goal.returns-clause-end
returns-clause-end c =
    let e = rw (take_rest c.args.s.now c.args.at) at c.run.ensures.value in
    ap (λ (n : ℕ). c.args.at + n) (e ∙ length-taken c.args.sort (drop c.args.at c.args.s.now))
