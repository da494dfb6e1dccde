-- The OR of all bytes is 0 where each is.
use Rattle.std.proofs.Common.{rules, ◌≡◌, ◌∙◌, ap, ℕ, nat_eq, bit_or}
use Rattle.std.specs.List.{fold}
use Rattle.std.proofs.iter.runs.Made.{chains}
use Rattle.octets.proofs.StringLaws.{fold_or}
use Rattle.octets.proofs.strings.zero_part.Goals as goal

pub returns : goal.returns
returns c =
    let r : c.fold.result ≡ fold bit_or 0 c.args.s.now = search (rules, chains) in
    ap (λ (n : ℕ). nat_eq n 0) r ∙ fold_or c.args.s.now 0
