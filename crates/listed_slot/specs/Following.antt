-- What a request's writes and its cut make of the stretches.
use Rattle.std.specs.Prelude.{ℕ, List}
use Rattle.std.proofs.Math.Option.{Option}
use Rattle.rules.specs.Requests.{Write}
use Rattle.rules.specs.Writing.{placed}
use Rattle.rules.specs.Changes.{write_changes, cut_change}
use Rattle.stretches.specs.Stretches.{Stretch, stretches_after}

-- The writes at the positions that they name on data of size n, then the cut, if any (docs/RULES.md, N9).
abbrev pub followed_by : List Write → Option ℕ → ℕ → List Stretch → List Stretch
followed_by ws cut n rs = stretches_after (write_changes (placed ws n) (cut_change cut)) n rs
