-- What resolving an offset answers (docs/RULES.md, T1).
use Rattle.std.specs.Prelude.{ℕ, ℤ, cond, Option, Some, None}
use Rattle.rules.specs.Testing.{resolves, position}

-- The position, where the rules give one.
abbrev pub resolved_of : ℤ → ℕ → Option ℕ
resolved_of o size = cond (resolves o size) (Some (position o size)) None
