-- The kind that a request's first byte names (docs/RULES.md, Q1, X2, X3).
use Rattle.std.specs.Prelude.{ℕ, ◌≡◌, ◌<◌, ◌⊎◌, Result, MatchResult}
use Rattle.requests.specs.declared.kinds.Kind.{Kind}
use Rattle.requests.specs.declared.kinds.Kind.TheVariants.{TestWrite, Add, Renew, Cancel, Read}
use Rattle.requests.specs.declared.kinds.NoKind.{NoKind}

-- The first byte of each kind.
abbrev pub kind_byte : Kind → ℕ
kind_byte TestWrite = 1
kind_byte Add = 2
kind_byte Renew = 3
kind_byte Cancel = 4
kind_byte Read = 5

-- The answer to a byte: the kind that begins with it, or that there is none.
abbrev pub Names : ℕ → Result Kind NoKind → Type 0
Names byte r = MatchResult r (λ k. kind_byte k ≡ byte) (λ e. (byte ≡ 0) ⊎ (5 < byte))
