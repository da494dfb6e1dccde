-- Rows as spans.
use Rattle.std.specs.Prelude.{ℕ, ◌+◌, ◌-◌, Bool, cond, ◌&&◌, List, length, take, drop, leb, ltb}
use Rattle.octets.specs.Numbers.{number_at}
use Rattle.octets.specs.Strings.{all_zero}
use Rattle.lists.specs.declared.rows.Span.{Span}

-- The row at p as a span: from its start up to its end.
abbrev pub span_at : ℕ → List ℕ → Span
span_at p t = record { from = number_at 4 p t; to = number_at 4 p t + number_at 4 (p + 4) t }

-- The first of two spans unless it is empty.
unfoldable pub chosen : Span → Span → Span
chosen s u = cond (ltb s.from s.to) s u

-- A row as it is judged beside data: where it may begin, that it is not empty, where it ends, what it names (N3 to N5).
unfoldable pub span_ok : ℕ → Span → List ℕ → Bool
span_ok low s d =
    leb low s.from
    && (ltb s.from s.to && (leb s.to (length d) && all_zero (take (s.to - s.from) (drop s.from d))))
