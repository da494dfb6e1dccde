-- Rows in memory while a request is judged.
use Rattle.std.specs.Prelude.{ℕ, ◌+◌, ◌*◌, ◌≤◌, ◌<◌, ◌≡◌, List, ◌++◌, length}
use Rattle.octets.specs.Facts.{Fits32}
use Rattle.stretches.specs.Stretches.{Stretch, between}
use Rattle.stretches.specs.List.{row_size, rows_from}
use Rattle.stretches.specs.Claims.{Rising}
use Rattle.lists.specs.declared.rows.Span.{Span}
use Rattle.lists.specs.declared.rows.Rows.{Rows}

-- Room for 256 rows, one more for each of 16 writes, and one that a pass over all of them may hold back.
abbrev pub table_rows : ℕ
table_rows = 273

-- The rows that there are.
abbrev pub rows_of : Rows → List Stretch
rows_of t = rows_from t.count 0 t.bytes

-- A span pushed on t has made u: the rows before it, then what the span names. The rows behind it are as they were.
pub record Pushed (t : Rows) (s : Span) (u : Rows) : Type 0 where
  pub most : u.count ≤ t.count + 1
  pub rows : rows_of u ≡ rows_of t ++ between s.from s.to
  pub rest : (k p : ℕ) → row_size * t.count + row_size ≤ p → rows_from k p u.bytes ≡ rows_from k p t.bytes

-- Rows in order and inside data of a size, with room for one more; of some size.
pub record Ready (t : Rows) (size : ℕ) : Type 0 where
  pub room : length (rows_of t) < table_rows
  pub fits : Fits32 size
  pub rises : Rising 0 (rows_of t) size

pub record Ordered (t : Rows) : Type 0 where
  pub size : ℕ
  pub ready : Ready t size
