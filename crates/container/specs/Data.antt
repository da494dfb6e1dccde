-- What a container lends to the crates above it: the number of its judgement, and where its data stand.
use Rattle.std.specs.Prelude.{ℕ, ◌+◌, cond, List, [], Result, Ok, Err}
use Rattle.octets.specs.Rows.{first_row}
use Rattle.format.specs.Layout.{data_at, size_of, data_of}
use Rattle.format.specs.Container.{well_formed, container_rows}
use Rattle.format.specs.Judging.{flaw_number}
use Rattle.format.specs.declared.judging.Flaw.{Flaw}
use Rattle.container.specs.declared.data.Extent.{Extent}

-- Where a slice points is a block and an offset: the place n bytes beyond another (docs/RULES.md, S35).
abbrev pub beyond : ℕ × ℕ → ℕ → ℕ × ℕ
beyond p n = (p.0, p.1 + n)

-- The outcome's number (0, 1 or 2), and where the data begin and end (both 0 on a refusal).
pub record Lent : Type 0 where
  pub number : ℕ
  pub from : ℕ
  pub to : ℕ

-- What the code answers, as number and places.
abbrev pub lent_as : Result Extent Flaw → Lent
lent_as (Ok d) = record { number = 0; from = d.from; to = d.to }
lent_as (Err e) = record { number = flaw_number e; from = 0; to = 0 }

-- Row 1, row 2 or 0, and where the data begin and end; on a refusal both are 0 (S37, S38).
unfoldable pub lent_of : List ℕ → Lent
lent_of c = record {
  number = first_row (container_rows c);
  from = cond (well_formed c) data_at 0;
  to = cond (well_formed c) (data_at + size_of c) 0;
}

-- The data of a well-formed container; of any other buffer, nothing (S37).
unfoldable pub data_lent : List ℕ → List ℕ
data_lent c = cond (well_formed c) (data_of c) []
