-- The audit (docs/RULES.md, U1 to U4): who keeps a slot alive, as rows in the caller's table.
use Rattle.std.specs.Prelude.{ℕ, cond, List, [], ◌∷◌, ◌++◌, map, length, drop, eqb, ltb}
use Rattle.octets.specs.Lists.{only}
use Rattle.octets.specs.Rows.{Row, row, first_row}
use Rattle.format.specs.Layout.{owner_of, expiry_of, renewal_of, cancel_of, lease_node_of}
use Rattle.format.specs.Container.{held, container_rows}
use Rattle.format.specs.Parts.{Parts, parts_of}
use Rattle.rules.specs.Leasing.{present}
use Rattle.rules.specs.Outcomes.{answer_of, no_node}
use Rattle.rules.specs.declared.Answer.{Answer}
use Rattle.upkeep_rules.specs.declared.LeaseRow.{LeaseRow}

-- A lease's row: the five fields of its record (U1).
unfoldable pub row_of : List ℕ → LeaseRow
row_of r = record {
  owner = owner_of r;
  expiry = expiry_of r;
  renewal = renewal_of r;
  cancel = cancel_of r;
  node = lease_node_of r;
}

-- One row for each lease among the places, in their order; an empty place has none (U2).
unfoldable pub rows_of : List (List ℕ) → List LeaseRow
rows_of ls = map row_of (only held ls)

-- Row 7: the table has fewer rows than there are leases (U3, O7).
abbrev pub table_rows : Parts → ℕ → List Row
table_rows p n = row 7 (ltb n (present p.leases)) ∷ []

-- The outcome's number for a container and a table of n rows: 1, 2 or 7 (U3).
unfoldable pub audit_outcome : List ℕ → ℕ → ℕ
audit_outcome c n = first_row (container_rows c ++ table_rows (parts_of c) n)

-- The answer with outcome n counts the leases on 0 (U4).
unfoldable pub audit_to : ℕ → Parts → Answer
audit_to n p = answer_of n no_node (cond (eqb n 0) (present p.leases) 0)

unfoldable pub audit_answer : List ℕ → ℕ → Answer
audit_answer c n = audit_to (audit_outcome c n) (parts_of c)

-- The table with outcome n: on 0 the rows from its first on, and those beyond stay; else all of it stays (U4).
unfoldable pub table_to : ℕ → Parts → List LeaseRow → List LeaseRow
table_to n p t = cond (eqb n 0) (rows_of p.leases ++ drop (present p.leases) t) t

unfoldable pub audit_table : List ℕ → List LeaseRow → List LeaseRow
audit_table c t = table_to (audit_outcome c (length t)) (parts_of c) t
