-- Numbers at the edges of audits and sweeps (docs/RULES.md, P64 to P69), as two tables with one claim.
use Rattle.std.specs.Prelude.{ℕ, zero, suc, ◌+◌, ◌≡◌, List, [], ◌∷◌, ◌++◌, map, replicate}
use Rattle.octets.specs.Numbers.{digits}
use Rattle.format.specs.Layout.{data_of, slack_of, leases_of, owner_of, used_end}
use Rattle.format.specs.Parts.{no_lease}
use Rattle.rules.specs.Edges.{node, letters, slackened}
use Rattle.upkeep_rules.specs.Auditing.{audit_answer, audit_table}
use Rattle.upkeep_rules.specs.Sweeping.{sweep_answer, swept_container}
use Rattle.upkeep_rules.specs.declared.LeaseRow.{LeaseRow}

-- A lease of owner k with the expiry x: as its record of 92 bytes, and as the row that an audit gives of it.
abbrev pub lease : ℕ → ℕ → List ℕ
lease k x = digits 4 k ++ (digits 4 x ++ (replicate 32 k ++ (replicate 32 (k + 100) ++ node)))

abbrev pub lease_row : ℕ → ℕ → LeaseRow
lease_row k x =
    record { owner = k; expiry = x; renewal = replicate 32 k; cancel = replicate 32 (k + 100); node = node }

-- n leases of the owners from k on, all with the expiry x; and their rows.
unfoldable pub many : ℕ → ℕ → ℕ → List (List ℕ)
many zero k x = []
many (suc n) k x = lease k x ∷ many n (suc k) x

unfoldable pub many_rows : ℕ → ℕ → ℕ → List LeaseRow
many_rows zero k x = []
many_rows (suc n) k x = lease_row k x ∷ many_rows n (suc k) x

-- A sweep of a container.
pub record Sweep : Type 0 where
  pub container : List ℕ
  pub time : ℕ

-- What it gives: number and count; then the owner at each place (0 where it is empty), data, slack and used length.
pub record Swept : Type 0 where
  pub number : ℕ
  pub count : ℕ
  pub places : List ℕ
  pub bytes : List ℕ
  pub slack : ℕ
  pub used : ℕ

unfoldable pub sweeping : Sweep → Swept
sweeping x =
    let c : List ℕ = swept_container x.container x.time in
    record {
      number = (sweep_answer x.container x.time).number;
      count = (sweep_answer x.container x.time).count;
      places = map owner_of (leases_of c);
      bytes = data_of c;
      slack = slack_of c;
      used = used_end c;
    }

-- Short names: a sweep at a time of ABCDE with k bytes of slack and lease places ls, in n bytes; and a row of what it
-- gives, which is done and leaves the data.
abbrev pub at : ℕ → ℕ → ℕ → List (List ℕ) → Sweep
at time n k ls = record { container = slackened n letters k ls; time = time }

abbrev pub leaves : ℕ → List ℕ → ℕ → ℕ → Swept
leaves count places slack used =
    record { number = 0; count = count; places = places; bytes = letters; slack = slack; used = used }

-- Three leases with the expiries 10, 20, 30 and an empty place; six leases, two of them extras, of which those with the
-- expiry 1 expire first.
abbrev pub three : List (List ℕ)
three = lease 1 10 ∷ lease 2 20 ∷ lease 3 30 ∷ no_lease ∷ []

abbrev pub six : ℕ → ℕ → ℕ → List (List ℕ)
six x y z = many 3 1 x ++ (lease 4 x ∷ lease 5 y ∷ lease 6 z ∷ [])

-- P64: time 0; equal to an expiry, and one above it; above all; the greatest time and the greatest expiry. P65: the last
-- extra expires and the one before it; the last alone; the one before it alone; the four alone; the last of three extras
-- and the first. P66: all 64; no lease at all. P67: an extra expires beside 8 bytes of slack; the four do.
abbrev pub sweeps : List Sweep
sweeps =
    at 0 500 0 (lease 1 0 ∷ lease 2 1 ∷ no_lease ∷ no_lease ∷ [])
    ∷ at 10 500 0 three
    ∷ at 11 500 0 three
    ∷ at 30 500 0 three
    ∷ at 31 500 0 three
    ∷ at 4294967295 500 0 (lease 1 4294967295 ∷ lease 2 4294967294 ∷ no_lease ∷ no_lease ∷ [])
    ∷ at 2 700 0 (six 9 1 1)
    ∷ at 2 700 0 (six 9 9 1)
    ∷ at 2 700 0 (six 9 1 9)
    ∷ at 2 700 0 (six 1 9 9)
    ∷ at 2 800 0 (many 4 1 9 ++ (lease 5 1 ∷ lease 6 9 ∷ lease 7 1 ∷ []))
    ∷ at 8 6000 0 (many 64 1 7)
    ∷ at 7 500 0 (replicate 4 no_lease)
    ∷ at 2 700 8 (many 4 1 9 ++ (lease 5 1 ∷ []))
    ∷ at 2 700 8 (many 4 1 1 ++ (lease 5 9 ∷ []))
    ∷ []

abbrev pub swept : List Swept
swept =
    leaves 2 (1 ∷ 2 ∷ 0 ∷ 0 ∷ []) 0 477
    ∷ leaves 3 (1 ∷ 2 ∷ 3 ∷ 0 ∷ []) 0 477
    ∷ leaves 2 (0 ∷ 2 ∷ 3 ∷ 0 ∷ []) 0 477
    ∷ leaves 1 (0 ∷ 0 ∷ 3 ∷ 0 ∷ []) 0 477
    ∷ leaves 0 (0 ∷ 0 ∷ 0 ∷ 0 ∷ []) 0 477
    ∷ leaves 1 (1 ∷ 0 ∷ 0 ∷ 0 ∷ []) 0 477
    ∷ leaves 4 (1 ∷ 2 ∷ 3 ∷ 4 ∷ []) 0 477
    ∷ leaves 5 (1 ∷ 2 ∷ 3 ∷ 4 ∷ 5 ∷ []) 0 569
    ∷ leaves 5 (1 ∷ 2 ∷ 3 ∷ 4 ∷ 0 ∷ 6 ∷ []) 0 661
    ∷ leaves 2 (0 ∷ 0 ∷ 0 ∷ 0 ∷ 5 ∷ 6 ∷ []) 0 661
    ∷ leaves 5 (1 ∷ 2 ∷ 3 ∷ 4 ∷ 0 ∷ 6 ∷ []) 0 661
    ∷ leaves 0 (0 ∷ 0 ∷ 0 ∷ 0 ∷ []) 0 477
    ∷ leaves 0 (0 ∷ 0 ∷ 0 ∷ 0 ∷ []) 0 477
    ∷ leaves 4 (1 ∷ 2 ∷ 3 ∷ 4 ∷ []) 8 485
    ∷ leaves 1 (0 ∷ 0 ∷ 0 ∷ 0 ∷ 5 ∷ []) 8 577
    ∷ []

-- An audit of a container with a table of n rows, each that of owner 255 with the expiry 255.
pub record Audit : Type 0 where
  pub container : List ℕ
  pub rows : ℕ

abbrev pub blank : ℕ → List LeaseRow
blank n = replicate n (lease_row 255 255)

-- What it gives: number, count and the whole table.
pub record Audited : Type 0 where
  pub number : ℕ
  pub count : ℕ
  pub table : List LeaseRow

unfoldable pub auditing : Audit → Audited
auditing x = record {
  number = (audit_answer x.container x.rows).number;
  count = (audit_answer x.container x.rows).count;
  table = audit_table x.container (blank x.rows);
}

-- Short names: an audit with n rows of ABCDE with 2 bytes of slack and lease places ls, in 800 bytes; of other bytes;
-- and a row of what it gives.
abbrev pub with_rows : ℕ → List (List ℕ) → Audit
with_rows n ls = record { container = slackened 800 letters 2 ls; rows = n }

abbrev pub of_bytes : ℕ → List ℕ → Audit
of_bytes n c = record { container = c; rows = n }

abbrev pub gives : ℕ → ℕ → List LeaseRow → Audited
gives number count t = record { number = number; count = count; table = t }

-- Leases in slot order with empty places between: the second place, the fourth, and the last of three extras.
abbrev pub scattered : List (List ℕ)
scattered = no_lease ∷ lease 8 80 ∷ no_lease ∷ lease 3 0 ∷ no_lease ∷ no_lease ∷ lease 5 4294967295 ∷ []

-- P68: three leases among empty places with a table of 3 rows, of 2, of 5, of none; no lease with no row, with 2; 64
-- leases with 64 rows, with 63. P69: 471 bytes; 500 bytes that are no container, with no row.
abbrev pub audits : List Audit
audits =
    with_rows 3 scattered
    ∷ with_rows 2 scattered
    ∷ with_rows 5 scattered
    ∷ with_rows 0 scattered
    ∷ with_rows 0 (replicate 4 no_lease)
    ∷ with_rows 2 (replicate 4 no_lease)
    ∷ of_bytes 64 (slackened 6000 letters 2 (many 64 1 7))
    ∷ of_bytes 63 (slackened 6000 letters 2 (many 64 1 7))
    ∷ of_bytes 0 (replicate 471 0)
    ∷ of_bytes 0 (replicate 500 0)
    ∷ []

abbrev pub audited : List Audited
audited =
    gives 0 3 (lease_row 8 80 ∷ lease_row 3 0 ∷ lease_row 5 4294967295 ∷ [])
    ∷ gives 7 0 (blank 2)
    ∷ gives 0 3 (lease_row 8 80 ∷ lease_row 3 0 ∷ lease_row 5 4294967295 ∷ blank 2)
    ∷ gives 7 0 []
    ∷ gives 0 0 []
    ∷ gives 0 0 (blank 2)
    ∷ gives 0 64 (many_rows 64 1 7)
    ∷ gives 7 0 (blank 63)
    ∷ gives 1 0 []
    ∷ gives 2 0 []
    ∷ []

-- P69: a sweep of 471 bytes and of 500 that are no container gives 1 and 2, and leaves them.
pub record Refused (c : List ℕ) (number : ℕ) : Type 0 where
  pub answer : (sweep_answer c 9).number ≡ number
  pub kept : swept_container c 9 ≡ c

-- The tables' claim.
pub record UpkeepEdgesHold : Type 0 where
  pub sweep_table : map sweeping sweeps ≡ swept
  pub audit_table_holds : map auditing audits ≡ audited
  pub too_short : Refused (replicate 471 0) 1
  pub malformed : Refused (replicate 500 0) 2
