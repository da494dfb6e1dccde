-- What is claimed of audits and sweeps (docs/RULES.md, D17 to D19). Proved in proofs/.
use Rattle.std.specs.Prelude.{ℕ, ◌≤◌, ◌<◌, ◌≡◌, true, false, ◌&&◌, List, [], ◌∷◌, ◌++◌, map, ◌↔◌, length, take, drop, get_or, leb}
use Rattle.octets.specs.Facts.{Octets, Each, Among}
use Rattle.octets.specs.Lists.{only}
use Rattle.octets.specs.Numbers.{digits}
use Rattle.format.specs.Layout.{node_of, enabler_of, data_of, count_at, slack_of, leases_of, expiry_of, fixed_places}
use Rattle.format.specs.Container.{length_allowed, held, last_held, well_formed}
use Rattle.format.specs.Parts.{parts_of, no_lease}
use Rattle.rules.specs.Leasing.{present}
use Rattle.rules.specs.Outcomes.{with_leases, no_node}
use Rattle.rules.specs.Slack.{SameButSlack}
use Rattle.upkeep_rules.specs.Auditing.{row_of, audit_answer, audit_table}
use Rattle.upkeep_rules.specs.Sweeping.{expired, swept_place, swept, sweep_answer, swept_container}
use Rattle.upkeep_rules.specs.declared.LeaseRow.{LeaseRow}

-- The conditions of an audit, each by itself, with a table of n rows (D17).
pub record AcceptsAudit (c : List ℕ) (n : ℕ) : Type 0 where
  pub formed : well_formed c ≡ true
  pub rows_fit : present (leases_of c) ≤ n

-- The audit, of any bytes as container and any table (D17).
pub record DemandAudit (c : List ℕ) (t : List LeaseRow) : Type 0 where
  -- the call ends in a number that the table of outcomes has for it
  pub number : Among (audit_answer c (length t)).number (0 ∷ 1 ∷ 2 ∷ 7 ∷ [])
  -- it is done exactly when the conditions hold, and each refusal is given exactly when its own reason is the first
  pub exactly : ((audit_answer c (length t)).number ≡ 0) ↔ AcceptsAudit c (length t)
  pub one : ((audit_answer c (length t)).number ≡ 1) ↔ (length_allowed c ≡ false)
  pub two : ((audit_answer c (length t)).number ≡ 2) ↔ ((length_allowed c ≡ true) × (well_formed c ≡ false))
  pub seven : ((audit_answer c (length t)).number ≡ 7)
      ↔ ((well_formed c ≡ true) × (length t < present (leases_of c)))
  -- refused: every row of the table stays, and nothing is counted
  pub refused : ((audit_answer c (length t)).number ≡ 0 → ⊥) → audit_table c t ≡ t
  pub uncounted : ((audit_answer c (length t)).number ≡ 0 → ⊥) → (audit_answer c (length t)).count ≡ 0
  -- done: the leases are counted, the table begins with one row for each of them, in slot order, and the rows beyond stay
  pub count : (audit_answer c (length t)).number ≡ 0 → (audit_answer c (length t)).count ≡ present (leases_of c)
  pub rows : (audit_answer c (length t)).number ≡ 0 →
      take (audit_answer c (length t)).count (audit_table c t) ≡ map row_of (only held (leases_of c))
  pub beyond : drop (audit_answer c (length t)).count (audit_table c t) ≡ drop (audit_answer c (length t)).count t
  -- the table's length never changes, and the answer's node id is zeros
  pub table_length : length (audit_table c t) ≡ length t
  pub no_node_holds : (audit_answer c (length t)).node ≡ no_node

-- What a sweep of a well-formed container leaves (D18).
pub record Sweeps (c : List ℕ) (time : ℕ) : Type 0 where
  -- no lease is below the time
  pub none_below : Each (λ r. held r ≡ true → time ≤ expiry_of r) (leases_of (swept_container c time))
  -- each place holds what it held, or 92 zero bytes where its lease had expired; a place that is dropped reads as empty
  pub places : (i : ℕ) → get_or (leases_of (swept_container c time)) i no_lease
      ≡ swept_place time (get_or (leases_of c) i no_lease)
  -- so the leases that are left are those at or above the time, each record as it was, in their order
  pub left : only held (leases_of (swept_container c time))
      ≡ only (λ r. held r && leb time (expiry_of r)) (leases_of c)
  -- they are counted, and no empty extra stands at the tail
  pub count : (sweep_answer c time).count ≡ present (leases_of (swept_container c time))
  pub tail : last_held (drop fixed_places (leases_of (swept_container c time))) ≡ true
  -- all else is kept: the data, the slack and the count's place, node id and enabler
  pub bytes : data_of (swept_container c time) ≡ data_of c
  pub slack : slack_of (swept_container c time) ≡ slack_of c
  pub count_at_holds : count_at (swept_container c time) ≡ count_at c
  pub node : node_of (swept_container c time) ≡ node_of c
  pub enabler : enabler_of (swept_container c time) ≡ enabler_of c
  pub parts : parts_of (swept_container c time) ≡ with_leases (parts_of c) (swept time (leases_of c))
  -- where no lease has expired, a container made of bytes stays as it was
  pub nothing : Octets c → Each (λ r. expired time r ≡ false) (leases_of c) → swept_container c time ≡ c

-- The sweep, of any bytes as container and any time (D18).
pub record DemandSweep (c : List ℕ) (time : ℕ) : Type 0 where
  -- the call ends in a number that the table of outcomes has for it: never in 9, whether or not a lease has expired
  pub number : Among (sweep_answer c time).number (0 ∷ 1 ∷ 2 ∷ [])
  pub exactly : ((sweep_answer c time).number ≡ 0) ↔ (well_formed c ≡ true)
  pub one : ((sweep_answer c time).number ≡ 1) ↔ (length_allowed c ≡ false)
  pub two : ((sweep_answer c time).number ≡ 2) ↔ ((length_allowed c ≡ true) × (well_formed c ≡ false))
  -- refused: no byte changes, and nothing is counted
  pub refused : ((sweep_answer c time).number ≡ 0 → ⊥) → swept_container c time ≡ c
  pub uncounted : ((sweep_answer c time).number ≡ 0 → ⊥) → (sweep_answer c time).count ≡ 0
  -- done: what the sweep leaves
  pub sweeps : well_formed c ≡ true → Sweeps c time
  -- the length never changes, a well-formed container stays so, and the answer's node id is zeros
  pub container_length : length (swept_container c time) ≡ length c
  pub stays_formed : well_formed c ≡ true → well_formed (swept_container c time) ≡ true
  pub no_node_holds : (sweep_answer c time).node ≡ no_node

-- The 92 bytes of a lease record that a row stands for (U1).
unfoldable pub record_of : LeaseRow → List ℕ
record_of w = digits 4 w.owner ++ (digits 4 w.expiry ++ (w.renewal ++ (w.cancel ++ w.node)))

-- An audit gives the same answer and leaves the same table on two containers.
pub record SameAudit (b c : List ℕ) (t : List LeaseRow) : Type 0 where
  pub answer : audit_answer b (length t) ≡ audit_answer c (length t)
  pub table : audit_table b t ≡ audit_table c t

-- Secrets stay in, but for what an audit is asked for (D19).
pub record SecretsAudit (b c : List ℕ) (t : List LeaseRow) : Type 0 where
  -- an audit that is done gives away every lease record whole, tokens included
  pub gives : Octets c → (audit_answer c (length t)).number ≡ 0 →
      map record_of (take (audit_answer c (length t)).count (audit_table c t)) ≡ only held (leases_of c)
  -- and nothing else: containers with the same leases look the same to it, whatever their node id, enabler, data, slack,
  -- empty places and length
  pub nothing_else : well_formed b ≡ true → well_formed c ≡ true → only held (leases_of b) ≡ only held (leases_of c) →
      SameAudit b c t
  -- with a table that is too short for both, it tells of no lease but that there are more than rows
  pub too_short : well_formed b ≡ true → well_formed c ≡ true → length t < present (leases_of b) →
      length t < present (leases_of c) → SameAudit b c t

-- A sweep tells how many leases are left, by the leases' expiries alone, and what it leaves differs from other
-- containers in slack and length only where these did before (D9, D19).
pub record SecretsSweep (b c : List ℕ) (time : ℕ) : Type 0 where
  pub by_expiries : well_formed b ≡ true → well_formed c ≡ true →
      map expiry_of (only held (leases_of b)) ≡ map expiry_of (only held (leases_of c)) →
      sweep_answer b time ≡ sweep_answer c time
  pub slack_unseen : SameButSlack b c → SameButSlack (swept_container b time) (swept_container c time)
