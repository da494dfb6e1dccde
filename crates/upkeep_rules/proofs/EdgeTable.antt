-- The tables of edges of audits and sweeps, computed. Assumes nothing.
use mathlib.Core.Path.{refl}
use Rattle.octets.specs.Numbers.{number_after, number, number_at, digits}
use Rattle.octets.specs.Strings.{all_zero, same, join}
use Rattle.octets.specs.Lists.{every, only}
use Rattle.octets.specs.Rows.{first_row}
use Rattle.format.specs.Container.{length_allowed, held, record_ok, last_held, fields_ok, contents_ok, well_formed}
use Rattle.format.specs.Layout.{count_at, used_length, node_of, enabler_of, size_of, data_of, extras_of, records, leases_of}
use Rattle.format.specs.Layout.{owner_of, expiry_of, renewal_of, cancel_of, lease_node_of, slack_of}
use Rattle.format.specs.Parts.{extras, count_in, used, parts_of, encode, no_lease, head_of, front_of, tail_of}
use Rattle.rules.specs.Leasing.{present, trim, with_last, drop_tail}
use Rattle.rules.specs.Outcomes.{with_leases}
use Rattle.upkeep_rules.specs.Auditing.{row_of, rows_of, audit_outcome, audit_to, audit_answer, table_to, audit_table}
use Rattle.upkeep_rules.specs.Sweeping.{expired, swept_place, swept, after_sweep, sweep_outcome, sweep_to, sweep_answer}
use Rattle.upkeep_rules.specs.Sweeping.{swept_container}
use Rattle.upkeep_rules.specs.Edges.{many, many_rows, sweeping, auditing, UpkeepEdgesHold}

-- THE TABLES' CLAIM
pub upkeep_edges : UpkeepEdgesHold
unfolding number_after number number_at digits all_zero same join every only first_row length_allowed held record_ok last_held
    fields_ok contents_ok well_formed count_at used_length node_of enabler_of size_of data_of extras_of records leases_of owner_of
    expiry_of renewal_of cancel_of lease_node_of slack_of extras count_in used parts_of encode no_lease head_of front_of tail_of
    present trim with_last drop_tail with_leases row_of rows_of audit_outcome audit_to audit_answer table_to audit_table expired
    swept_place swept after_sweep sweep_outcome sweep_to sweep_answer swept_container many many_rows sweeping auditing
upkeep_edges = record {
  sweep_table = refl;
  audit_table_holds = refl;
  too_short = record { answer = refl; kept = refl };
  malformed = record { answer = refl; kept = refl };
}
