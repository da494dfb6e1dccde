-- So many rows are put, and from the place `at` on are the rows that are left.
use Rattle.std.proofs.Common.{length, drop, ◌≡◌}
use Rattle.upkeep.proofs.AuditLaws.{rows_from, rows_in, filled}
use Rattle.upkeep_rules.specs.Auditing.{audit_answer}
use Rattle.beamsatchel.proofs.beamsatchel_audit.Given as goal

abbrev pub invariant-loop-i : goal.invariant-loop-i
invariant-loop-i l =
    (rows_from l.c l.at ≡ drop l.i (rows_in l.c)) × (l.rows ≡ filled l.c l.initial.rows l.i)
    × (l.n ≡ (audit_answer l.c (length l.initial.rows)).count)
