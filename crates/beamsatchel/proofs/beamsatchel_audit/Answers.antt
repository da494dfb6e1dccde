-- The rows that are put and those that are left are those of the container.
use Rattle.std.proofs.Common.{slice_set, ◌≡◌, length, sym, ap, subst, ◌∙◌, ℕ, List, arith}
use Rattle.upkeep_rules.specs.Auditing.{audit_answer}
use Rattle.upkeep_rules.specs.declared.LeaseRow.{LeaseRow}
use Rattle.upkeep.proofs.AuditLaws.{filled, Due, due, Filling, filling_asks, filled_more, left_more}
use Rattle.beamsatchel.proofs.beamsatchel_audit.Goals as goal

due_in : (c : List ℕ) (old : List LeaseRow) (n : ℕ) → n ≡ (audit_answer c (length old)).count → Due c old n
due_in c old n e = subst (λ (m : ℕ). Due c old m) (sym e) (due c old)

pub next_lease-lease-requires : goal.next_lease-lease-requires
next_lease-lease-requires c =
    let v = c.loop-i.invariant in
    let d = due_in c.args.c.now c.args.rows.now _ v.2 in
    filling_asks c.args.c.now c.args.rows.now _ d
    (record { done = c.loop-i.i; at = c.loop-i.at; few = c.loop-i.auto.i-end; left = v.0 })
    c.loop-i-test.true

pub bounds-rows-i : goal.bounds-rows-i
bounds-rows-i c =
    let v = c.loop-i.invariant in
    let d = due_in c.args.c.now c.args.rows.now _ v.2 in
    omega (arith, d.inside)

pub loop-i-preserved : goal.loop-i-preserved
loop-i-preserved c =
    let v = c.loop-i.invariant in
    let d = due_in c.args.c.now c.args.rows.now _ v.2 in
    let t : Filling c.args.c.now c.audit_answer-given.result.count =
    record { done = c.loop-i.i; at = c.loop-i.at; few = c.loop-i.auto.i-end; left = v.0 } in
    let h = c.loop-i-test.true in
    let e = c.next_lease-lease.ensures in (
      left_more c.args.c.now c.args.rows.now _ d t h _ _ e,
      ap (λ (l : List LeaseRow). slice_set l c.loop-i.i c.next_lease-lease.result.row) v.1
          ∙ filled_more c.args.c.now c.args.rows.now _ d t h _ _ e,
      v.2,
    )

pub returns-clause-rows_after : goal.returns-clause-rows_after
returns-clause-rows_after c =
    let v = c.loop-i.invariant in
    let d = due_in c.args.c.now c.args.rows.now _ v.2 in
    let e : c.loop-i.i ≡ c.audit_answer-given.result.count = omega arith in
    v.1 ∙ ap (filled c.args.c.now c.args.rows.now) e ∙ sym d.all
