-- Each early return refutes one fact of a test-and-write; at the end all of them hold.
use mathlib.Core.Path.{sym, ◌∙◌}
use mathlib.Core.Bool.{false≢true}
use native.Mathlib.Omega.{arith}
use Rattle.requests.proofs.FormLaws.{header_is, no_table, table_places, found_by, entries_bad, entries_at, ends_at}
use Rattle.requests.proofs.FormLaws.{sums_small, taken}
use Rattle.requests.proofs.forms.test_write_form.Goals as goal

pub returns-then-n-lt-TESTS_AT : goal.returns-then-n-lt-TESTS_AT
returns-then-n-lt-TESTS_AT c = let m = table_places c.args.q.now in no_table _ (λ h. omega arith)

pub returns-then-tests-gt-ENTRY_LIMIT : goal.returns-then-tests-gt-ENTRY_LIMIT
returns-then-tests-gt-ENTRY_LIMIT c = let x = header_is c.args.q.now c.args.at.at c.header-header.result c.requires.0 c.header-header.ensures in no_table _ (λ h. omega arith)

pub returns-then-writes-gt-ENTRY_LIMIT : goal.returns-then-writes-gt-ENTRY_LIMIT
returns-then-writes-gt-ENTRY_LIMIT c = let x = header_is c.args.q.now c.args.at.at c.header-header.result c.requires.0 c.header-header.ensures in no_table _ (λ h. omega arith)

pub returns-then-not-cut_ok : goal.returns-then-not-cut_ok
returns-then-not-cut_ok c =
    let x = header_is c.args.q.now c.args.at.at c.header-header.result c.requires.0 c.header-header.ensures in
    no_table _ (λ h. false≢true (sym c.if-not-cut_ok.true ∙ c.cut_ok.ensures ∙ rw (x.flag, x.new) h.cut))

pub returns-then-n-tests : goal.returns-then-n-tests
returns-then-n-tests c =
    let x = header_is c.args.q.now c.args.at.at c.header-header.result c.requires.0 c.header-header.ensures in
    let m = table_places c.args.q.now in
    no_table _ (λ h. omega arith)

pub returns-in_err-length : goal.returns-in_err-length
returns-in_err-length c =
    let F = found_by c.requires.0 c.header-header.ensures c.body.ensures c.pass_tests-tested.ensures c.pass_writes-written.ensures in
    rw c.from_residual.ensures (no_table _ (entries_bad F c.in_err-length.was))

pub overflow_add-specimens : goal.overflow_add-specimens
overflow_add-specimens c =
    let F = found_by c.requires.0 c.header-header.ensures c.body.ensures c.pass_tests-tested.ensures c.pass_writes-written.ensures in
    let s = sums_small F _ c.in_ok-length.was (λ i. omega (arith, c.type_inv.q i)) c.if-tests-gt-ENTRY_LIMIT.false c.if-writes-gt-ENTRY_LIMIT.false in
    omega arith

pub overflow_add-specimens-2 : goal.overflow_add-specimens-2
overflow_add-specimens-2 c =
    let F = found_by c.requires.0 c.header-header.ensures c.body.ensures c.pass_tests-tested.ensures c.pass_writes-written.ensures in
    let s = sums_small F _ c.in_ok-length.was (λ i. omega (arith, c.type_inv.q i)) c.if-tests-gt-ENTRY_LIMIT.false c.if-writes-gt-ENTRY_LIMIT.false in
    omega arith

pub returns-then-specimens-length : goal.returns-then-specimens-length
returns-then-specimens-length c =
    let F = found_by c.requires.0 c.header-header.ensures c.body.ensures c.pass_tests-tested.ensures c.pass_writes-written.ensures in
    no_table _ (λ h. c.if-specimens-length.true (sym (ends_at F _ c.in_ok-length.was) ∙ h.ends))

pub returns : goal.returns
returns c =
    let F = found_by c.requires.0 c.header-header.ensures c.body.ensures c.pass_tests-tested.ensures c.pass_writes-written.ensures in
    let x = F.header in
    taken F _ c.in_ok-length.was _ _ c.body-2.ensures c.found.ensures
    (record {
      tests = omega (arith, c.if-tests-gt-ENTRY_LIMIT.false, x.tests);
      writes = omega (arith, c.if-writes-gt-ENTRY_LIMIT.false, x.writes);
      cut = rw (← x.flag, ← x.new) (sym c.cut_ok.ensures ∙ c.if-not-cut_ok.false);
      ends = ends_at F _ c.in_ok-length.was ∙ c.if-specimens-length.false;
      entries = entries_at F _ c.in_ok-length.was;
    })
    c.requires.1
