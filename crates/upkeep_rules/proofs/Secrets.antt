-- What an audit gives away and what a sweep tells, and that neither tells more. Assumes nothing.
use mathlib.Core.Path.{◌≡◌, refl, sym, ap, ap₂, ◌∙◌}
use mathlib.Core.Bool.{Bool, true, false, cond, ◌&&◌}
use mathlib.Core.List.{List, [], ◌∷◌, map}
use Prim.Native.Nat.{ℕ, suc, ◌<◌}
use native.Mathlib.Omega.{arith}
use lib.Dec.{leb}
use lib.ListN.{length, drop, length-drop}
use lib.Seq.{take_all}
use borrow.Author.Tests.{lt-ltb}
use Rattle.octets.specs.Facts.{Octets, Each}
use Rattle.octets.specs.Lists.{only}
use Rattle.octets.specs.Rows.{first_row}
use Rattle.octets.proofs.NumberLaws.{digits_at}
use Rattle.octets.proofs.ListLaws.{field_then}
use Rattle.format.specs.Layout.{leases_of, expiry_of, owner_of, renewal_of, cancel_of, lease_node_of, record_size, node_size}
use Rattle.format.specs.Layout.{expiry_at, renewal_at, cancel_at, lease_node_at, secret_size}
use Rattle.format.specs.Container.{held, well_formed}
use Rattle.format.specs.Parts.{parts_of}
use Rattle.format.specs.Claims.{Place}
use Rattle.format.proofs.RoundTrip.{parts_valid}
use Rattle.format.proofs.Claims.{round_trip}
use Rattle.rules.specs.Leasing.{present}
use Rattle.rules.specs.Outcomes.{with_leases}
use Rattle.rules.specs.Slack.{SameButSlack}
use Rattle.upkeep_rules.specs.declared.LeaseRow.{LeaseRow}
use Rattle.upkeep_rules.specs.Auditing.{row_of, rows_of, audit_to, audit_answer, table_to, audit_table}
use Rattle.upkeep_rules.specs.Sweeping.{swept, after_sweep, sweep_to, sweep_answer, swept_container}
use Rattle.upkeep_rules.specs.Claims.{record_of, SameAudit, SecretsAudit, SecretsSweep}
use Rattle.upkeep_rules.proofs.AuditLaws.{audit_formed, length-held}
use Rattle.upkeep_rules.proofs.SweepLaws.{sweep_formed}
use Rattle.upkeep_rules.proofs.LeftLaws.{only-drop_tail, only-swept}
use Rattle.upkeep_rules.proofs.Audit.{demand_audit}
use Rattle.upkeep_rules.proofs.Sweep.{sweeps, leases_swept, swept_formed}

-- ---- a row and its record
record_row : (r : List ℕ) → length r ≡ record_size → Octets r → record_of (row_of r) ≡ r
unfolding record_of row_of owner_of expiry_of renewal_of cancel_of lease_node_of
record_row r l o =
    let last : lease_node_of r ≡ drop lease_node_at r =
    take_all node_size (drop lease_node_at r) (rw length-drop (omega (arith, l))) in
    sym (field_then r 0 4 expiry_at _ _ refl (digits_at r 4 0 (owner_of r) (omega (arith, l)) o refl)
    (field_then r expiry_at 4 renewal_at _ _ refl (digits_at r 4 expiry_at (expiry_of r) (omega (arith, l)) o refl)
    (field_then r renewal_at secret_size cancel_at _ _ refl refl
    (field_then r cancel_at secret_size lease_node_at _ _ refl refl (sym last)))))

records-rows : (ls : List (List ℕ)) → Each Place ls → Each Octets ls →
    map record_of (map row_of (only held ls)) ≡ only held ls
unfolding only
records-rows [] p o = refl
records-rows (r ∷ ls) p o = go (held r) (records-rows ls p.1 o.1)
  where
    go : (b : Bool) → map record_of (map row_of (only held ls)) ≡ only held ls →
        map record_of (map row_of (cond b (r ∷ only held ls) (only held ls))) ≡ cond b (r ∷ only held ls) (only held ls)
    go true i = ap₂ ◌∷◌ (record_row r p.0.size o.0) i
    go false i = i

-- ---- the same leases, the same number of them
present-same : (k l : List (List ℕ)) → only held k ≡ only held l → present k ≡ present l
present-same k l e = sym (length-held k) ∙ ap length e ∙ length-held l

module _ (b c : List ℕ) (t : List LeaseRow) (wb : well_formed b ≡ true) (wc : well_formed c ≡ true) where
  alike : only held (leases_of b) ≡ only held (leases_of c) → SameAudit b c t
  unfolding audit_answer audit_to audit_table table_to rows_of parts_of
  alike e =
      let m = present-same (leases_of b) (leases_of c) e in
      record {
        answer = rw (audit_formed b (length t) wb, audit_formed c (length t) wc, m);
        table = rw (audit_formed b (length t) wb, audit_formed c (length t) wc, m, e);
      }

  short : length t < present (leases_of b) → length t < present (leases_of c) → SameAudit b c t
  unfolding audit_answer audit_to audit_table table_to parts_of first_row
  short hb hc =
      let sb = lt-ltb (length t) (present (leases_of b)) hb in
      let sc = lt-ltb (length t) (present (leases_of c)) hc in
      record {
        answer = rw (audit_formed b (length t) wb, audit_formed c (length t) wc, sb, sc);
        table = rw (audit_formed b (length t) wb, audit_formed c (length t) wc, sb, sc);
      }

-- WHAT AN AUDIT GIVES AWAY
pub secrets_audit : (b c : List ℕ) (t : List LeaseRow) → SecretsAudit b c t
unfolding parts_of
secrets_audit b c t = record {
  gives = λ o e.
      let w = ((demand_audit c t).exactly.0 e).formed in
      rw ((demand_audit c t).rows e)
      (records-rows (leases_of c) (parts_valid c w).places (round_trip.octet_parts c o).leases);
  nothing_else = alike b c t;
  too_short = short b c t;
}

-- ---- how many leases are left, by their expiries
left_expiries : (time : ℕ) (ls : List (List ℕ)) →
    length (only (λ r. held r && leb time (expiry_of r)) ls)
    ≡ length (only (leb time) (map expiry_of (only held ls)))
unfolding only
left_expiries time [] = refl
left_expiries time (r ∷ ls) = go (held r) (leb time (expiry_of r)) refl (left_expiries time ls)
  where
    go : (a b : Bool) → leb time (expiry_of r) ≡ b →
        length (only (λ r. held r && leb time (expiry_of r)) ls)
        ≡ length (only (leb time) (map expiry_of (only held ls))) →
        length (cond (a && b) (r ∷ only (λ r. held r && leb time (expiry_of r)) ls)
        (only (λ r. held r && leb time (expiry_of r)) ls))
        ≡ length (only (leb time) (map expiry_of (cond a (r ∷ only held ls) (only held ls))))
    go true true e i = rw e (ap suc i)
    go true false e i = rw e i
    go false b e i = i

present-swept : (time : ℕ) (ls : List (List ℕ)) →
    present (swept time ls) ≡ length (only (leb time) (map expiry_of (only held ls)))
unfolding swept
present-swept time ls =
    sym (length-held (swept time ls))
    ∙ ap length (only-drop_tail _ ∙ only-swept time ls) ∙ left_expiries time ls

by_expiries : (b c : List ℕ) (time : ℕ) → well_formed b ≡ true → well_formed c ≡ true →
    map expiry_of (only held (leases_of b)) ≡ map expiry_of (only held (leases_of c)) →
    sweep_answer b time ≡ sweep_answer c time
unfolding sweep_answer sweep_to after_sweep with_leases parts_of
by_expiries b c time wb wc e =
    rw (sweep_formed b wb, sweep_formed c wc, present-swept time (leases_of b), present-swept time (leases_of c), e)

slack_unseen : (b c : List ℕ) (time : ℕ) → SameButSlack b c →
    SameButSlack (swept_container b time) (swept_container c time)
slack_unseen b c time s =
    let x = sweeps b s.formed_b time in
    let y = sweeps c s.formed_c time in
    record {
      formed_b = swept_formed b s.formed_b time;
      formed_c = swept_formed c s.formed_c time;
      node = x.node ∙ s.node ∙ sym y.node;
      enabler = x.enabler ∙ s.enabler ∙ sym y.enabler;
      bytes = x.bytes ∙ s.bytes ∙ sym y.bytes;
      leases = leases_swept b s.formed_b time ∙ ap (swept time) s.leases
          ∙ sym (leases_swept c s.formed_c time);
    }

-- WHAT A SWEEP TELLS
pub secrets_sweep : (b c : List ℕ) (time : ℕ) → SecretsSweep b c time
secrets_sweep b c time = record {
  by_expiries = by_expiries b c time;
  slack_unseen = slack_unseen b c time;
}
