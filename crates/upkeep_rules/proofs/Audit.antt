-- The audit: any bytes, any table, each number exactly when. Assumes nothing.
use mathlib.Core.Path.{◌≡◌, refl, sym, ap, ◌∙◌}
use mathlib.Core.Bool.{Bool, true, false, true≢false, false≢true}
use mathlib.Core.List.{List, [], ◌∷◌, ◌++◌, map}
use mathlib.Core.Logic.{◌↔◌}
use Prim.Native.Nat.{ℕ, ◌≤◌, ◌<◌}
use native.Mathlib.Omega.{arith}
use lib.Dec.{eqb, ltb}
use lib.ListN.{length, take, drop, length-append, length-drop}
use lib.Seq.{take_at, drop_at}
use borrow.Author.Tests.{ltb-true, ltb-false, ne_eqb}
use Rattle.octets.specs.Facts.{Among}
use Rattle.octets.specs.Lists.{only, any_of}
use Rattle.octets.specs.Rows.{first_row}
use Rattle.format.specs.Layout.{leases_of}
use Rattle.format.specs.Container.{length_allowed, held, well_formed}
use Rattle.format.specs.Parts.{parts_of}
use Rattle.rules.specs.Leasing.{present}
use Rattle.upkeep_rules.specs.declared.LeaseRow.{LeaseRow}
use Rattle.upkeep_rules.specs.Auditing.{row_of, rows_of, audit_outcome, audit_to, audit_answer, table_to, audit_table}
use Rattle.upkeep_rules.specs.Claims.{AcceptsAudit, DemandAudit}
use Rattle.upkeep_rules.proofs.AuditLaws.{length-rows}
use Rattle.upkeep_rules.proofs.NumberLaws.{given, other, not_both}

-- ---- the ways to end
pub data Ends (c : List ℕ) (n : ℕ) : Type 0 where
  bad_length : length_allowed c ≡ false → audit_outcome c n ≡ 1 → Ends c n
  malformed : length_allowed c ≡ true → well_formed c ≡ false → audit_outcome c n ≡ 2 → Ends c n
  too_short : well_formed c ≡ true → n < present (leases_of c) → audit_outcome c n ≡ 7 → Ends c n
  done : well_formed c ≡ true → present (leases_of c) ≤ n → audit_outcome c n ≡ 0 → Ends c n

pub ends : (c : List ℕ) (n : ℕ) → Ends c n
unfolding audit_outcome first_row parts_of
ends c n = go (length_allowed c) (well_formed c) (ltb n (present (leases_of c))) refl refl refl
  where
    go : (a w s : Bool) → length_allowed c ≡ a → well_formed c ≡ w → ltb n (present (leases_of c)) ≡ s → Ends c n
    go false w s ea ew es = bad_length ea (rw ea)
    go true false s ea ew es = malformed ea ew (rw (ea, ew))
    go true true true ea ew es = too_short ew (ltb-true n _ es) (rw (ea, ew, es))
    go true true false ea ew es = done ew (ltb-false n _ es) (rw (ea, ew, es))

module _ (c : List ℕ) (t : List LeaseRow) where
  abbrev n : ℕ
  n = length t

  abbrev m : ℕ
  m = present (leases_of c)

  abbrev number : ℕ
  number = (audit_answer c n).number

  abbrev count : ℕ
  count = (audit_answer c n).count

  is_outcome : (k : ℕ) → audit_outcome c n ≡ k → number ≡ k
  unfolding audit_answer audit_to
  is_outcome k e = e

  -- ---- what becomes of the table
  pub record Left : Type 0 where
    pub refused : (number ≡ 0 → ⊥) → audit_table c t ≡ t
    pub uncounted : (number ≡ 0 → ⊥) → count ≡ 0
    pub counted : number ≡ 0 → count ≡ m
    pub rows : number ≡ 0 → take count (audit_table c t) ≡ map row_of (only held (leases_of c))
    pub beyond : drop count (audit_table c t) ≡ drop count t
    pub table_length : length (audit_table c t) ≡ n

  left_refused : (k : ℕ) → audit_outcome c n ≡ k → 0 < k → Left
  unfolding audit_table table_to audit_answer audit_to
  left_refused k e h =
      let z : eqb k 0 ≡ false = ne_eqb k 0 (λ q. omega (arith, h, q)) in
      let same : audit_table c t ≡ t = rw (e, z) in
      let none : count ≡ 0 = rw (e, z) in
      record {
        refused = λ _. same;
        uncounted = λ _. none;
        counted = λ q. absurd (omega (arith, h, e, q));
        rows = λ q. absurd (omega (arith, h, e, q));
        beyond = ap (drop count) same;
        table_length = ap length same;
      }

  left_done : m ≤ n → audit_outcome c n ≡ 0 → Left
  unfolding audit_table table_to audit_answer audit_to parts_of rows_of
  left_done f e =
      let l : length (rows_of (leases_of c)) ≡ m = length-rows (leases_of c) in
      let all : count ≡ m = rw e in
      let filled : audit_table c t ≡ rows_of (leases_of c) ++ drop m t = rw e in
      record {
        refused = λ q. absurd (q e);
        uncounted = λ q. absurd (q e);
        counted = λ _. all;
        rows = λ _. rw (all, filled) (take_at (rows_of (leases_of c)) (drop m t) m l);
        beyond = rw (all, filled) (drop_at (rows_of (leases_of c)) (drop m t) m l);
        table_length = rw (filled, length-append, l, length-drop) (omega (arith, f));
      }

  demand : Left → Among number (0 ∷ 1 ∷ 2 ∷ 7 ∷ []) → (number ≡ 0) ↔ AcceptsAudit c n →
      (number ≡ 1) ↔ (length_allowed c ≡ false) →
      (number ≡ 2) ↔ ((length_allowed c ≡ true) × (well_formed c ≡ false)) →
      (number ≡ 7) ↔ ((well_formed c ≡ true) × (n < m)) → DemandAudit c t
  unfolding audit_answer audit_to
  demand l a zero one two seven = record {
    number = a;
    exactly = zero;
    one = one;
    two = two;
    seven = seven;
    refused = l.refused;
    uncounted = l.uncounted;
    count = l.counted;
    rows = l.rows;
    beyond = l.beyond;
    table_length = l.table_length;
    no_node_holds = refl;
  }

  by_end : Ends c n → DemandAudit c t
  unfolding any_of
  by_end (bad_length a e) =
      let k : number ≡ 1 = is_outcome 1 e in
      demand (left_refused 1 e (omega arith)) (rw k refl)
      (other 1 0 k (λ q. omega (arith, q)) (λ x. not_both c x.formed a))
      (given 1 k a)
      (other 1 2 k (λ q. omega (arith, q)) (λ x. false≢true (sym a ∙ x.0)))
      (other 1 7 k (λ q. omega (arith, q)) (λ x. not_both c x.0 a))
  by_end (malformed a w e) =
      let k : number ≡ 2 = is_outcome 2 e in
      demand (left_refused 2 e (omega arith)) (rw k refl)
      (other 2 0 k (λ q. omega (arith, q)) (λ x. false≢true (sym w ∙ x.formed)))
      (other 2 1 k (λ q. omega (arith, q)) (λ x. true≢false (sym a ∙ x)))
      (given 2 k (a, w))
      (other 2 7 k (λ q. omega (arith, q)) (λ x. false≢true (sym w ∙ x.0)))
  by_end (too_short w h e) =
      let k : number ≡ 7 = is_outcome 7 e in
      demand (left_refused 7 e (omega arith)) (rw k refl)
      (other 7 0 k (λ q. omega (arith, q)) (λ x. omega (arith, h, x.rows_fit)))
      (other 7 1 k (λ q. omega (arith, q)) (not_both c w))
      (other 7 2 k (λ q. omega (arith, q)) (λ x. true≢false (sym w ∙ x.1)))
      (given 7 k (w, h))
  by_end (done w f e) =
      let k : number ≡ 0 = is_outcome 0 e in
      demand (left_done f e) (rw k refl)
      (given 0 k (record { formed = w; rows_fit = f }))
      (other 0 1 k (λ q. omega (arith, q)) (not_both c w))
      (other 0 2 k (λ q. omega (arith, q)) (λ x. true≢false (sym w ∙ x.1)))
      (other 0 7 k (λ q. omega (arith, q)) (λ x. omega (arith, f, x.1)))

-- THE AUDIT
pub demand_audit : (c : List ℕ) (t : List LeaseRow) → DemandAudit c t
demand_audit c t = by_end c t (ends c (length t))
