-- The audit over bytes: a record as a row, the walk from lease to lease, the table as it is filled. Assumes nothing.
use mathlib.Core.Path.{◌≡◌, refl, sym, ap, ◌∙◌}
use mathlib.Core.Bool.{Bool, true, false, not}
use mathlib.Core.List.{List, [], ◌∷◌, ◌++◌}
use Prim.Native.Nat.{ℕ, zero, suc, ◌+◌, ◌≤◌, ◌<◌, zero-le}
use native.Mathlib.Nat.{not-suc-le-zero, le_of_suc-le-suc}
use native.Mathlib.Numerals.{add-one}
use native.Mathlib.Omega.{arith}
use lib.Dec.{eqb, ltb}
use lib.ListN.{length, take, drop, get_or, set, length-append, length-take, length-drop, drop_of_length-le}
use lib.Seq.{take-take, take_all, drop-cons}
use borrow.Author.Tests.{ltb-true, ltb-false, eqb-true, not-true, not-false}
use Rattle.octets.specs.Numbers.{number, number_at}
use Rattle.octets.proofs.ListLaws.{part_part}
use Rattle.format.specs.Layout.{record_size, secret_size, node_size, expiry_at, renewal_at, cancel_at, lease_node_at, leases_of}
use Rattle.format.specs.Layout.{fixed_places, extra_limit, limit}
use Rattle.format.specs.Layout.{owner_of, expiry_of, renewal_of, cancel_of, lease_node_of}
use Rattle.format.specs.Container.{held, well_formed}
use Rattle.format.specs.Parts.{parts_of}
use Rattle.format.specs.Judging.{Known}
use Rattle.format.specs.View.{place_at}
use Rattle.format.specs.declared.layout.Frame.{Frame}
use Rattle.rules.specs.Leasing.{present}
use Rattle.leases.proofs.PlaceLaws.{known_bounds, known_places, lease_at, place_inside}
use Rattle.upkeep_rules.specs.declared.LeaseRow.{LeaseRow}
use Rattle.upkeep_rules.specs.Auditing.{row_of, rows_of, audit_outcome, audit_to, audit_answer, table_to, audit_table}
use Rattle.upkeep_rules.proofs.AuditLaws.{rows-held, rows_empty, length-rows}
use Rattle.upkeep_rules.proofs.Audit.{demand_audit}

-- ---- a record, field by field, as a row
pub row_read : (p : ℕ) (c : List ℕ) (r : LeaseRow)
    → r.owner ≡ number_at 4 p c
    → r.expiry ≡ number_at 4 (p + expiry_at) c
    → r.renewal ≡ take secret_size (drop (p + renewal_at) c)
    → r.cancel ≡ take secret_size (drop (p + cancel_at) c)
    → r.node ≡ take node_size (drop (p + lease_node_at) c)
    → r ≡ row_of (take record_size (drop p c))
unfolding row_of owner_of expiry_of renewal_of cancel_of lease_node_of number_at
row_read p c r o x t u n = λ i. record {
  owner = (o ∙ ap number (sym (take-take 4 record_size (drop p c) (omega arith)))) i;
  expiry = (x ∙ ap number (sym (part_part p record_size expiry_at 4 c (omega arith)))) i;
  renewal = (t ∙ sym (part_part p record_size renewal_at secret_size c (omega arith))) i;
  cancel = (u ∙ sym (part_part p record_size cancel_at secret_size c (omega arith))) i;
  node = (n ∙ sym (part_part p record_size lease_node_at node_size c (omega arith))) i;
}

-- ---- from lease to lease
module _ (ls : List (List ℕ)) where
  -- where a lease is left there is a place
  lease_left : (at : ℕ) → 0 < present (drop at ls) → at < length ls
  unfolding present
  lease_left at h = go (ltb at (length ls)) refl
    where
      go : (t : Bool) → ltb at (length ls) ≡ t → at < length ls
      go true e = ltb-true at (length ls) e
      go false e =
          let z : drop at ls ≡ [] = drop_of_length-le ls {i = at} (ltb-false at (length ls) e) in
          absurd (let k : 0 < 0 = rw z at h in omega arith)

  -- the rows from one place are those from another, so there are as many leases
  same_left : (i at : ℕ) → rows_of (drop i ls) ≡ rows_of (drop at ls) → present (drop i ls) ≡ present (drop at ls)
  same_left i at e = sym (length-rows (drop i ls)) ∙ ap length e ∙ length-rows (drop at ls)

  module _ (at : ℕ) (h : at < length ls) where
    pass_empty : held (get_or ls at []) ≡ false → rows_of (drop at ls) ≡ rows_of (drop (at + 1) ls)
    pass_empty e = rw (add-one, drop-cons ls at [] h) (rows_empty (get_or ls at []) (drop (suc at) ls) e)

    take-held : held (get_or ls at []) ≡ true
        → rows_of (drop at ls) ≡ row_of (get_or ls at []) ∷ rows_of (drop (at + 1) ls)
    take-held e = rw (add-one, drop-cons ls at [] h) (rows-held (get_or ls at []) (drop (suc at) ls) e)

-- ---- the rows of a container's leases, all, and from a place on
abbrev pub rows_in : List ℕ → List LeaseRow
rows_in c = rows_of (leases_of c)

abbrev pub rows_from : List ℕ → ℕ → List LeaseRow
rows_from c i = rows_of (drop i (leases_of c))

-- ---- the walk from lease to lease: a place of the container, from which on there are the rows from i on
pub record Reached (c : List ℕ) (f : Frame) (i at : ℕ) : Type 0 where
  pub known : Known c f
  pub rows : rows_from c i ≡ rows_from c at
  pub below : at < fixed_places + f.extras
  pub few : f.extras ≤ extra_limit
  pub near : f.offset ≤ limit
  pub inside : place_at f.offset at + record_size ≤ length c

module _ (c : List ℕ) (f : Frame) (i at : ℕ) where
  pub reached : Known c f → 0 < present (drop i (leases_of c)) → rows_from c i ≡ rows_from c at → Reached c f i at
  reached k h e =
      let l = lease_left (leases_of c) at (rw (← same_left (leases_of c) i at e) h) in
      let b : at < fixed_places + f.extras = omega (arith, l, known_places c f k) in
      let z = known_bounds c f k in
      record {
        known = k;
        rows = e;
        below = b;
        few = z.0.few;
        near = omega (arith, z);
        inside = place_inside c f k at b;
      }

  module _ (r : Reached c f i at) (p : ℕ) (q : p ≡ place_at f.offset at) where
    lease_here : take record_size (drop p c) ≡ get_or (leases_of c) at []
    lease_here = rw q (sym (lease_at c f r.known at r.below))

    place_here : at < length (leases_of c)
    place_here = omega (arith, r.below, known_places c f r.known)

    pub reached_empty : not (held (take record_size (drop p c))) ≡ true → rows_from c i ≡ rows_from c (at + 1)
    reached_empty e = r.rows ∙ pass_empty (leases_of c) at place_here (ap held (sym lease_here) ∙ not-true _ e)

    pub reached_held : not (held (take record_size (drop p c))) ≡ false
        → rows_from c i ≡ row_of (take record_size (drop p c)) ∷ rows_from c (at + 1)
    reached_held e =
        r.rows ∙ take-held (leases_of c) at place_here (ap held (sym lease_here) ∙ not-false _ e)
        ∙ rw (← lease_here) refl

-- ---- a table whose first i elements are those of s: its length, and a turn of the loop that fills it
module _ {A : Type 0} where
  abbrev pub up_to : List A → List A → ℕ → List A
  up_to s d i = take i s ++ drop i d

  up_length : (s d : List A) (i : ℕ) → i ≤ length s → i ≤ length d → length (up_to s d i) ≡ length d
  up_length s d i h k = simp (length-append, length-take, length-drop) (omega arith)

  up_suc : (z : A) (i : ℕ) (d s : List A) → i < length s → i < length d
      → set (up_to s d i) i (get_or s i z) ≡ up_to s d (suc i)
  up_suc z i d [] h k = absurd (not-suc-le-zero h)
  up_suc z i [] (x ∷ s) h k = absurd (not-suc-le-zero k)
  up_suc z zero (y ∷ d) (x ∷ s) h k = refl
  up_suc z (suc i) (y ∷ d) (x ∷ s) h k =
      ap (λ (t : List A). x ∷ t) (up_suc z i d s (le_of_suc-le-suc h) (le_of_suc-le-suc k))

  up_more : (z : A) (i : ℕ) (d s : List A) → i < length s → i < length d
      → set (up_to s d i) i (get_or s i z) ≡ up_to s d (i + 1)
  up_more z i d s h k = rw add-one (up_suc z i d s h k)

-- the table once i rows of a container are put
abbrev pub filled : List ℕ → List LeaseRow → ℕ → List LeaseRow
filled c old i = up_to (rows_in c) old i

-- ---- what filling a table needs of the number of rows that are due
pub record Due (c : List ℕ) (old : List LeaseRow) (n : ℕ) : Type 0 where
  pub inside : n ≤ length old
  pub there : n ≤ length (rows_in c)
  pub formed : 0 < n → well_formed c ≡ true
  pub all : audit_table c old ≡ filled c old n

pub due : (c : List ℕ) (old : List LeaseRow) → Due c old (audit_answer c (length old)).count
unfolding audit_answer audit_to audit_table table_to parts_of
due c old = go (eqb (audit_outcome c (length old)) 0) refl
  where
    go : (t : Bool) → eqb (audit_outcome c (length old)) 0 ≡ t → Due c old (audit_answer c (length old)).count
    go true e =
        let d = (demand_audit c old).exactly.0 (eqb-true (audit_outcome c (length old)) 0 e) in
        rw e record {
          inside = d.rows_fit;
          there = omega (arith, length-rows (leases_of c));
          formed = λ _. d.formed;
          all = rw e (ap (λ (t : List LeaseRow). t ++ drop (present (leases_of c)) old)
              (sym (take_all (present (leases_of c)) (rows_in c) (omega (arith, length-rows (leases_of c))))));
        }
    go false e =
        rw e record { inside = zero-le; there = zero-le; formed = λ h. absurd (not-suc-le-zero h); all = rw e }

-- ---- the loop that fills it: so many rows are put, and from the place `at` on are the rows that are left
pub record Filling (c : List ℕ) (n : ℕ) : Type 0 where
  pub done : ℕ
  pub at : ℕ
  pub few : done ≤ n
  pub left : rows_from c at ≡ drop done (rows_in c)

module _ (c : List ℕ) (old : List LeaseRow) (n : ℕ) (d : Due c old n) (t : Filling c n) where
  pub filled-length : length (filled c old t.done) ≡ length old
  filled-length = up_length (rows_in c) old t.done (omega (arith, t.few, d.there))
      (omega (arith, t.few, d.inside))

  module _ (h : t.done < n) where
    pub filling_asks : (well_formed c ≡ true) × (0 < present (drop t.at (leases_of c)))
    filling_asks = (
      d.formed (omega arith),
      omega (
        arith,
        length-rows (drop t.at (leases_of c)),
        ap length t.left,
        length-drop t.done (rows_in c),
        d.there,
      ),
    )

    module _ (r : LeaseRow) (next : ℕ) (e : rows_from c t.at ≡ r ∷ rows_from c next) where
      row_then : get_or (rows_in c) t.done r ∷ drop (suc t.done) (rows_in c) ≡ r ∷ rows_from c next
      row_then = sym (drop-cons (rows_in c) t.done r (omega (arith, d.there))) ∙ sym t.left ∙ e

      pub left_more : rows_from c next ≡ drop (t.done + 1) (rows_in c)
      left_more = rw add-one (sym (ap (drop 1) row_then))

      pub filled_more : set (filled c old t.done) t.done r ≡ filled c old (t.done + 1)
      filled_more =
          ap (set (filled c old t.done) t.done)
          (sym (ap (λ (l : List LeaseRow). get_or l 0 r) row_then))
          ∙ up_more r t.done old (rows_in c) (omega (arith, d.there)) (omega (arith, d.inside))
