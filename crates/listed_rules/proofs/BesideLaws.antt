-- The outcome beside a list, split by rows: five ways to end, and what each does. Assumes nothing.
use mathlib.Core.Path.{◌≡◌, refl, ◌∙◌}
use mathlib.Core.Bool.{Bool, true, false, cond}
use mathlib.Core.List.{List, ◌++◌}
use Prim.Native.Nat.{ℕ, ◌≤◌, ◌<◌}
use lib.ListN.{length}
use lib.Dec.{eqb, ltb}
use borrow.Author.Tests.{eqb-true, eqb-false, ne_eqb, ltb-true, ltb-false}
use Rattle.octets.specs.Rows.{first_row}
use Rattle.octets.proofs.RowLaws.{rows_append}
use Rattle.format.specs.Container.{well_formed}
use Rattle.format.specs.Layout.{data_of}
use Rattle.format.specs.Parts.{parts_of}
use Rattle.rules.specs.Requests.{request_of}
use Rattle.rules.specs.Outcomes.{request_rows, outcome, replies, answered, container_after, reply_after}
use Rattle.rules.proofs.Kept.{request_numbered}
use Rattle.rules.proofs.OutcomeLaws.{formed_length, outcome_formed, answer-number}
use Rattle.stretches.specs.Stretches.{Stretch}
use Rattle.stretches.specs.List.{row_limit, stretches_of, list_ok}
use Rattle.listed_rules.specs.Outcomes.{next_stretches, many_rows, outcome_beside, answered_beside, container_beside}
use Rattle.listed_rules.specs.Outcomes.{list_after, list_to, reply_beside}
use Rattle.listed_rules.specs.Claims.{Own}

-- ---- the number by rows
-- the stretches that would result
abbrev pub next_of : List ℕ → List ℕ → List ℕ → List Stretch
next_of c l q = next_stretches (parts_of c) (request_of q) (stretches_of l)

-- whether the list is good, the container's own number, and whether too many rows would result
unfoldable pub beside_by : Bool → ℕ → Bool → ℕ
beside_by good n many = cond good (cond (eqb n 0) (cond many 13 0) n) 16

module _ (c l q : List ℕ) (n : ℕ) where
  -- rows 1 and 2 come first
  pub beside-malformed : well_formed c ≡ false → outcome_beside c l q n ≡ outcome c q n
  unfolding outcome_beside outcome first_row
  beside-malformed w = rw w

  good_rows : well_formed c ≡ true → list_ok l (data_of c) ≡ true →
      outcome_beside c l q n
      ≡ first_row (request_rows (parts_of c) (request_of q) n ++ many_rows (parts_of c) (request_of q) (stretches_of l))
  unfolding outcome_beside first_row
  good_rows w k = rw (formed_length c w, w, k)

  beside_bad : well_formed c ≡ true → list_ok l (data_of c) ≡ false → outcome_beside c l q n ≡ 16
  unfolding outcome_beside first_row
  beside_bad w k = rw (formed_length c w, w, k)

  beside_good : well_formed c ≡ true → list_ok l (data_of c) ≡ true →
      outcome_beside c l q n ≡ beside_by true (outcome c q n) (ltb row_limit (length (next_of c l q)))
  unfolding beside_by first_row
  beside_good w k =
      good_rows w k
      ∙ rows_append (request_rows (parts_of c) (request_of q) n) (many_rows (parts_of c) (request_of q) (stretches_of l))
      (request_numbered (parts_of c) (request_of q) n)
      ∙ rw (outcome_formed c q n w)

  -- then 16, the container's own, and 13 where that would be 0
  pub beside_formed : well_formed c ≡ true →
      outcome_beside c l q n
      ≡ beside_by (list_ok l (data_of c)) (outcome c q n) (ltb row_limit (length (next_of c l q)))
  unfolding beside_by
  beside_formed w = go (list_ok l (data_of c)) refl
    where
      go : (b : Bool) → list_ok l (data_of c) ≡ b →
          outcome_beside c l q n ≡ beside_by b (outcome c q n) (ltb row_limit (length (next_of c l q)))
      go true k = beside_good w k
      go false k = beside_bad w k

-- The ways to end: 1 or 2; 16; refused by the container's own rows; 13; done.
pub data Ends (c l q : List ℕ) (n : ℕ) : Type 0 where
  malformed : well_formed c ≡ false → outcome_beside c l q n ≡ outcome c q n → Ends c l q n
  bad_list : well_formed c ≡ true → list_ok l (data_of c) ≡ false → outcome_beside c l q n ≡ 16 → Ends c l q n
  refused : well_formed c ≡ true → list_ok l (data_of c) ≡ true → (outcome c q n ≡ 0 → ⊥) →
      outcome_beside c l q n ≡ outcome c q n → Ends c l q n
  too_many : well_formed c ≡ true → list_ok l (data_of c) ≡ true → outcome c q n ≡ 0 →
      row_limit < length (next_of c l q) → outcome_beside c l q n ≡ 13 → Ends c l q n
  done : well_formed c ≡ true → list_ok l (data_of c) ≡ true → outcome c q n ≡ 0 →
      length (next_of c l q) ≤ row_limit → outcome_beside c l q n ≡ 0 → Ends c l q n

pub ends : (c l q : List ℕ) (n : ℕ) → Ends c l q n
unfolding beside_by
ends c l q n = formed (well_formed c) refl
  where
    m : ℕ
    m = length (next_of c l q)

    few : well_formed c ≡ true → list_ok l (data_of c) ≡ true → outcome c q n ≡ 0 → (b : Bool) → ltb row_limit m ≡ b →
        Ends c l q n
    few w k z true e = too_many w k z (ltb-true row_limit m e) (beside_formed c l q n w ∙ rw (k, z, e))
    few w k z false e = done w k z (ltb-false row_limit m e) (beside_formed c l q n w ∙ rw (k, z, e))

    own : well_formed c ≡ true → list_ok l (data_of c) ≡ true → (b : Bool) → eqb (outcome c q n) 0 ≡ b → Ends c l q n
    own w k true e = few w k (eqb-true (outcome c q n) 0 e) (ltb row_limit m) refl
    own w k false e = refused w k (eqb-false (outcome c q n) 0 e) (beside_formed c l q n w ∙ rw (k, e))

    good : well_formed c ≡ true → (b : Bool) → list_ok l (data_of c) ≡ b → Ends c l q n
    good w true k = own w k (eqb (outcome c q n) 0) refl
    good w false k = bad_list w k (beside_formed c l q n w ∙ rw k)

    formed : (b : Bool) → well_formed c ≡ b → Ends c l q n
    formed true w = good w (list_ok l (data_of c)) refl
    formed false w = malformed w (beside-malformed c l q n w)

-- ---- what the number decides
module _ (c l q r : List ℕ) where
  pub beside-number : (answered_beside c l q r).number ≡ outcome_beside c l q (length r)
  unfolding answered_beside
  beside-number = answer-number (outcome_beside c l q (length r)) (parts_of c) (request_of q)

  -- with the container's own number all is as without a list
  pub own_by : outcome_beside c l q (length r) ≡ outcome c q (length r) → Own c l q r
  unfolding answered_beside container_beside reply_beside answered container_after reply_after
  own_by e = record { answer = rw e; container = rw e; reply = rw e }

  pub list_kept : (outcome_beside c l q (length r) ≡ 0 → ⊥) → list_after c l q r ≡ l
  unfolding list_after
  list_kept h = rw (ne_eqb (outcome_beside c l q (length r)) 0 h)

  pub list_moved : outcome_beside c l q (length r) ≡ 0 → list_after c l q r ≡ list_to (parts_of c) (request_of q) l
  unfolding list_after
  list_moved e = rw e

  pub container_kept : (outcome_beside c l q (length r) ≡ 0 → ⊥) → container_beside c l q r ≡ c
  unfolding container_beside
  container_kept h = rw (ne_eqb (outcome_beside c l q (length r)) 0 h)

  pub reply_kept : replies (outcome_beside c l q (length r)) ≡ false → reply_beside c l q r ≡ r
  unfolding reply_beside
  reply_kept e = rw e
