-- The audit: its outcome on a well-formed container, and its rows. Assumes nothing.
use mathlib.Core.Path.{◌≡◌, refl, ◌∙◌}
use mathlib.Core.Bool.{Bool, true, false, cond, not}
use mathlib.Core.List.{List, [], ◌∷◌}
use Prim.Native.Nat.{ℕ, ◌+◌, ◌≤◌, ◌<◌}
use native.Mathlib.Omega.{arith}
use lib.ListN.{length, length-map}
use lib.Dec.{eqb, ltb}
use borrow.Author.Tests.{ne_eqb, lt-ltb, le-ltb}
use Rattle.octets.specs.Lists.{only}
use Rattle.octets.specs.Rows.{first_row}
use Rattle.format.specs.Layout.{leases_of}
use Rattle.format.specs.Container.{held, length_allowed, well_formed}
use Rattle.format.specs.Parts.{Parts, parts_of, encode}
use Rattle.format.specs.Claims.{Valid}
use Rattle.format.proofs.RoundTrip.{encode_formed, parts_encode}
use Rattle.std.specs.Prelude.{Err}
use Rattle.format.specs.Judging.{Judges}
use Rattle.format.specs.declared.judging.Flaw.{Flaw}
use Rattle.format.specs.declared.judging.Flaw.TheVariants.{BadLength, Malformed}
use Rattle.format.proofs.JudgingLaws.{judged-length, judged-malformed}
use Rattle.rules.specs.Refusals.{number_of, refusal_of}
use Rattle.rules.specs.Leasing.{present}
use Rattle.rules.specs.Outcomes.{answer_of, no_node}
use Rattle.rules.proofs.OutcomeLaws.{formed_length}
use Rattle.upkeep_rules.specs.Auditing.{row_of, rows_of, table_rows, audit_outcome, audit_to, audit_answer}

-- rows 1 and 2 do not apply to a well-formed container
pub audit_formed : (c : List ℕ) (n : ℕ) → well_formed c ≡ true →
    audit_outcome c n ≡ first_row (table_rows (parts_of c) n)
unfolding audit_outcome first_row
audit_formed c n w = rw (formed_length c w, w)

pub audit_encode : (p : Parts) (n : ℕ) → Valid p → audit_outcome (encode p) n ≡ first_row (table_rows p n)
audit_encode p n v = audit_formed (encode p) n (encode_formed p v) ∙ rw (parts_encode p v)

-- the numbers of an audit end with 7
audit_most : (c : List ℕ) (n : ℕ) → audit_outcome c n ≤ 7
unfolding audit_outcome first_row
audit_most c n = go (not (length_allowed c)) (not (well_formed c)) (ltb n (present (parts_of c).leases))
  where
    go : (a b d : Bool) → cond a 1 (cond b 2 (cond d 7 0)) ≤ 7
    go true b d = omega arith
    go false true d = omega arith
    go false false true = omega arith
    go false false false = omega arith

pub audit_not : (c : List ℕ) (n k : ℕ) → 7 < k → eqb (audit_answer c n).number k ≡ false
unfolding audit_answer audit_to
audit_not c n k h = ne_eqb _ k (λ e. omega (arith, audit_most c n, e, h))

-- as many rows as leases
pub length-held : (ls : List (List ℕ)) → length (only held ls) ≡ present ls
unfolding only present
length-held [] = refl
length-held (r ∷ ls) = go (held r) (length-held ls)
  where
    go : (b : Bool) → length (only held ls) ≡ present ls →
        length (cond b (r ∷ only held ls) (only held ls)) ≡ cond b 1 0 + present ls
    go true e = omega (arith, e)
    go false e = omega (arith, e)

pub length-rows : (ls : List (List ℕ)) → length (rows_of ls) ≡ present ls
unfolding rows_of
length-rows ls = length-map (only held ls) row_of ∙ length-held ls

-- one place more
pub rows-held : (r : List ℕ) (ls : List (List ℕ)) → held r ≡ true → rows_of (r ∷ ls) ≡ row_of r ∷ rows_of ls
unfolding rows_of only
rows-held r ls h = rw h

pub rows_empty : (r : List ℕ) (ls : List (List ℕ)) → held r ≡ false → rows_of (r ∷ ls) ≡ rows_of ls
unfolding rows_of only
rows_empty r ls h = rw h

-- ---- what the audit answers, at each of the tests
module _ (c : List ℕ) (n : ℕ) where
  answer-length : length_allowed c ≡ false → answer_of 1 no_node 0 ≡ audit_answer c n
  unfolding audit_answer audit_outcome audit_to first_row
  answer-length l = rw l

  answer-malformed : length_allowed c ≡ true → well_formed c ≡ false → answer_of 2 no_node 0 ≡ audit_answer c n
  unfolding audit_answer audit_outcome audit_to first_row
  answer-malformed l w = rw (l, w)

  pub answer_flawed : (e : Flaw) → Judges c (Err e) → answer_of (number_of (refusal_of e)) no_node 0 ≡ audit_answer c n
  answer_flawed BadLength j = answer-length (judged-length c j)
  answer_flawed Malformed j = let m = judged-malformed c j in answer-malformed m.0 m.1

  pub answer_narrow : well_formed c ≡ true → n < present (leases_of c) → answer_of 7 no_node 0 ≡ audit_answer c n
  unfolding audit_answer audit_outcome audit_to first_row parts_of
  answer_narrow w h = rw (formed_length c w, w, lt-ltb n (present (leases_of c)) h)

  pub answer-done : well_formed c ≡ true → present (leases_of c) ≤ n
      → answer_of 0 no_node (present (leases_of c)) ≡ audit_answer c n
  unfolding audit_answer audit_outcome audit_to first_row parts_of
  answer-done w h = rw (formed_length c w, w, le-ltb n (present (leases_of c)) h)
