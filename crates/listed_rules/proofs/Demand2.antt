-- Demand 2 of a call beside a list: a test-and-write is done exactly when the listed conditions hold, and what it then
-- does. Assumes nothing.
use mathlib.Core.Path.{◌≡◌, refl, sym, ap, ◌∙◌}
use mathlib.Core.List.{List}
use Prim.Native.Nat.{ℕ, ◌≤◌}
use native.Mathlib.Omega.{arith}
use lib.ListN.{length}
use borrow.Author.Tests.{le-ltb}
use Rattle.format.specs.Layout.{data_of}
use Rattle.format.specs.Parts.{parts_of}
use Rattle.rules.specs.Requests.{kind_of, request_of}
use Rattle.rules.specs.Changes.{Change, changes_of, cut_change, write_changes}
use Rattle.rules.specs.Writing.{placed}
use Rattle.rules.specs.Outcomes.{outcome, after_of}
use Rattle.rules.specs.Claims.{Accepts}
use Rattle.rules.proofs.OutcomeLaws.{answered-number}
use Rattle.rules.proofs.ReplyLaws.{done-replies}
use Rattle.rules.proofs.Demand1.{replied_formed, done_valid}
use Rattle.rules.proofs.Demand2.{demand_2}
use Rattle.stretches.specs.Stretches.{Stretch, stretches_after}
use Rattle.stretches.specs.List.{row_limit, stretches_of, list_bytes}
use Rattle.stretches.specs.Claims.{Storable}
use Rattle.stretches.proofs.ShapeLaws.{never}
use Rattle.stretches.proofs.Claims.{good_list, list_good, list_round_trip}
use Rattle.listed_rules.specs.Outcomes.{next_stretches, outcome_beside, list_to, list_after}
use Rattle.listed_rules.specs.Claims.{Own, AcceptsBeside, WritesBeside, Demand2Beside}
use Rattle.listed_rules.proofs.BesideLaws.{next_of, beside_by, beside_formed, Ends, malformed, bad_list, refused}
use Rattle.listed_rules.proofs.BesideLaws.{too_many, done, ends, beside-number, own_by, list_moved}
use Rattle.listed_rules.proofs.GoodLaws.{bytes_fit, write_kind, next_rises}
use Rattle.listed_rules.proofs.Demand1.{demand_1_beside}

-- the stretches that would result are those after the writes and the cut
next_accepts : (c l q : List ℕ) (n : ℕ) (a : Accepts c q n) →
    next_of c l q
    ≡ stretches_after (write_changes (placed a.writes (length (data_of c))) (cut_change a.cut)) (length (data_of c))
    (stretches_of l)
unfolding next_stretches changes_of parts_of
next_accepts c l q n a = rw a.format refl

module _ (c l q r : List ℕ) where
  -- ---- from the outcome to the conditions
  done_accepts : kind_of q ≡ 1 → Ends c l q (length r) → outcome_beside c l q (length r) ≡ 0 →
      AcceptsBeside c l q (length r)
  done_accepts k (malformed w e) z =
      never (replied_formed c q (length r) (done-replies _ (sym e ∙ z))) w
  done_accepts k (bad_list w g e) z = absurd (omega arith)
  done_accepts k (refused w g h e) z = absurd (h (sym e ∙ z))
  done_accepts k (too_many w g o m e) z = absurd (omega arith)
  done_accepts k (done w g o m e) z =
      let a : Accepts c q (length r) = ((demand_2 c q r).exactly k).0 (answered-number c q r ∙ o) in
      record {
        accepts = a;
        good = good_list l (data_of c) g;
        changes = write_changes (placed a.writes (length (data_of c))) (cut_change a.cut);
        changes_are = refl;
        few = rw (next_accepts c l q (length r) a) at m;
      }

  -- ---- and back
  module _ (a : AcceptsBeside c l q (length r)) where
    abbrev left : List Stretch
    left = stretches_after a.changes (length (data_of c)) (stretches_of l)

    next_is : next_of c l q ≡ left
    next_is =
        next_accepts c l q (length r) a.accepts
        ∙ ap (λ (os : List Change). stretches_after os (length (data_of c)) (stretches_of l)) (sym a.changes_are)

    few_next : length (next_of c l q) ≤ row_limit
    few_next = rw next_is a.few

    own_done : outcome c q (length r) ≡ 0
    own_done =
        let x : Accepts c q (length r) = a.accepts in
        let k : kind_of q ≡ 1 = write_kind q x.enabler x.tests x.writes x.cut x.format in
        sym (answered-number c q r) ∙ ((demand_2 c q r).exactly k).1 x

    accepts_done : outcome_beside c l q (length r) ≡ 0
    unfolding beside_by
    accepts_done =
        beside_formed c l q (length r) a.accepts.formed
        ∙ rw (list_good l (data_of c) a.good, own_done, le-ltb row_limit (length (next_of c l q)) few_next)

    own : Own c l q r
    own = own_by c l q r (accepts_done ∙ sym own_done)

    list_is : list_after c l q r ≡ list_bytes left
    unfolding list_to
    list_is = list_moved c l q r accepts_done ∙ rw a.accepts.format refl ∙ ap list_bytes next_is

    -- the list that results can be read back
    storable : Storable left (length (after_of (parts_of c) (request_of q)).bytes)
    unfolding parts_of
    storable = record {
      few = a.few;
      rises = rw (← next_is) (next_rises (parts_of c) (request_of q) (stretches_of l) a.good.rises);
      fits = bytes_fit (after_of (parts_of c) (request_of q)) (done_valid c q r own_done);
    }

    done_writes : WritesBeside c l q r a
    done_writes = record {
      own = own;
      writes = (demand_2 c q r).writes a.accepts;
      list = list_is;
      named = ap stretches_of list_is ∙ (list_round_trip l (data_of c) left _).parts_back storable;
      good = rw own.container at ((demand_1_beside c l q r).stays_good a.accepts.formed a.good);
    }

  -- DEMAND 2
  pub demand_2_beside : Demand2Beside c l q r
  demand_2_beside = record {
    exactly = λ k.
        let n = beside-number c l q r in
        ((λ e. done_accepts k (ends c l q (length r)) (sym n ∙ e)), (λ a. n ∙ accepts_done a));
    writes = done_writes;
  }
