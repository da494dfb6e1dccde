-- What a lease request answers and leaves, by the rules of the whole container. Assumes nothing.
use mathlib.Core.Path.{◌≡◌, refl, ap, ◌∙◌}
use mathlib.Core.Bool.{Bool, true, false, cond, not, ◌&&◌}
use mathlib.Core.List.{List, [], ◌∷◌}
use mathlib.Core.Option.{some}
use Prim.Native.Nat.{ℕ}
use lib.ListN.{length}
use lib.Dec.{eqb, leb, ltb}
use Rattle.octets.specs.Moves.{put}
use Rattle.format.specs.Container.{well_formed}
use Rattle.format.specs.Layout.{renewal_of, lease_limit}
use Rattle.format.specs.Parts.{Parts, parts_of, used}
use Rattle.rules.specs.Requests.{Request, test_write, add, renew, cancel, read, request_of}
use Rattle.rules.specs.Leasing.{renewed_by, cancelled_by, knows, present}
use Rattle.octets.specs.Rows.{row, first_row}
use Rattle.rules.specs.Outcomes.{rows, room_rows, request_rows, replies, answer_of, no_node, answer_to, after_of, after}
use Rattle.rules.specs.Outcomes.{reply_bytes, reply_to, outcome, answered, container_after, reply_after, admit_rows}
use Rattle.rules.specs.Outcomes.{find_rows}
use Rattle.rules.proofs.OutcomeLaws.{outcome_formed}
use Rattle.leases.specs.Operations.{done_of, lease_outcome, lease_done, lease_container}
use Rattle.octets.specs.Lists.{maybe}
use Rattle.rules.specs.declared.Answer.{Answer}
use Rattle.std.specs.Prelude.{Result, Ok, Err}
use Rattle.rules.specs.Refusals.{answer_from}
use Rattle.rules.specs.declared.outcomes.Refusal.{Refusal}

-- Kinds 2 to 4.
abbrev pub LeaseRequest : Request → Type 0
LeaseRequest (test_write k ts ws cut) = ⊥
LeaseRequest (add r) = Unit {0}
LeaseRequest (renew t x) = Unit {0}
LeaseRequest (cancel t) = Unit {0}
LeaseRequest (read rs) = ⊥

-- Their numbers are 0, 9, 10 and 11: never 5, and 8 is no reply of theirs.
pub record Plain (n : ℕ) : Type 0 where
  pub no_node_holds : eqb n 5 ≡ false
  pub only_done : replies n ≡ eqb n 0

one-row : (b : Bool) → Plain (first_row (row 9 b ∷ []))
unfolding first_row replies
one-row true = record { no_node_holds = refl; only_done = refl }
one-row false = record { no_node_holds = refl; only_done = refl }

two_rows : (a b : Bool) → Plain (first_row (row 10 a ∷ (row 11 b ∷ [])))
unfolding first_row replies
two_rows true b = record { no_node_holds = refl; only_done = refl }
two_rows false true = record { no_node_holds = refl; only_done = refl }
two_rows false false = record { no_node_holds = refl; only_done = refl }

plain : (p : Parts) (q : Request) → LeaseRequest q → Plain (lease_outcome p q)
unfolding lease_outcome rows admit_rows find_rows room_rows
plain p (test_write k ts ws cut) l = absurd l
plain p (add r) l = two_rows (leb lease_limit (present p.leases) && not (knows (renewed_by (renewal_of r)) p.leases))
    (ltb p.room (used (after p (add r))))
plain p (renew t x) l = one-row (not (knows (renewed_by t) p.leases))
plain p (cancel t) l = one-row (not (knows (cancelled_by t) p.leases))
plain p (read rs) l = absurd l

-- The reply space does not matter to them.
outcome-lease : (p : Parts) (q : Request) (n : ℕ) → LeaseRequest q → first_row (request_rows p (some q) n)
    ≡ lease_outcome p q
unfolding request_rows lease_outcome rows admit_rows find_rows
outcome-lease p (test_write k ts ws cut) n l = absurd l
outcome-lease p (add r) n l = refl
outcome-lease p (renew t x) n l = refl
outcome-lease p (cancel t) n l = refl
outcome-lease p (read rs) n l = absurd l

no_reply : (p : Parts) (q : Request) → LeaseRequest q → reply_to p q ≡ []
unfolding reply_to
no_reply p (test_write k ts ws cut) l = absurd l
no_reply p (add r) l = refl
no_reply p (renew t x) l = refl
no_reply p (cancel t) l = refl
no_reply p (read rs) l = absurd l

module _ (c q : List ℕ) (w : Request) (f : well_formed c ≡ true) (is : request_of q ≡ some w) (l : LeaseRequest w) where
  outcome_is : (r : List ℕ) → outcome c q (length r) ≡ lease_outcome (parts_of c) w
  outcome_is r = outcome_formed c q (length r) f ∙ rw is (outcome-lease (parts_of c) w (length r) l)

  lease-answered : (o : Result ℕ Refusal) → done_of o ≡ lease_done (parts_of c) w → (r : List ℕ) →
      answer_from o ≡ answered c q r
  unfolding answered answer_to lease_done
  lease-answered o e r =
      let n = plain (parts_of c) w l in
      as_done o ∙ rw (e, outcome_is r, is, n.no_node_holds, n.only_done)
    where
      as_done : (o : Result ℕ Refusal) → answer_from o ≡ answer_of (done_of o).number no_node (done_of o).count
      as_done (Ok n) = refl
      as_done (Err e) = refl

  lease_container_lem : (r : List ℕ) → lease_container c w ≡ container_after c q r
  unfolding container_after lease_container after_of maybe
  lease_container_lem r = rw (outcome_is r, is)

  lease_reply : (r : List ℕ) → r ≡ reply_after c q r
  unfolding reply_after reply_bytes maybe
  lease_reply r = rw (is, no_reply (parts_of c) w l) (go (replies (outcome c q (length r))))
    where
      go : (b : Bool) → r ≡ cond b (put 0 [] r) r
      go true = refl
      go false = refl

  -- the answer, the container and the reply space that a call of the lease code makes, whose argument is the request's
  pub lease-results : (v : Request) → v ≡ w → (o : Result ℕ Refusal) (e r : List ℕ) (x : Answer) →
      done_of o ≡ lease_done (parts_of c) v → e ≡ lease_container c v → x ≡ answer_from o →
      (x ≡ answered c q r) × ((e ≡ container_after c q r) × (r ≡ reply_after c q r))
  lease-results v s o e r x i j k = (
    k ∙ lease-answered o (i ∙ ap (lease_done (parts_of c)) s) r,
    (j ∙ ap (lease_container c) s ∙ lease_container_lem r, lease_reply r),
  )
