-- Demand 1 of a call beside a list, for any bytes. Assumes nothing.
use mathlib.Core.Path.{subst, ◌≡◌, refl, sym, ap, ◌∙◌}
use mathlib.Core.Bool.{Bool, true, false, cond, false≢true}
use mathlib.Core.List.{List, [], ◌∷◌}
use Prim.Native.Nat.{ℕ, ◌≤◌, ◌<◌}
use native.Mathlib.Omega.{arith}
use lib.ListN.{length, drop}
use lib.Dec.{eqb}
use borrow.Author.Tests.{eqb-true, eqb-false, lt-ltb}
use Rattle.octets.specs.Facts.{Among}
use Rattle.octets.specs.Lists.{any_of}
use Rattle.octets.proofs.ListLaws.{by_refuting}
use Rattle.octets.proofs.RowLaws.{occurs_later}
use Rattle.format.specs.Container.{well_formed}
use Rattle.format.specs.Layout.{data_of}
use Rattle.format.specs.Parts.{parts_of}
use Rattle.format.proofs.RoundTrip.{data_encode}
use Rattle.rules.specs.Requests.{kind_of, request_of}
use Rattle.rules.specs.Outcomes.{replies, outcome, no_node}
use Rattle.rules.specs.Claims.{numbers_for}
use Rattle.rules.proofs.NumberLaws.{outcome_among, never_six}
use Rattle.rules.proofs.ReplyLaws.{done-replies, unreplied, uncounted, other_node}
use Rattle.rules.proofs.Demand1.{replied_formed, done_valid, done_container, demand_1}
use Rattle.stretches.specs.List.{row_limit, list_ok}
use Rattle.stretches.specs.Claims.{GoodList}
use Rattle.stretches.proofs.ShapeLaws.{never}
use Rattle.stretches.proofs.Claims.{good_list, list_good}
use Rattle.listed_rules.specs.Outcomes.{outcome_beside, answered_beside, container_beside, list_after, reply_beside}
use Rattle.listed_rules.specs.Claims.{numbers_beside, Own, Demand1Beside}
use Rattle.rules.proofs.NumberLaws.{own_most}
use Rattle.listed_rules.proofs.BesideLaws.{next_of, beside_by, beside_formed, Ends, malformed, bad_list}
use Rattle.listed_rules.proofs.BesideLaws.{refused, too_many, done, ends, beside-number, own_by, list_kept}
use Rattle.listed_rules.proofs.BesideLaws.{list_moved, container_kept, reply_kept}
use Rattle.listed_rules.proofs.GoodLaws.{bytes_fit, other_list, few_others, good_after}

-- ---- the numbers
own_among : (n k : ℕ) → Among n (numbers_for k) → Among n (numbers_beside k)
unfolding numbers_beside
own_among n k h = occurs_later n 16 _ (go (eqb k 1))
  where
    go : (b : Bool) → any_of (eqb n) (cond b (13 ∷ numbers_for k) (numbers_for k)) ≡ true
    go true = occurs_later n 13 (numbers_for k) h
    go false = h

-- The container's own answer, or nothing done and nothing replied.
pub data Serves (c l q r : List ℕ) : Type 0 where
  alone : Own c l q r → Serves c l q r
  silent : container_beside c l q r ≡ c → reply_beside c l q r ≡ r → Serves c l q r

module _ (c l q r : List ℕ) where
  -- more rows result only from a test-and-write
  many_writes : GoodList l (data_of c) → row_limit < length (next_of c l q) → kind_of q ≡ 1
  many_writes g h = go (eqb (kind_of q) 1) refl
    where
      go : (b : Bool) → eqb (kind_of q) 1 ≡ b → kind_of q ≡ 1
      go true e = eqb-true (kind_of q) 1 e
      go false e = absurd (omega (arith, h, few_others (parts_of c) q l (data_of c) g (eqb-false (kind_of q) 1 e)))

  among : ℕ → Type 0
  among n = Among n (numbers_beside (kind_of q))

  number_by : Ends c l q (length r) → Among (outcome_beside c l q (length r)) (numbers_beside (kind_of q))
  unfolding numbers_beside any_of among
  number_by (malformed w e) =
      subst among (sym e) (own_among (outcome c q (length r)) (kind_of q) (outcome_among c q (length r)))
  number_by (bad_list w k e) = subst among (sym e) refl
  number_by (refused w k h e) =
      subst among (sym e) (own_among (outcome c q (length r)) (kind_of q) (outcome_among c q (length r)))
  number_by (too_many w k z m e) = subst among (sym e) (rw (many_writes (good_list l (data_of c) k) m) refl)
  number_by (done w k z m e) =
      subst among (sym e) (own_among 0 (kind_of q) (rw z at (outcome_among c q (length r))))

  six_by : Ends c l q (length r) → outcome_beside c l q (length r) ≡ 6 → ⊥
  six_by (malformed w e) s = never_six c q (length r) (sym e ∙ s)
  six_by (bad_list w k e) s = omega arith
  six_by (refused w k h e) s = never_six c q (length r) (sym e ∙ s)
  six_by (too_many w k z m e) s = omega arith
  six_by (done w k z m e) s = omega arith

  -- ---- 16 and 13
  sixteen_by : Ends c l q (length r) → outcome_beside c l q (length r) ≡ 16 →
      (well_formed c ≡ true) × (GoodList l (data_of c) → ⊥)
  sixteen_by (malformed w e) s = absurd (omega (arith, own_most c q (length r), e, s))
  sixteen_by (bad_list w k e) s = (w, λ g. never (list_good l (data_of c) g) k)
  sixteen_by (refused w k h e) s = absurd (omega (arith, own_most c q (length r), e, s))
  sixteen_by (too_many w k z m e) s = absurd (omega arith)
  sixteen_by (done w k z m e) s = absurd (omega arith)

  by_sixteen : well_formed c ≡ true → (GoodList l (data_of c) → ⊥) → outcome_beside c l q (length r) ≡ 16
  unfolding beside_by
  by_sixteen w h =
      beside_formed c l q (length r) w
      ∙ rw (by_refuting (list_ok l (data_of c)) (λ e. h (good_list l (data_of c) e)))

  thirteen_by : Ends c l q (length r) → outcome_beside c l q (length r) ≡ 13 →
      GoodList l (data_of c) × ((outcome c q (length r) ≡ 0) × (row_limit < length (next_of c l q)))
  thirteen_by (malformed w e) s = absurd (omega (arith, own_most c q (length r), e, s))
  thirteen_by (bad_list w k e) s = absurd (omega arith)
  thirteen_by (refused w k h e) s = absurd (omega (arith, own_most c q (length r), e, s))
  thirteen_by (too_many w k z m e) s = (good_list l (data_of c) k, (z, m))
  thirteen_by (done w k z m e) s = absurd (omega arith)

  by_thirteen : GoodList l (data_of c) → outcome c q (length r) ≡ 0 → row_limit < length (next_of c l q) →
      outcome_beside c l q (length r) ≡ 13
  unfolding beside_by
  by_thirteen g z m =
      beside_formed c l q (length r) (replied_formed c q (length r) (done-replies _ z))
      ∙ rw (list_good l (data_of c) g, z, lt-ltb row_limit (length (next_of c l q)) m)

  -- ---- in every other case all is as without a list
  serves : Ends c l q (length r) → Serves c l q r
  unfolding replies
  serves (malformed w e) = alone (own_by c l q r e)
  serves (bad_list w k e) = silent (container_kept c l q r (λ z. omega (arith, e, z))) (reply_kept c l q r (rw e))
  serves (refused w k h e) = alone (own_by c l q r e)
  serves (too_many w k z m e) = silent (container_kept c l q r (λ y. omega (arith, e, y))) (reply_kept c l q r (rw e))
  serves (done w k z m e) = alone (own_by c l q r (e ∙ sym z))

  own_of : Ends c l q (length r) → (outcome_beside c l q (length r) ≡ 13 → ⊥) →
      (outcome_beside c l q (length r) ≡ 16 → ⊥) → Own c l q r
  own_of (malformed w e) h k = own_by c l q r e
  own_of (bad_list w g e) h k = absurd (k e)
  own_of (refused w g i e) h k = own_by c l q r e
  own_of (too_many w g z m e) h k = absurd (h e)
  own_of (done w g z m e) h k = own_by c l q r (e ∙ sym z)

  front_of_lem : Serves c l q r →
      drop (answered_beside c l q r).count (reply_beside c l q r) ≡ drop (answered_beside c l q r).count r
  front_of_lem (alone o) = rw (o.answer, o.reply) (demand_1 c q r).front
  front_of_lem (silent e f) = rw f

  container_length_of : Serves c l q r → length (container_beside c l q r) ≡ length c
  container_length_of (alone o) = rw o.container (demand_1 c q r).container_length
  container_length_of (silent e f) = rw e

  reply_length_of : Serves c l q r → length (reply_beside c l q r) ≡ length r
  reply_length_of (alone o) = rw o.reply (demand_1 c q r).reply_length
  reply_length_of (silent e f) = rw f

  formed_of : Serves c l q r → well_formed c ≡ true → well_formed (container_beside c l q r) ≡ true
  formed_of (alone o) w = rw o.container ((demand_1 c q r).stays_formed w)
  formed_of (silent e f) w = rw e w

  -- ---- the list
  others : (kind_of q ≡ 1 → ⊥) → list_after c l q r ≡ l
  unfolding list_after
  others h = rw (other_list (parts_of c) q l h) (go (eqb (outcome_beside c l q (length r)) 0))
    where
      go : (b : Bool) → cond b l l ≡ l
      go true = refl
      go false = refl

  unchanged_good : (outcome_beside c l q (length r) ≡ 0 → ⊥) → GoodList l (data_of c) →
      GoodList (list_after c l q r) (data_of (container_beside c l q r))
  unchanged_good h g = rw (list_kept c l q r h, container_kept c l q r h) g

  done_good : outcome c q (length r) ≡ 0 → length (next_of c l q) ≤ row_limit →
      outcome_beside c l q (length r) ≡ 0 → GoodList l (data_of c) →
      GoodList (list_after c l q r) (data_of (container_beside c l q r))
  unfolding parts_of
  done_good z m e g =
      let v = done_valid c q r z in
      rw (list_moved c l q r e, (own_by c l q r (e ∙ sym z)).container, done_container c q r z, data_encode _ v)
      (good_after (parts_of c) (request_of q) l g (bytes_fit _ v) m)

  good_by : Ends c l q (length r) → well_formed c ≡ true → GoodList l (data_of c) →
      GoodList (list_after c l q r) (data_of (container_beside c l q r))
  good_by (malformed w e) f g = never f w
  good_by (bad_list w k e) f g = never (list_good l (data_of c) g) k
  good_by (refused w k h e) f g = unchanged_good (λ z. h (sym e ∙ z)) g
  good_by (too_many w k z m e) f g = unchanged_good (λ y. omega (arith, e, y)) g
  good_by (done w k z m e) f g = done_good z m e g

  list_length_by : Ends c l q (length r) → length (list_after c l q r) ≡ length l
  list_length_by (malformed w e) =
      ap length (list_kept c l q r (λ z. never (replied_formed c q (length r) (done-replies _ (sym e ∙ z))) w))
  list_length_by (bad_list w k e) = ap length (list_kept c l q r (λ z. omega (arith, e, z)))
  list_length_by (refused w k h e) = ap length (list_kept c l q r (λ z. h (sym e ∙ z)))
  list_length_by (too_many w k z m e) = ap length (list_kept c l q r (λ y. omega (arith, e, y)))
  list_length_by (done w k z m e) =
      let g : GoodList l (data_of c) = good_list l (data_of c) k in
      (done_good z m e g).long ∙ sym g.long

  -- ---- node id and count
  no_node_holds : Among (outcome_beside c l q (length r)) (13 ∷ 16 ∷ []) → (answered_beside c l q r).node ≡ no_node
  unfolding answered_beside any_of
  no_node_holds a =
      other_node (outcome_beside c l q (length r)) (parts_of c) (request_of q) (λ e. false≢true (rw e at a))

  no_count : replies (outcome_beside c l q (length r)) ≡ false → (answered_beside c l q r).count ≡ 0
  unfolding answered_beside
  no_count e = uncounted (outcome_beside c l q (length r)) (parts_of c) (request_of q) e

  -- DEMAND 1
  pub demand_1_beside : Demand1Beside c l q r
  demand_1_beside =
      let n = beside-number c l q r in
      let w = ends c l q (length r) in
      let s = serves w in
      record {
        number = rw n (number_by w);
        never_six = λ e. six_by w (sym n ∙ e);
        refused = λ h. container_kept c l q r (λ e. h (n ∙ e));
        list_refused = λ h. list_kept c l q r (λ e. h (n ∙ e));
        silent = λ h k. reply_kept c l q r (unreplied _ (λ e. h (n ∙ e)) (λ e. k (n ∙ e)));
        uncounted = λ h k. no_count (unreplied _ (λ e. h (n ∙ e)) (λ e. k (n ∙ e)));
        front = front_of_lem s;
        sixteen = ((λ e. sixteen_by w (sym n ∙ e)), (λ h. n ∙ by_sixteen h.0 h.1));
        thirteen = ((λ e. thirteen_by w (sym n ∙ e)), (λ h. n ∙ by_thirteen h.0 h.1.0 h.1.1));
        no_node_holds = λ a. no_node_holds (rw n at a);
        own = λ h k. own_of w (λ e. h (n ∙ e)) (λ e. k (n ∙ e));
        others = others;
        container_length = container_length_of s;
        list_length_holds = list_length_by w;
        reply_length = reply_length_of s;
        stays_formed = formed_of s;
        stays_good = good_by w;
      }
