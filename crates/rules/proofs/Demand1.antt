-- Demand 1 of the rules, for any bytes. Assumes nothing.
use mathlib.Core.Path.{◌≡◌, refl, sym, ap, ◌∙◌}
use mathlib.Core.Bool.{Bool, true, false, not, false≢true}
use mathlib.Core.List.{List, [], ◌∷◌, map}
use mathlib.Core.Option.{Option, none, some}
use Prim.Native.Nat.{ℕ, ◌≤◌}
use native.Mathlib.Omega.{arith}
use lib.ListN.{length, drop}
use lib.Dec.{eqb, leb}
use borrow.Author.Tests.{not-false, eqb-true, eqb-false, eq-eqb, leb-true, ne_eqb}
use Rattle.octets.specs.Moves.{put}
use Rattle.octets.proofs.MoveLaws.{put-length}
use Rattle.format.specs.Layout.{least, limit, node_of, data_of, leases_of, node_size, secret_size}
use Rattle.format.specs.Container.{length_allowed, well_formed}
use Rattle.format.specs.Parts.{parts_of, encode, fresh}
use Rattle.format.specs.Claims.{Valid}
use Rattle.octets.proofs.ListLaws.{both}
use Rattle.format.proofs.RoundTrip.{parts_valid, encode_formed, length-encode, leases_encode, fresh_valid}
use Rattle.rules.specs.Requests.{Test, Read, Write, Request, test_write, read, kind_of}
use Rattle.rules.specs.Requests.{request_of}
use Rattle.rules.specs.Testing.{test_piece, read_piece, reply_of}
use Rattle.rules.specs.Leasing.{present}
use Rattle.rules.specs.Outcomes.{after_of, request_rows, reply_to, reply_bytes}
use Rattle.rules.specs.Outcomes.{replies, counted, outcome, no_node, answered, container_after, reply_after}
use Rattle.rules.specs.Outcomes.{create_outcome, create_answer, created_container}
use Rattle.octets.specs.Rows.{row, first_row}
use Rattle.octets.specs.Lists.{maybe}
use Rattle.octets.specs.Facts.{Among}
use Rattle.rules.specs.Claims.{Reported, Demand1, Demand1Create}
use Rattle.octets.proofs.RowLaws.{clear}
use Rattle.rules.proofs.RequestLaws.{kinds, request_proper}
use Rattle.rules.proofs.OutcomeLaws.{outcome_formed, room_after, valid_after, answered-number}
use Rattle.rules.proofs.NumberLaws.{broken_is, outcome_among, create_among, broken_among, never_six}
use Rattle.rules.proofs.NumberLaws.{create_never_six, done_unbroken}
use Rattle.rules.proofs.ReplyLaws.{done-replies, among_replies, unreplied, reply_fits, counted_front}
use Rattle.rules.proofs.ReplyLaws.{uncounted, five_node, other_node, replied, lease_reply, lease_count}

-- ---- outcomes 0 and 8 are those of well-formed containers
pub replied_formed : (c q : List ℕ) (n : ℕ) → replies (outcome c q n) ≡ true → well_formed c ≡ true
unfolding outcome first_row replies
replied_formed c q n = go (length_allowed c) (well_formed c)
  where
    go : (a b : Bool) →
        replies (first_row (row 1 (not a) ∷ row 2 (not b) ∷ request_rows (parts_of c) (request_of q) n)) ≡ true → b ≡ true
    go false b e = absurd (false≢true e)
    go true false e = absurd (false≢true e)
    go true true e = refl

room_parts : (c : List ℕ) → (parts_of c).room ≡ length c
unfolding parts_of
room_parts c = refl

module _ (c q r : List ℕ) where
  -- where the request is done, the container is the encoding of valid parts
  pub done_valid : outcome c q (length r) ≡ 0 → Valid (after_of (parts_of c) (request_of q))
  done_valid e =
      let w : well_formed c ≡ true = replied_formed c q (length r) (done-replies _ e) in
      valid_after (parts_of c) (request_of q) (length r) (parts_valid c w) (request_proper q)
      (eq-eqb _ _ (sym (outcome_formed c q (length r) w) ∙ e))

  pub done_container : outcome c q (length r) ≡ 0 → container_after c q r ≡ encode (after_of (parts_of c) (request_of q))
  unfolding container_after
  done_container e = rw e

  pub refused_container : (outcome c q (length r) ≡ 0 → ⊥) → container_after c q r ≡ c
  unfolding container_after
  refused_container e = rw (ne_eqb (outcome c q (length r)) 0 e)

  container_length : length (container_after c q r) ≡ length c
  container_length = go (eqb (outcome c q (length r)) 0) refl
    where
      go : (b : Bool) → eqb (outcome c q (length r)) 0 ≡ b → length (container_after c q r) ≡ length c
      go true e =
          let z = eqb-true _ _ e in
          ap length (done_container z)
          ∙ length-encode _ (done_valid z)
          ∙ room_after (parts_of c) (request_of q)
          ∙ room_parts c
      go false e = ap length (refused_container (eqb-false _ _ e))

  stays_formed : well_formed c ≡ true → well_formed (container_after c q r) ≡ true
  stays_formed w = go (eqb (outcome c q (length r)) 0) refl
    where
      go : (b : Bool) → eqb (outcome c q (length r)) 0 ≡ b → well_formed (container_after c q r) ≡ true
      go true e = let z = eqb-true _ _ e in rw (done_container z) (encode_formed _ (done_valid z))
      go false e = rw (refused_container (eqb-false _ _ e)) w

  silent_reply : replies (outcome c q (length r)) ≡ false → reply_after c q r ≡ r
  unfolding reply_after
  silent_reply e = rw e

  written_reply : replies (outcome c q (length r)) ≡ true →
      reply_after c q r ≡ put 0 (reply_bytes (parts_of c) (request_of q)) r
  unfolding reply_after
  written_reply e = rw e

  written_fits : replies (outcome c q (length r)) ≡ true → length (reply_bytes (parts_of c) (request_of q)) ≤ length r
  written_fits e =
      let w : well_formed c ≡ true = replied_formed c q (length r) e in
      reply_fits (parts_of c) (request_of q) (length r) (rw (outcome_formed c q (length r) w) at e)

  reply_length : length (reply_after c q r) ≡ length r
  reply_length = go (replies (outcome c q (length r))) refl
    where
      go : (b : Bool) → replies (outcome c q (length r)) ≡ b → length (reply_after c q r) ≡ length r
      go true e =
          let h = written_fits e in
          ap length (written_reply e) ∙ put-length 0 (reply_bytes (parts_of c) (request_of q)) r (omega arith)
      go false e = ap length (silent_reply e)

  reply_front : drop (answered c q r).count (reply_after c q r) ≡ drop (answered c q r).count r
  unfolding answered
  reply_front = go (replies (outcome c q (length r))) refl
    where
      go : (b : Bool) → replies (outcome c q (length r)) ≡ b →
          drop (answered c q r).count (reply_after c q r) ≡ drop (answered c q r).count r
      go true e = rw (written_reply e) (counted_front (parts_of c) (request_of q) (outcome c q (length r)) r e)
      go false e = rw (silent_reply e)

  -- the reply of a request that counts its reply bytes
  request_reply : (x : Request) → request_of q ≡ some x → counted (parts_of c) x ≡ length (reply_to (parts_of c) x) →
      replies (outcome c q (length r)) ≡ true → Reported c q r (reply_to (parts_of c) x)
  unfolding answered reply_bytes maybe
  request_reply x f k e = record {
    reply = written_reply e ∙ rw f refl;
    count = rw f (replied (outcome c q (length r)) (parts_of c) x e ∙ k);
  }

  pub tests_reply : (k : List ℕ) (ts : List Test) (ws : List Write) (cut : Option ℕ) →
      request_of q ≡ some (test_write k ts ws cut) → replies (outcome c q (length r)) ≡ true →
      Reported c q r (reply_of (map (test_piece (data_of c)) ts))
  unfolding reply_to counted parts_of
  tests_reply k ts ws cut f = request_reply (test_write k ts ws cut) f refl

  pub reads_reply : (rs : List Read) → request_of q ≡ some (read rs) → replies (outcome c q (length r)) ≡ true →
      Reported c q r (reply_of (map (read_piece (data_of c)) rs))
  unfolding reply_to counted parts_of
  reads_reply rs f = request_reply (read rs) f refl

  leases_silent : Among (kind_of q) (2 ∷ 3 ∷ 4 ∷ []) → reply_after c q r ≡ r
  leases_silent l = go (replies (outcome c q (length r))) refl
    where
      go : (b : Bool) → replies (outcome c q (length r)) ≡ b → reply_after c q r ≡ r
      go true e = written_reply e ∙ rw (lease_reply (parts_of c) q l (kinds q)) refl
      go false e = silent_reply e

  leases_count : Among (kind_of q) (2 ∷ 3 ∷ 4 ∷ []) → outcome c q (length r) ≡ 0 →
      (answered c q r).count ≡ present (leases_of (container_after c q r))
  unfolding answered
  leases_count l e =
      let h : request_of q ≡ none → ⊥ = done_unbroken c q (length r) e in
      rw (e, done_container e, leases_encode _ (done_valid e)) (lease_count (parts_of c) q l h (kinds q))

  node_is : outcome c q (length r) ≡ 5 → (answered c q r).node ≡ node_of c
  unfolding answered parts_of
  node_is e =
      let h : request_of q ≡ none → ⊥ =
      λ f. broken_is (λ n. n ≡ 5 → ⊥) c q (length r) f (λ z. omega arith) (λ z. omega arith) (λ z. omega arith) e in
      five_node (outcome c q (length r)) (parts_of c) (request_of q) h e

  no_node_holds : (outcome c q (length r) ≡ 5 → ⊥) → (answered c q r).node ≡ no_node
  unfolding answered
  no_node_holds h = other_node (outcome c q (length r)) (parts_of c) (request_of q) h

  no_count : replies (outcome c q (length r)) ≡ false → (answered c q r).count ≡ 0
  unfolding answered
  no_count e = uncounted (outcome c q (length r)) (parts_of c) (request_of q) e

  -- DEMAND 1
  pub demand_1 : Demand1 c q r
  demand_1 =
      let n = answered-number c q r in
      record {
        number = rw n (outcome_among c q (length r));
        never_six = λ e. never_six c q (length r) (sym n ∙ e);
        broken = λ f. rw n (broken_among c q (length r) f);
        refused = λ h. refused_container (λ e. h (n ∙ e));
        silent = λ h k. silent_reply (unreplied _ (λ e. h (n ∙ e)) (λ e. k (n ∙ e)));
        uncounted = λ h k. no_count (unreplied _ (λ e. h (n ∙ e)) (λ e. k (n ∙ e)));
        front = reply_front;
        tests_reply = λ k ts ws cut f a. tests_reply k ts ws cut f (among_replies _ (rw n at a));
        reads_reply = λ rs f e. reads_reply rs f (done-replies _ (sym n ∙ e));
        leases_silent = leases_silent;
        leases_count = λ l e. leases_count l (sym n ∙ e);
        node = λ e. node_is (sym n ∙ e);
        no_node_holds = λ h. no_node_holds (λ e. h (n ∙ e));
        container_length = container_length;
        reply_length = reply_length;
        stays_formed = stays_formed;
      }

-- ---- create
pub created_valid : (c node enabler : List ℕ) → create_outcome c node enabler ≡ 0 → Valid (fresh (length c) node enabler)
unfolding create_outcome length_allowed
created_valid c node enabler e =
    let x = clear 1 _ _ (omega arith) e in
    let y = clear 3 _ _ (omega arith) x.1 in
    let a = both (leb least (length c)) (leb (length c) limit) (not-false _ x.0) in
    let l = both (eqb (length node) node_size) (eqb (length enabler) secret_size) (not-false _ y.0) in
    fresh_valid (length c) node enabler (leb-true _ _ a.0) (leb-true _ _ a.1)
    (eqb-true _ _ l.0) (eqb-true _ _ l.1)

pub created : (c node enabler : List ℕ) → create_outcome c node enabler ≡ 0 →
    created_container c node enabler ≡ encode (fresh (length c) node enabler)
unfolding created_container
created c node enabler e = rw e

module _ (c node enabler : List ℕ) where
  not_created : (create_outcome c node enabler ≡ 0 → ⊥) → created_container c node enabler ≡ c
  unfolding created_container
  not_created e = rw (ne_eqb (create_outcome c node enabler) 0 e)

  created_length : length (created_container c node enabler) ≡ length c
  unfolding fresh
  created_length = go (eqb (create_outcome c node enabler) 0) refl
    where
      go : (b : Bool) → eqb (create_outcome c node enabler) 0 ≡ b → length (created_container c node enabler) ≡ length c
      go true e =
          let z = eqb-true _ _ e in
          ap length (created c node enabler z) ∙ length-encode _ (created_valid c node enabler z)
      go false e = ap length (not_created (eqb-false _ _ e))

  -- DEMAND 1 of create
  pub demand_1_create : Demand1Create c node enabler
  unfolding create_answer
  demand_1_create = record {
    number = create_among c node enabler;
    never_six = create_never_six c node enabler;
    no_node_holds = refl;
    uncounted = refl;
    refused = not_created;
    container_length = created_length;
    made_formed = λ e. rw (created c node enabler e) (encode_formed _ (created_valid c node enabler e));
  }
