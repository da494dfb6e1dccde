-- Demand 3, whole, over bytes. Assumes nothing.
use mathlib.Core.Path.{◌≡◌, refl, sym, ap, ◌∙◌}
use mathlib.Core.Bool.{Bool, true, false, cond}
use mathlib.Core.List.{List, [], ◌∷◌, ◌++◌}
use Prim.Native.Nat.{ℕ}
use lib.ListN.{length, get_or}
use lib.Dec.{eqb}
use borrow.Author.Tests.{not-false}
use Rattle.format.specs.Layout.{data_of}
use Rattle.format.specs.Parts.{Parts, parts_of, encode, fresh}
use Rattle.format.specs.Claims.{Valid}
use Rattle.format.proofs.RoundTrip.{encode_formed, leases_encode, data_encode, encode_parts, parts_valid}
use Rattle.rules.specs.Requests.{request_of}
use Rattle.rules.specs.Outcomes.{after_of, create_outcome, created_container}
use Rattle.rules.proofs.Demand1.{created, created_valid}
use Rattle.histories.specs.Runs.{Call, Heard, hears, leaves, rule_outcome, rule_hears, rule_leaves, answers, final}
use Rattle.histories.specs.Runs.{names, is_lease, is_data, only, beside, no_room, Never, Woven}
use Rattle.rules.specs.Changes.{Change, size_after, byte_over, byte_after, changes_of}
use Rattle.histories.specs.Accepted.{took, accepted}
use Rattle.histories.specs.Claims.{Alike, ByRules, Told, Demand3, InUse, Histories}
use Rattle.histories.proofs.Sides.{agree, looks_agree}
use Rattle.histories.proofs.Follows.{valid_final, follows_answers, follows_final}
use Rattle.rules.proofs.ChangeLaws.{perform_all, length-perform_all, at_perform_all, perform_all-append, after-bytes}
use Rattle.histories.proofs.Steps.{heard_by, left_by, early_of, heard_number, data_side, lease_side, room_stays}
use Rattle.histories.proofs.Steps.{data_calls, lease_calls, lease-changes, rule_names, names_sided, follows_names}
use Rattle.histories.proofs.Steps.{follows}

-- ---- what the rules give
pub by_rules : (h : List Call) (p : Parts) → Valid p → ByRules h (encode p) p
by_rules h p v =
    let f : Valid (final rule_leaves h p) = valid_final Valid encode rule_hears rule_leaves hears leaves follows h p v in
    let e : final leaves h (encode p) ≡ encode (final rule_leaves h p) =
    follows_final Valid encode rule_hears rule_leaves hears leaves follows h p v in
    record {
      heard = follows_answers Valid encode rule_hears rule_leaves hears leaves follows h p v;
      buffer = e;
      leases = rw e (leases_encode (final rule_leaves h p) f);
      formed = rw e (encode_formed (final rule_leaves h p) f);
    }

-- ---- woven histories: the sides agree, so the whole parts do
room_final : (h : List Call) (p : Parts) → (final rule_leaves h p).room ≡ p.room
unfolding final
room_final [] p = refl
room_final (x ∷ h) p = room_final h (rule_leaves x p) ∙ room_stays x p

pub parts_agree : (p q : Parts) → data_side p ≡ data_side q → lease_side p ≡ lease_side q → p.room ≡ q.room → p ≡ q
unfolding data_side lease_side
parts_agree p q d l r = λ i. record {
  room = r i;
  node = (d i).node;
  enabler = (d i).enabler;
  bytes = (d i).bytes;
  slack = (d i).slack;
  leases =
      (l i).leases;
}

-- the accepted changes are those of the reads and test-and-writes
took-lease : (x : Call) (a : Heard) (n : ℕ) → is_data x ≡ false → took x a n ≡ []
unfolding took is_data
took-lease x a n e = rw (lease-changes x n (not-false (is_lease x) e)) (go (eqb a.answer.number 0))
  where
    go : (b : Bool) → cond {A = List Change} b [] [] ≡ []
    go true = refl
    go false = refl

accepted-none : (h : List Call) (n : ℕ) → accepted h [] n ≡ []
unfolding accepted
accepted-none [] n = refl
accepted-none (x ∷ h) n = refl

accepted_data : (h : List Call) (ys : List Heard) (n : ℕ) →
    accepted h ys n ≡ accepted (only is_data h) (beside is_data h ys) n
unfolding accepted only beside size_after
accepted_data [] ys n = refl
accepted_data (x ∷ xs) [] n = sym (accepted-none (only is_data (x ∷ xs)) n)
accepted_data (x ∷ xs) (a ∷ ys) n =
    go (is_data x) refl (accepted_data xs ys n) (accepted_data xs ys (size_after (took x a n) n))
  where
    go : (b : Bool) → is_data x ≡ b → accepted xs ys n ≡ accepted (only is_data xs) (beside is_data xs ys) n →
        accepted xs ys (size_after (took x a n) n)
        ≡ accepted (only is_data xs) (beside is_data xs ys) (size_after (took x a n) n) →
        took x a n ++ accepted xs ys (size_after (took x a n) n)
        ≡ accepted (cond b (x ∷ only is_data xs) (only is_data xs))
        (cond b (a ∷ beside is_data xs ys) (beside is_data xs ys)) n
    go true e i j = ap (λ (os : List Change). took x a n ++ os) j
    go false e i j = rw (took-lease x a n e) i

pub woven_alike : (h k : List Call) (p : Parts) → Valid p → Woven h k →
    Never no_room (answers hears leaves h (encode p)) → Never no_room (answers hears leaves k (encode p))
    → Alike h k (encode p)
woven_alike h k p v w nh nk =
    let bh : ByRules h (encode p) p = by_rules h p v in
    let bk : ByRules k (encode p) p = by_rules k p v in
    let mh : Never no_room (answers rule_hears rule_leaves h p) = rw bh.heard at nh in
    let mk : Never no_room (answers rule_hears rule_leaves k p) = rw bk.heard at nk in
    let d = agree is_data no_room rule_hears rule_leaves data_side (λ x p. heard_by (early_of x p) x p)
    (λ x p. left_by (early_of x p) x p) data_calls h k p w.data_calls mh mk in
    let l = agree is_lease no_room rule_hears rule_leaves lease_side (λ x p. heard_by (early_of x p) x p)
    (λ x p. left_by (early_of x p) x p) lease_calls h k p w.lease_calls mh mk in
    let e : final rule_leaves h p ≡ final rule_leaves k p = parts_agree (final rule_leaves h p) (final rule_leaves k p)
    d.view_agrees l.view_agrees (room_final h p ∙ sym (room_final k p)) in
    record {
      data_heard = rw (bh.heard, bk.heard) d.answers_agree;
      lease_heard = rw (bh.heard, bk.heard) l.answers_agree;
      bytes_equal = bh.buffer ∙ ap encode e ∙ sym bk.buffer;
      positions_equal =
          ap (beside is_data h) (follows_answers Valid encode rule_names rule_leaves names leaves follows_names h p v)
          ∙ looks_agree is_data no_room rule_hears rule_leaves data_side (λ x p. heard_by (early_of x p) x p)
          (λ x p. left_by (early_of x p) x p) rule_names rule_names (λ x p m r. names_sided x p) data_calls h k p
          w.data_calls mh mk
          ∙ sym (ap (beside is_data k)
          (follows_answers Valid encode rule_names rule_leaves names leaves follows_names k p v));
      changes_equal =
          accepted_data h (answers hears leaves h (encode p)) (length (data_of (encode p)))
          ∙ rw (w.data_calls, bh.heard, bk.heard, d.answers_agree) refl
          ∙ sym (accepted_data k (answers hears leaves k (encode p)) (length (data_of (encode p))));
    }

-- ---- the data bytes: the accepted changes, performed
pub step_bytes : (x : Call) (p : Parts) → (rule_leaves x p).bytes
    ≡ perform_all (took x (rule_hears x p) (length p.bytes)) p.bytes
unfolding rule_leaves took perform_all
step_bytes x p = rw heard_number (go (eqb (rule_outcome x p) 0))
  where
    go : (b : Bool) → (cond b (after_of p (request_of x.request)) p).bytes
        ≡ perform_all (cond b (changes_of (request_of x.request) (length p.bytes)) []) p.bytes
    go true = after-bytes p (request_of x.request)
    go false = refl

bytes-accepted : (h : List Call) (p : Parts) → (final rule_leaves h p).bytes
    ≡ perform_all (accepted h (answers rule_hears rule_leaves h p) (length p.bytes)) p.bytes
unfolding final answers accepted perform_all
bytes-accepted [] p = refl
bytes-accepted (x ∷ xs) p =
    let d : List ℕ = p.bytes in
    let os : List Change = took x (rule_hears x p) (length d) in
    let n : length (rule_leaves x p).bytes ≡ size_after os (length d) = ap length (step_bytes x p)
    ∙ length-perform_all os d in
    let heard : List Heard = answers rule_hears rule_leaves xs (rule_leaves x p) in
    bytes-accepted xs (rule_leaves x p)
    ∙ ap (λ (k : ℕ). perform_all (accepted xs heard k) (rule_leaves x p).bytes) n
    ∙ ap (perform_all (accepted xs heard (size_after os (length d)))) (step_bytes x p)
    ∙ sym (perform_all-append os (accepted xs heard (size_after os (length d))) d)

-- on any valid parts with data d: the size, and each byte
module _ (h : List Call) (p : Parts) (v : Valid p) (d : List ℕ) (e : p.bytes ≡ d) where
  abbrev did : List Change
  did = accepted h (answers hears leaves h (encode p)) (length d)

  data_final : data_of (final leaves h (encode p)) ≡ perform_all did d
  data_final =
      let b : ByRules h (encode p) p = by_rules h p v in
      let f : Valid (final rule_leaves h p) =
      valid_final Valid encode rule_hears rule_leaves hears leaves follows h p v in
      rw (b.buffer, b.heard) (data_encode (final rule_leaves h p) f ∙ bytes-accepted h p ∙ rw e)

  pub size_final : length (data_of (final leaves h (encode p))) ≡ size_after did (length d)
  size_final = ap length data_final ∙ length-perform_all did d

  pub each_final : (i : ℕ) → get_or (data_of (final leaves h (encode p))) i 0 ≡ byte_over did i (get_or d i 0)
  unfolding byte_over
  each_final i = ap (λ (x : List ℕ). get_or x i 0) data_final ∙ at_perform_all did d i

data_told : (h : List Call) (p : Parts) → Valid p → p.bytes ≡ []
    → Told (accepted h (answers hears leaves h (encode p)) 0) (data_of (final leaves h (encode p)))
unfolding byte_after
data_told h p v e = record {
  size = size_final h p v [] e;
  each = each_final h p v [] e;
}

demand_3_parts : (p : Parts) → Valid p → p.bytes ≡ [] → Demand3 (encode p) p
demand_3_parts p v e = record {
  woven = λ h k. woven_alike h k p v;
  rules = λ h. by_rules h p v;
  told =
      λ h. data_told h p v e;
}

demand_3_created : (b node enabler : List ℕ) → create_outcome b node enabler ≡ 0
    → Demand3 (created_container b node enabler) (fresh (length b) node enabler)
unfolding fresh
demand_3_created b node enabler e = rw (created b node enabler e) (demand_3_parts (fresh (length b) node enabler)
    (created_valid b node enabler e) refl)

-- DEMAND 3
pub demand_3 : (b node enabler : List ℕ) → Histories b node enabler
demand_3 b node enabler = record { fresh_made = demand_3_created b node enabler }

-- A CONTAINER IN USE
pub in_use : (c : List ℕ) → InUse c
unfolding parts_of
in_use c = record {
  woven = λ w o h k. rw (encode_parts c w o) at (woven_alike h k (parts_of c) (parts_valid c w));
  rules = λ w o h. rw (encode_parts c w o) at (by_rules h (parts_of c) (parts_valid c w));
  size = λ w o h. rw (encode_parts c w o) at (size_final h (parts_of c) (parts_valid c w) (data_of c) refl);
  each = λ w o h. rw (encode_parts c w o) at (each_final h (parts_of c) (parts_valid c w) (data_of c) refl);
}
