-- The answers of add, renew and cancel, by where the token stands: outcome, leases after the request and their number.
-- Assumes nothing.
use mathlib.Core.Path.{◌≡◌, refl, sym, ap, ◌∙◌}
use mathlib.Core.Bool.{Bool, true, false, cond, not, ◌&&◌}
use mathlib.Core.List.{List, [], ◌∷◌, ◌++◌}
use mathlib.Core.Option.{none, some}
use mathlib.Core.Option.{Option as Maybe}
use Rattle.std.specs.Prelude.{Option, Some, None, IfSome, Result, Ok, Err}
use Prim.Native.Nat.{ℕ, zero, suc, ◌+◌, ◌-◌, ◌≤◌, ◌<◌}
use native.Mathlib.Omega.{arith}
use lib.Dec.{eqb, leb, ltb}
use lib.ListN.{length, take, drop, get_or, set, length-set, take-append-drop}
use borrow.Author.Tests.{not-true, le-leb, lt-leb, lt-ltb, le-ltb, ne_eqb}
use Rattle.format.specs.Layout.{renewal_of, cancel_of, expiry_of, leases_of, fixed_places, record_size, cancel_at}
use Rattle.format.specs.Layout.{lease_limit, renewal_at, used_length}
use Rattle.format.specs.Container.{held}
use Rattle.format.specs.Parts.{Parts, used, parts_of, no_lease}
use Rattle.format.specs.Claims.{Place, Valid}
use Rattle.octets.proofs.ListLaws.{both, is_none, and-false, each_at}
use Rattle.format.proofs.RoundTrip.{parts_valid, no_lease-held}
use Rattle.octets.specs.Lists.{is_some, maybe}
use Rattle.rules.specs.Requests.{Request, add, renew, cancel}
use Rattle.rules.specs.Leasing.{renewed_by, cancelled_by, vacant, first_of, later, extended, with_last, trim, drop_tail}
use Rattle.rules.specs.Leasing.{added, renewed, cancelled, knows, present, placed_in}
use Rattle.rules.specs.Outcomes.{with_leases, after, rows, room_rows, counted, admit_rows, find_rows}
use Rattle.octets.specs.Rows.{first_row}
use Rattle.rules.proofs.LeaseLaws.{first_found, held-later}
use Rattle.rules.proofs.Kept.{used_fewer}
use Rattle.format.specs.Judging.{Known}
use Rattle.leases.specs.Places.{has_token, found_of}
use Rattle.leases.specs.Operations.{done_of, lease_outcome, lease_done, lease_container}
use Rattle.leases.proofs.PlaceLaws.{present-append, known_places}
use Rattle.format.proofs.KnownLaws.{extras_framed}
use Rattle.leases.specs.Changes.{leased_as}
use Rattle.leases.proofs.ChangeLaws.{used_leases, extras_more}
use Rattle.format.specs.declared.layout.Frame.{Frame}
use Rattle.rules.specs.Refusals.{number_of}
use Rattle.rules.specs.declared.outcomes.Refusal.{Refusal}
use Rattle.rules.specs.declared.outcomes.Refusal.TheVariants.{NoLease, LeasesFull, NoRoom}

-- ---- what a search found
found_at : (o : Maybe ℕ) (i : ℕ) → Some i ≡ found_of o → o ≡ some i
found_at none i e = absurd (let z : ◌≡◌ {A = ℕ} 0 1 = cc in omega arith)
found_at (some j) i e = cc

found_nowhere : (o : Maybe ℕ) → None ≡ found_of o → o ≡ none
found_nowhere none e = refl
found_nowhere (some j) e = absurd (let z : ◌≡◌ {A = ℕ} 0 1 = cc in omega arith)

-- the search through the leases of c answers a
abbrev pub Finds : List ℕ → (List ℕ → Bool) → Option ℕ → Type 0
Finds c test a = a ≡ found_of (first_of test (leases_of c))

pub found_inside : (c : List ℕ) (f : Frame) → Known c f → (test : List ℕ → Bool) (o : Option ℕ) → Finds c test o →
    IfSome o (λ i. i < fixed_places + f.extras)
found_inside c f k test None q = tt
found_inside c f k test (Some i) q =
    omega (arith, (first_found test (leases_of c) i (found_at _ i q)).inside, known_places c f k)

module _ (c t : List ℕ) where
  renewal_at_lem : (i : ℕ) → Finds c (has_token renewal_at t) (Some i) → first_of (renewed_by t) (leases_of c) ≡ some i
  unfolding has_token renewed_by renewal_of
  renewal_at_lem i q = found_at _ i q

  renewal_nowhere : Finds c (has_token renewal_at t) None → first_of (renewed_by t) (leases_of c) ≡ none
  unfolding has_token renewed_by renewal_of
  renewal_nowhere q = found_nowhere _ q

  cancel_at_lem : (i : ℕ) → Finds c (has_token cancel_at t) (Some i) → first_of (cancelled_by t) (leases_of c) ≡ some i
  unfolding has_token cancelled_by cancel_of
  cancel_at_lem i q = found_at _ i q

  cancel_nowhere : Finds c (has_token cancel_at t) None → first_of (cancelled_by t) (leases_of c) ≡ none
  unfolding has_token cancelled_by cancel_of
  cancel_nowhere q = found_nowhere _ q

-- ---- how many leases there are afterwards
present-set : (ls : List (List ℕ)) (i : ℕ) (r : List ℕ) (a b : Bool) → i < length ls → held (get_or ls i []) ≡ a →
    held r ≡ b → present (set ls i r) + cond a 1 0 ≡ present ls + cond b 1 0
unfolding present
present-set [] i r a b h p q = absurd (omega arith)
present-set (x ∷ ls) zero r a b h p q = rw (← p, ← q) (omega arith)
present-set (x ∷ ls) (suc i) r a b h p q = omega (arith, present-set ls i r a b (omega arith) p q)

present-extended : (x : ℕ) (ls : List (List ℕ)) (i : ℕ) → i < length ls → length (get_or ls i []) ≡ record_size →
    present (extended x ls i) ≡ present ls
unfolding extended
present-extended x ls i h l =
    let r : List ℕ = get_or ls i [] in
    omega (arith, present-set ls i (later x r) (held r) (held r) h refl (held-later x r l))

present-trim : (ls : List (List ℕ)) → present (trim ls) ≡ present ls
unfolding present trim with_last
present-trim [] = refl
present-trim (r ∷ ls) = go (trim ls) (held r) refl (present-trim ls)
  where
    go : (t : List (List ℕ)) (b : Bool) → held r ≡ b → present t ≡ present ls →
        present (with_last r t) ≡ cond (held r) 1 0 + present ls
    go [] true e ih = rw (e, e) (omega arith)
    go [] false e ih = rw e (omega arith)
    go (y ∷ t) b e ih = ap (λ (n : ℕ). cond (held r) 1 0 + n) ih

pub present-drop_tail : (ls : List (List ℕ)) → present (drop_tail ls) ≡ present ls
unfolding drop_tail
present-drop_tail ls =
    present-append (take fixed_places ls) (trim (drop fixed_places ls))
    ∙ rw (
      present-trim (drop fixed_places ls),
      ← present-append (take fixed_places ls) (drop fixed_places ls),
      take-append-drop fixed_places ls,
    )

-- ---- outcome and leases by the rules
-- the request is done, and leaves the leases ls
abbrev Leaves : Parts → Request → List (List ℕ) → Type 0
Leaves p q ls = (lease_outcome p q ≡ 0) × (after p q ≡ with_leases p ls)

module _ (p : Parts) (t : List ℕ) where
  renew-some : (x i : ℕ) → first_of (renewed_by t) p.leases ≡ some i → Leaves p (renew t x) (extended x p.leases i)
  unfolding lease_outcome rows admit_rows find_rows room_rows first_row knows is_some after renewed maybe
  renew-some x i e = (rw e, rw e)

  renew-none : (x : ℕ) → first_of (renewed_by t) p.leases ≡ none → lease_outcome p (renew t x) ≡ 9
  unfolding lease_outcome rows admit_rows find_rows room_rows first_row knows is_some
  renew-none x e = rw e

  cancel-some : (i : ℕ) → first_of (cancelled_by t) p.leases ≡ some i →
      Leaves p (cancel t) (drop_tail (set p.leases i no_lease))
  unfolding lease_outcome rows admit_rows find_rows room_rows first_row knows is_some after cancelled maybe
  cancel-some i e = (rw e, rw e)

  cancel-none : first_of (cancelled_by t) p.leases ≡ none → lease_outcome p (cancel t) ≡ 9
  unfolding lease_outcome rows admit_rows find_rows room_rows first_row knows is_some
  cancel-none e = rw e

module _ (p : Parts) (r : List ℕ) where
  abbrev known : Bool
  known = knows (renewed_by (renewal_of r)) p.leases

  -- the row of 11 says whether the leases fit
  fitting : (b : Bool) (ls : List (List ℕ)) → (leb lease_limit (present p.leases) && not known) ≡ false →
      after p (add r) ≡ with_leases p ls → ltb p.room (used (with_leases p ls)) ≡ b →
      lease_outcome p (add r) ≡ cond b 11 0
  unfolding lease_outcome rows admit_rows find_rows room_rows first_row
  fitting b ls e a u = rw (e, a, u)

  add_known : (i : ℕ) → Valid p → first_of (renewed_by (renewal_of r)) p.leases ≡ some i →
      Leaves p (add r) (extended (expiry_of r) p.leases i)
  unfolding knows is_some after added maybe extended
  add_known i v e =
      let ls : List (List ℕ) = extended (expiry_of r) p.leases i in
      let l : length ls ≡ length p.leases = length-set p.leases i _ in
      let n = and-false (leb lease_limit (present p.leases)) in
      (fitting false ls (rw e n) (rw e) (le-ltb _ _ (used_fewer p ls v (omega arith))), rw e)

  module _ (e : first_of (renewed_by (renewal_of r)) p.leases ≡ none) where
    add-full : lease_limit ≤ present p.leases → lease_outcome p (add r) ≡ 10
    unfolding lease_outcome rows admit_rows find_rows room_rows first_row knows is_some
    add-full h = rw (e, le-leb lease_limit (present p.leases) h)

    module _ (h : present p.leases < lease_limit) where
      few : (leb lease_limit (present p.leases) && not known) ≡ false
      few = rw (lt-leb lease_limit (present p.leases) h)

      placed : (o : Maybe ℕ) → first_of vacant p.leases ≡ o →
          after p (add r) ≡ with_leases p (maybe (p.leases ++ (r ∷ [])) (λ i. set p.leases i r) o)
      unfolding after added placed_in maybe
      placed o q = rw (e, q)

      add-vacant : (i : ℕ) → Valid p → first_of vacant p.leases ≡ some i → Leaves p (add r) (set p.leases i r)
      unfolding maybe
      add-vacant i v q =
          let ls : List (List ℕ) = set p.leases i r in
          let l : length ls ≡ length p.leases = length-set p.leases i r in
          (fitting false ls few (placed (some i) q) (le-ltb _ _ (used_fewer p ls v (omega arith))), placed (some i) q)

      module _ (q : first_of vacant p.leases ≡ none) where
        abbrev more : List (List ℕ)
        more = p.leases ++ (r ∷ [])

        add_room : p.room < used (with_leases p more) → lease_outcome p (add r) ≡ 11
        unfolding maybe
        add_room u = fitting true more few (placed none q) (lt-ltb _ _ u)

        add_extra : used (with_leases p more) ≤ p.room → Leaves p (add r) more
        unfolding maybe
        add_extra u = (fitting false more few (placed none q) (le-ltb _ _ u), placed none q)

-- ---- the two kinds of answer
abbrev pub Answered : List ℕ → Request → Result ℕ Refusal → List ℕ → Type 0
Answered c q r d = (done_of r ≡ lease_done (parts_of c) q) × (d ≡ lease_container c q)

refused : (c : List ℕ) (q : Request) (e : Refusal) (n : ℕ) → number_of e ≡ suc n →
    lease_outcome (parts_of c) q ≡ suc n → Answered c q (Err e) c
unfolding lease_done lease_container
refused c q e n m h =
    let z : eqb (suc n) 0 ≡ false = ne_eqb (suc n) 0 (λ w. omega arith) in
    (rw (h, z, m), rw (h, z))

done : (c : List ℕ) (q : Request) (ls : List (List ℕ)) (n : ℕ) (d : List ℕ) → Leaves (parts_of c) q ls →
    counted (parts_of c) q ≡ present (after (parts_of c) q).leases → n ≡ present ls → d ≡ leased_as c ls →
    Answered c q (Ok n) d
unfolding lease_done lease_container with_leases
done c q ls n d e k m w = (rw (e.0, k, e.1, m), rw (e.0, e.1) w)

-- ---- the answers, from what the code found
module _ (c : List ℕ) (f : Frame) (k : Known c f) where
  valid : Valid (parts_of c)
  valid = parts_valid c k.formed

  -- the later expiry at a place that was found
  same-present : (test : List ℕ → Bool) (x i : ℕ) → first_of test (leases_of c) ≡ some i →
      present (leases_of c) ≡ present (extended x (leases_of c) i)
  unfolding parts_of
  same-present test x i e =
      let h : i < length (leases_of c) = (first_found test (leases_of c) i e).inside in
      sym (present-extended x (leases_of c) i h (each_at Place (leases_of c) i [] h valid.places).size)

  module _ (t : List ℕ) (x : ℕ) where
    pub renew_here : (i n : ℕ) (d : List ℕ) → Finds c (has_token renewal_at t) (Some i) → n ≡ present (leases_of c) →
        d ≡ leased_as c (extended x (leases_of c) i) → Answered c (renew t x) (Ok n) d
    unfolding parts_of counted
    renew_here i n d q m w =
        let g = renewal_at_lem c t i q in
        done c (renew t x) (extended x (leases_of c) i) n d (renew-some (parts_of c) t x i g) refl
        (m ∙ same-present (renewed_by t) x i g) w

    pub renew_unknown : Finds c (has_token renewal_at t) None → Answered c (renew t x) (Err NoLease) c
    unfolding parts_of
    renew_unknown q = refused c (renew t x) NoLease 8 refl (renew-none (parts_of c) t x (renewal_nowhere c t q))

  module _ (t : List ℕ) where
    -- the lease that is cancelled is one of those present
    pub cancelled-present : (i : ℕ) → Finds c (has_token cancel_at t) (Some i) →
        present (drop_tail (set (leases_of c) i no_lease)) + 1 ≡ present (leases_of c)
    unfolding cancelled_by
    cancelled-present i q =
        let g = first_found (cancelled_by t) (leases_of c) i (cancel_at_lem c t i q) in
        let h : held (get_or (leases_of c) i []) ≡ true = (both _ _ g.passes).0 in
        omega (
          arith,
          present-drop_tail (set (leases_of c) i no_lease),
          present-set (leases_of c) i no_lease true false g.inside h no_lease-held,
        )

    pub cancel_here : (i n : ℕ) (d : List ℕ) → Finds c (has_token cancel_at t) (Some i) → n ≡ present (leases_of c) →
        d ≡ leased_as c (drop_tail (set (leases_of c) i no_lease)) → Answered c (cancel t) (Ok (n - 1)) d
    unfolding parts_of counted
    cancel_here i n d q m w =
        let e = cancel-some (parts_of c) t i (cancel_at_lem c t i q) in
        done c (cancel t) (drop_tail (set (leases_of c) i no_lease)) (n - 1) d e refl
        (omega (arith, m, cancelled-present i q)) w

    pub cancel_unknown : Finds c (has_token cancel_at t) None → Answered c (cancel t) (Err NoLease) c
    unfolding parts_of
    cancel_unknown q = refused c (cancel t) NoLease 8 refl (cancel-none (parts_of c) t (cancel_nowhere c t q))

  module _ (r : List ℕ) where
    pub add_here : (i n x : ℕ) (d : List ℕ) → Finds c (has_token renewal_at (renewal_of r)) (Some i) →
        n ≡ present (leases_of c) → x ≡ expiry_of r → d ≡ leased_as c (extended x (leases_of c) i) →
        Answered c (add r) (Ok n) d
    unfolding parts_of counted
    add_here i n x d q m y w =
        let g = renewal_at_lem c (renewal_of r) i q in
        done c (add r) (extended (expiry_of r) (leases_of c) i) n d (add_known (parts_of c) r i valid g) refl
        (m ∙ same-present (renewed_by (renewal_of r)) (expiry_of r) i g)
        (w ∙ ap (λ (v : ℕ). leased_as c (extended v (leases_of c) i)) y)

    pub add_new : Finds c (has_token renewal_at (renewal_of r)) None →
        knows (renewed_by (renewal_of r)) (leases_of c) ≡ false
    unfolding knows is_some
    add_new q = ap is_some (renewal_nowhere c (renewal_of r) q)

    module _ (u : knows (renewed_by (renewal_of r)) (leases_of c) ≡ false) where
      new : first_of (renewed_by (renewal_of r)) (leases_of c) ≡ none
      unfolding knows
      new = is_none _ u

      pub place_full : lease_limit ≤ present (leases_of c) → Answered c (add r) (Err LeasesFull) c
      unfolding parts_of
      place_full h = refused c (add r) LeasesFull 9 refl (add-full (parts_of c) r new h)

      module _ (n : ℕ) (l : n < lease_limit) (m : n ≡ present (leases_of c)) where
        pub place_vacant : (i : ℕ) (d : List ℕ) → Finds c vacant (Some i) → held r ≡ true →
            d ≡ leased_as c (set (leases_of c) i r) → Answered c (add r) (Ok (n + 1)) d
        unfolding parts_of counted vacant
        place_vacant i d q h w =
            let e = found_at _ i q in
            let g = first_found vacant (leases_of c) i e in
            let p = present-set (leases_of c) i r false true g.inside (not-true _ g.passes) h in
            let b = add-vacant (parts_of c) r new (omega (arith, m)) i valid e in
            done c (add r) (set (leases_of c) i r) (n + 1) d b refl (omega (arith, m, p)) w

        module _ (q : Finds c vacant None) where
          used_more : used (with_leases (parts_of c) (leases_of c ++ (r ∷ []))) ≡ used_length f.offset (f.extras + 1)
          used_more =
              used_leases c f k (leases_of c ++ (r ∷ []))
              ∙ rw (extras_more (leases_of c) r (omega (arith, known_places c f k)), extras_framed k)

          pub place_nowhere : length c < used_length f.offset (f.extras + 1) → Answered c (add r) (Err NoRoom) c
          unfolding parts_of
          place_nowhere h =
              refused c (add r) NoRoom 10 refl
              (add_room (parts_of c) r new (omega (arith, m)) (found_nowhere _ q) (omega (arith, h, used_more)))

          pub place_extra : (d : List ℕ) → used_length f.offset (f.extras + 1) ≤ length c → held r ≡ true →
              d ≡ leased_as c (leases_of c ++ (r ∷ [])) → Answered c (add r) (Ok (n + 1)) d
          unfolding parts_of counted present
          place_extra d h g w =
              let p : present (leases_of c ++ (r ∷ [])) ≡ n + 1 = present-append (leases_of c) (r ∷ []) ∙ rw (g, ← m) in
              let g = found_nowhere _ q in
              let b = add_extra (parts_of c) r new (omega (arith, m)) g (omega (arith, h, used_more)) in
              done c (add r) (leases_of c ++ (r ∷ [])) (n + 1) d b refl (sym p) w
