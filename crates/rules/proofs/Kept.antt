-- A request that is answered 0 leaves parts that obey the rules and fit. Assumes nothing.
use mathlib.Core.Path.{◌≡◌, refl, ap, ◌∙◌}
use mathlib.Core.Bool.{Bool, true, false, not, ◌&&◌}
use mathlib.Core.List.{List, [], ◌∷◌, ◌++◌}
use mathlib.Core.Option.{Option, none, some}
use Prim.Native.Nat.{ℕ, ◌+◌, ◌-◌, ◌*◌, ◌≤◌, ◌<◌}
use native.Mathlib.Omega.{arith}
use lib.ListN.{length, take, drop, get_or, set, length-append, length-drop, length-set}
use lib.Seq.{drop_at, drop-append-le, length-take-le}
use lib.Dec.{leb}
use borrow.Author.Tests.{ltb-false, leb-false}
use Rattle.format.specs.Container.{held, last_held, well_formed}
use Rattle.format.specs.Layout.{expiry_of, renewal_of, used_length, fixed_places, lease_limit}
use Rattle.format.specs.Layout.{record_size, extras_at, count_at, extras_of, moved_count}
use Rattle.format.specs.Parts.{Parts, count_in, used, extras, parts_of, no_lease}
use Rattle.format.specs.Claims.{Place, Valid}
use Rattle.octets.specs.Lists.{is_some, maybe}
use Rattle.octets.specs.Facts.{Each}
use Rattle.octets.proofs.ListLaws.{both, each_append, each_take, each_drop, each_set, each_at}
use Rattle.format.proofs.WellFormed.{moved_most}
use Rattle.format.proofs.RoundTrip.{count_is, parts_count, no_lease_lem}
use Rattle.format.proofs.KnownLaws.{leases_extras}
use Rattle.rules.specs.Requests.{Request, test_write, add, renew, cancel, read}
use Rattle.rules.specs.Leasing.{renewed_by, cancelled_by, vacant, first_of, later, extended, trim, drop_tail, added}
use Rattle.rules.specs.Leasing.{renewed, cancelled, knows, present, placed_in}
use Rattle.rules.specs.Outcomes.{with_bytes, with_leases, after, rows, room_rows, admit_rows, find_rows, request_rows}
use Rattle.octets.specs.Rows.{first_row}
use Rattle.rules.proofs.LeaseLaws.{Found, first_found, full-present, length-later}
use Rattle.rules.proofs.LeaseLaws.{held-later, held_ok, last_drop_set, last_snoc, last_trim, each_trim}
use Rattle.rules.proofs.LeaseLaws.{length-trim}
use Rattle.octets.proofs.RowLaws.{Numbered, clear, rows_clear}

-- every row has a number
pub rows_numbered : (p : Parts) (r : Request) (n : ℕ) → Numbered (rows p r n)
unfolding rows admit_rows find_rows
rows_numbered p (test_write k ts ws cut) n = (omega arith, (omega arith, (omega arith, (omega arith, tt))))
rows_numbered p (add r) n = (omega arith, tt)
rows_numbered p (renew t x) n = (omega arith, tt)
rows_numbered p (cancel t) n = (omega arith, tt)
rows_numbered p (read rs) n = (omega arith, (omega arith, tt))

rooms_numbered : (p : Parts) (r : Request) → Numbered (room_rows p r)
unfolding room_rows
rooms_numbered p (test_write k ts ws cut) = (omega arith, tt)
rooms_numbered p (add r) = (omega arith, tt)
rooms_numbered p (renew t x) = tt
rooms_numbered p (cancel t) = tt
rooms_numbered p (read rs) = tt

pub request_numbered : (p : Parts) (r : Option Request) (n : ℕ) → Numbered (request_rows p r n)
unfolding request_rows
request_numbered p none n = (omega arith, tt)
request_numbered p (some r) n =
    each_append (λ x. 0 < x.number) (rows p r n) (room_rows p r) (rows_numbered p r n) (rooms_numbered p r)

-- ---- parts with other data, and with other lease places
pub count_with : (p : Parts) (d : List ℕ) → count_in (with_bytes p d) ≡ moved_count (count_in p) (length d)
unfolding with_bytes
count_with p d =
    let m = moved_most (count_in p) (length d) in
    count_is (with_bytes p d) ∙ omega (arith, m.1)

pub used_with : (p : Parts) (d : List ℕ) → used (with_bytes p d)
    ≡ used_length (moved_count (count_in p) (length d)) (extras p.leases)
unfolding used with_bytes
used_with p d = ap (λ (o : ℕ). used_length o (extras p.leases)) (count_with p d)

pub used-rewritten : (c d : List ℕ) → well_formed c ≡ true → used (with_bytes (parts_of c) d)
    ≡ used_length (moved_count (count_at c) (length d)) (extras_of c)
unfolding parts_of
used-rewritten c d w = used_with (parts_of c) d ∙ rw (parts_count c w, leases_extras c)

-- parts that have buffer length, node id, enabler and leases of valid ones, and fit, are valid
same_kept : (p o : Parts) → o.room ≡ p.room → o.node ≡ p.node → o.enabler ≡ p.enabler → o.leases ≡ p.leases
    → Valid p → used o ≤ p.room → Valid o
same_kept p o r n e l v f = record {
  at_least = rw r v.at_least;
  at_most = rw r v.at_most;
  node_size_holds = rw n v.node_size_holds;
  enabler_size = rw e v.enabler_size;
  four = rw l v.four;
  few = rw l v.few;
  places = rw l v.places;
  last = rw l v.last;
  fits = omega (arith, f, r);
}

pub bytes-kept : (p : Parts) (d : List ℕ) → Valid p → used (with_bytes p d) ≤ p.room → Valid (with_bytes p d)
unfolding with_bytes
bytes-kept p d v f = same_kept p (with_bytes p d) refl refl refl refl v f

-- lease places in order
pub record Ordered (ls : List (List ℕ)) : Type 0 where
  pub four : fixed_places ≤ length ls
  pub few : length ls ≤ lease_limit
  pub places : Each Place ls
  pub last : last_held (drop fixed_places ls) ≡ true

pub valid_ordered : (p : Parts) → Valid p → Ordered p.leases
valid_ordered p v = record { four = v.four; few = v.few; places = v.places; last = v.last }

pub leases_kept : (p : Parts) (ls : List (List ℕ)) → Valid p → Ordered ls → used (with_leases p ls) ≤ p.room
    → Valid (with_leases p ls)
unfolding with_leases
leases_kept p ls v o f = record {
  at_least = v.at_least;
  at_most = v.at_most;
  node_size_holds = v.node_size_holds;
  enabler_size = v.enabler_size;
  four = o.four;
  few = o.few;
  places = o.places;
  last = o.last;
  fits = f;
}

-- no more places use no more room
pub used_fewer : (p : Parts) (ls : List (List ℕ)) → Valid p → length ls ≤ length p.leases
    → used (with_leases p ls) ≤ p.room
unfolding with_leases used count_in extras used_length
used_fewer p ls v h = let f : extras_at (count_in p) + record_size *
    (length p.leases - fixed_places) ≤ p.room = v.fits in omega arith

-- a lease record in a place
pub set-ordered : (ls : List (List ℕ)) (i : ℕ) (r : List ℕ) → Ordered ls → Place r → held r ≡ true
    → Ordered (set ls i r)
set-ordered ls i r o k h = record {
  four = rw length-set o.four;
  few = rw length-set o.few;
  places = each_set Place ls i r o.places k;
  last = last_drop_set ls i r h o.last;
}

pub extended-ordered : (x : ℕ) (ls : List (List ℕ)) (i : ℕ) → i < length ls → held (get_or ls i []) ≡ true → Ordered ls
    → Ordered (extended x ls i)
unfolding extended
extended-ordered x ls i h k o =
    let pl : Place (get_or ls i []) = each_at Place ls i [] h o.places in
    let hl : held (later x (get_or ls i [])) ≡ true = held-later x (get_or ls i []) pl.size ∙ k in
    set-ordered ls i (later x (get_or ls i [])) o (record {
      size = length-later x (get_or ls i []) pl.size;
      ok =
          held_ok _ hl;
    }) hl

-- cancel: an emptied place, then the tail dropped
pub dropped_ordered : (ls : List (List ℕ)) → fixed_places ≤ length ls → length ls ≤ lease_limit → Each Place ls
    → Ordered (drop_tail ls)
unfolding drop_tail
dropped_ordered ls f m e =
    let a : List (List ℕ) = take fixed_places ls in
    let b : List (List ℕ) = trim (drop fixed_places ls) in
    let la : length a ≡ fixed_places = length-take-le fixed_places ls f in
    let lb : length b ≤ length (drop fixed_places ls) = length-trim (drop fixed_places ls) in
    let ld : length (drop fixed_places ls) ≡ length ls - fixed_places = length-drop fixed_places ls in
    let lab : length (a ++ b) ≡ length a + length b = length-append a b in
    record {
      four = omega arith;
      few = omega arith;
      places = each_append Place a b (each_take Place fixed_places ls e)
          (each_trim Place (drop fixed_places ls) (each_drop Place fixed_places ls e));
      last = rw (drop_at a b fixed_places la) (last_trim (drop fixed_places ls));
    }

pub length_dropped : (ls : List (List ℕ)) → fixed_places ≤ length ls → length (drop_tail ls) ≤ length ls
unfolding drop_tail
length_dropped ls f =
    let lb : length (trim (drop fixed_places ls)) ≤ length (drop fixed_places ls) = length-trim (drop fixed_places ls) in
    let ld : length (drop fixed_places ls) ≡ length ls - fixed_places = length-drop fixed_places ls in
    let la : length (take fixed_places ls) ≡ fixed_places = length-take-le fixed_places ls f in
    rw length-append (omega arith)

-- a new extra
pub snoc_ordered : (ls : List (List ℕ)) (r : List ℕ) → Ordered ls → length ls < lease_limit → Place r → held r ≡ true
    → Ordered (ls ++ (r ∷ []))
snoc_ordered ls r o h k e =
    let l : length (ls ++ (r ∷ [])) ≡ length ls + 1 = length-append ls (r ∷ []) in
    let f : fixed_places ≤ length ls = o.four in
    record {
      four = omega arith;
      few = omega arith;
      places = each_append Place ls (r ∷ []) o.places (k, tt);
      last = rw (drop-append-le fixed_places ls (r ∷ []) f) (last_snoc (drop fixed_places ls) r ∙ e);
    }

-- what the requests make of ordered places
pub renewed-ordered : (t : List ℕ) (x : ℕ) (ls : List (List ℕ)) → Ordered ls → Ordered (renewed t x ls)
    × (length (renewed t x ls) ≡ length ls)
unfolding renewed maybe extended renewed_by
renewed-ordered t x ls o = go (first_of (renewed_by t) ls) refl
  where
    go : (f : Option ℕ) → first_of (renewed_by t) ls ≡ f → Ordered (maybe ls (extended x ls) f)
        × (length (maybe ls (extended x ls) f) ≡ length ls)
    go none e = (o, refl)
    go (some i) e =
        let f : Found (renewed_by t) ls i = first_found (renewed_by t) ls i e in
        (extended-ordered x ls i f.inside (both _ _ f.passes).0 o, length-set ls i _)

pub cancelled-ordered : (t : List ℕ) (ls : List (List ℕ)) → Ordered ls → Ordered (cancelled t ls)
    × (length (cancelled t ls) ≤ length ls)
unfolding cancelled maybe
cancelled-ordered t ls o = go (first_of (cancelled_by t) ls) refl
  where
    go : (f : Option ℕ) → first_of (cancelled_by t) ls ≡ f → Ordered (maybe ls (λ i. drop_tail (set ls i no_lease)) f)
        × (length (maybe ls (λ i. drop_tail (set ls i no_lease)) f) ≤ length ls)
    go none e = (o, omega arith)
    go (some i) e =
        let l : length (set ls i no_lease) ≡ length ls = length-set ls i no_lease in
        let f : fixed_places ≤ length ls = o.four in
        let m : length ls ≤ lease_limit = o.few in
        let d : length (drop_tail (set ls i no_lease)) ≤ length (set ls i no_lease) = length_dropped (set ls i no_lease)
        (omega arith) in (
          dropped_ordered (set ls i no_lease) (omega arith) (omega arith)
              (each_set Place ls i no_lease o.places no_lease_lem),
          omega arith,
        )

-- add: the places stay in order where fewer than 64 leases are present or one has the token
pub added-ordered : (r : List ℕ) (ls : List (List ℕ)) → Ordered ls → Place r → held r ≡ true →
    (leb lease_limit (present ls) && not (knows (renewed_by (renewal_of r)) ls)) ≡ false → Ordered (added r ls)
unfolding added placed_in maybe knows is_some extended renewed_by
added-ordered r ls o k h n = go (first_of (renewed_by (renewal_of r)) ls) refl n
  where
    room : (f : Option ℕ) → first_of vacant ls ≡ f → (leb lease_limit (present ls) && true) ≡ false
        → Ordered (maybe (ls ++ (r ∷ [])) (λ i. set ls i r) f)
    room none e m =
        let z : present ls < lease_limit = leb-false lease_limit (present ls) (and-true m) in
        let l : present ls ≡ length ls = full-present ls e in
        snoc_ordered ls r o (omega arith) k h
      where
        and-true : {a : Bool} → (a && true) ≡ false → a ≡ false
        and-true {a} = go a
          where
            go : (a : Bool) → (a && true) ≡ false → a ≡ false
            go true e = e
            go false e = refl
    room (some i) e m = set-ordered ls i r o k h

    go : (f : Option ℕ) → first_of (renewed_by (renewal_of r)) ls ≡ f
        → (leb lease_limit (present ls) && not (is_some f)) ≡ false
        → Ordered (maybe (placed_in r ls) (extended (expiry_of r) ls) f)
    go none e m = room (first_of vacant ls) refl m
    go (some i) e m =
        let f : Found (renewed_by (renewal_of r)) ls i = first_found (renewed_by (renewal_of r)) ls i e in
        extended-ordered (expiry_of r) ls i f.inside (both _ _ f.passes).0 o

-- a request that came out of bytes: an added record has 92 bytes and an owner
abbrev pub Proper : Request → Type 0
Proper (test_write k ts ws cut) = Unit {0}
Proper (add r) = (length r ≡ record_size) × (held r ≡ true)
Proper (renew t x) = Unit {0}
Proper (cancel t) = Unit {0}
Proper (read rs) = Unit {0}

pub after_valid : (p : Parts) (r : Request) (n : ℕ) → Valid p → Proper r → first_row (rows p r n ++ room_rows p r) ≡ 0
    → Valid (after p r)
unfolding after with_bytes rows admit_rows find_rows room_rows first_row
after_valid p (test_write k ts ws cut) n v q e =
    let r : Request = test_write k ts ws cut in
    let z = clear 11 _ [] (omega arith) (rows_clear (rows p r n) (room_rows p r) (rows_numbered p r n) e).1 in
    same_kept p (after p r) refl refl refl refl v (ltb-false _ _ z.0)
after_valid p (add r) n v q e =
    let y = clear 10 _ (room_rows p (add r)) (omega arith) e in
    let z = clear 11 _ [] (omega arith) y.1 in
    leases_kept p _ v (added-ordered r p.leases (valid_ordered p v) (record { size = q.0; ok = held_ok r q.1 })
    q.1 y.0) (ltb-false _ _ z.0)
after_valid p (renew t x) n v q e =
    let o = renewed-ordered t x p.leases (valid_ordered p v) in
    let l : length (renewed t x p.leases) ≡ length p.leases = o.1 in
    leases_kept p _ v o.0 (used_fewer p _ v (omega arith))
after_valid p (cancel t) n v q e =
    let o = cancelled-ordered t p.leases (valid_ordered p v) in
    leases_kept p _ v o.0 (used_fewer p _ v o.1)
after_valid p (read rs) n v q e = v
