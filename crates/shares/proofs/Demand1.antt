-- Demand 1 of the share checks, for any bytes. Assumes nothing.
use mathlib.Core.Path.{◌≡◌, refl, sym, ap, ◌∙◌}
use mathlib.Core.Bool.{Bool, true, false, false≢true}
use mathlib.Core.List.{List, [], ◌∷◌, ◌++◌, append-nil}
use Prim.Native.Nat.{ℕ, suc, ◌+◌, ◌-◌, ◌≤◌, ◌<◌}
use native.Mathlib.Nat.{sub_self}
use native.Mathlib.Omega.{arith}
use lib.Dec.{eqb}
use lib.ListN.{length, take, drop, get_or, take-append-drop}
use borrow.Author.Tests.{eqb-true, eqb-false}
use Rattle.octets.proofs.ListLaws.{part_part}
use Rattle.octets.specs.Strings.{join}
use Rattle.octets.proofs.RowLaws.{occurs_later, first_among}
use Rattle.container.specs.Data.{lent_of, data_lent}
use Rattle.container.proofs.DataLaws.{lends, lent-number}
use Rattle.share_format.specs.Bounds.{part_of}
use Rattle.share_format.specs.Facts.{PartInside}
use Rattle.share_format.specs.Header.{Edition, edition_of, header_size, numbers_from, offsets_of, bounds_of}
use Rattle.share_numbers.specs.Order.{least_sizes}
use Rattle.share_judging.specs.Judging.{head_rows, laid_rows, body_rows, share_outcome}
use Rattle.share_contents.specs.Contents.{content_rows}
use Rattle.shares.specs.Share.{checked_of, checked_container, share_part, part_at}
use Rattle.shares.specs.Share.{container_part, container_part_at}
use Rattle.shares.specs.Claims.{share_numbers, container_numbers, InTurn, Demand1Share, Demand1Container}
use Rattle.shares.proofs.ShareLaws.{checked_number, checked_edition, checked_refused, checked_bounds, none-empty}
use Rattle.shares.proofs.ShareLaws.{bounds_moved, accepted-inside, container_refused, container_edition}
use Rattle.shares.proofs.ShareLaws.{container_zero, container_none, container_shares}
use Rattle.share_format.proofs.BoundLaws.{risen, part_length}
use Rattle.share_format.proofs.PackedLaws.{parts_between, between_join}
use Rattle.share_judging.proofs.JudgingLaws.{order_facts, outcome-ordered}
use Rattle.share_numbers.proofs.OrderLaws.{placed_first, placed-order, placed_last}
use Rattle.octets.specs.Lists.{any_of}

-- ---- the number is one of the rows'
outcome_occurs : (s : List ℕ) → any_of (eqb (share_outcome s)) share_numbers ≡ true
unfolding share_outcome head_rows body_rows laid_rows content_rows
outcome_occurs s = first_among (head_rows (edition_of s) s ++ body_rows (edition_of s) s)

-- ---- a share by itself
-- The seven parts between eight boundaries, one by one.
parts_listed : (e : Edition) (s : List ℕ)
    → parts_between (get_or (bounds_of e s) 0 0) (drop 1 (bounds_of e s)) s
    ≡ part_of 0 (bounds_of e s) s
    ∷ part_of 1 (bounds_of e s) s
    ∷ part_of 2 (bounds_of e s) s
    ∷ part_of 3 (bounds_of e s) s
    ∷ part_of 4 (bounds_of e s) s
    ∷ part_of 5 (bounds_of e s) s
    ∷ part_of 6 (bounds_of e s) s ∷ []
unfolding bounds_of offsets_of numbers_from parts_between part_of
parts_listed false s = refl
parts_listed true s = refl

-- SDMF's seventh part lies between the end and the end.
six_parts : (e : Edition) (s : List ℕ) → e ≡ false → part_of 6 (bounds_of e s) s ≡ []
unfolding bounds_of offsets_of numbers_from part_of
six_parts false s h = rw sub_self
six_parts true s h = absurd (false≢true (sym h))

module _ (s : List ℕ) (z : share_outcome s ≡ 0) where
  abbrev e : Edition
  e = edition_of s

  inside : (i : ℕ) → i < 7 → PartInside (bounds_of e s) (length s) i
  inside = accepted-inside s z

  first : get_or (bounds_of e s) 0 0 ≡ header_size e
  first = placed_first e (bounds_of e s) (order_facts e s (outcome-ordered s z).1).0

  joined : take (header_size e) s
      ++ (part_of 0 (bounds_of e s) s
      ++ (part_of 1 (bounds_of e s) s
      ++ (part_of 2 (bounds_of e s) s
      ++ (part_of 3 (bounds_of e s) s
      ++ (part_of 4 (bounds_of e s) s
      ++ (part_of 5 (bounds_of e s) s
      ++ part_of 6 (bounds_of e s) s))))))
      ≡ s
  unfolding join
  joined =
      let bs : List ℕ = bounds_of e s in
      let o = order_facts e s (outcome-ordered s z).1 in
      let between =
      between_join (least_sizes e) (header_size e) (drop 1 bs) s (placed-order e bs s o.0 o.1)
      (placed_last e bs s o.0 o.1) in
      let listed = ap join (sym (parts_listed e s) ∙ ap (λ (a : ℕ). parts_between a (drop 1 bs) s) first) in
      ap (λ (l : List ℕ). take (header_size e) s ++ l)
      (rw (← append-nil (part_of 6 bs s)) (listed ∙ between))
      ∙ take-append-drop (header_size e) s

  in_turn : InTurn s
  unfolding share_part part_at
  in_turn =
      let b = checked_bounds s z in
      record {
        first = rw b first;
        next = λ i h. rw b (part_length (bounds_of e s) s i (inside i h));
        last = rw b (order_facts e s (outcome-ordered s z).1).1;
        whole = rw b joined;
        six = λ h. rw b (six_parts e s h);
      }

share_refused : (s : List ℕ) → (share_outcome s ≡ 0 → ⊥) → (i : ℕ) → i < 7 → (share_part i s ≡ []) × (part_at i s ≡ 0)
unfolding share_part part_at checked_of
share_refused s n i h = rw (← checked_refused 0 _ s refl n) (none-empty (edition_of s) (share_outcome s) i s h)

pub demand_1_share : (s : List ℕ) → Demand1Share s
unfolding checked_of
demand_1_share s =
    let n = checked_number 0 s in
    record {
      number = rw n (outcome_occurs s);
      edition = checked_edition 0 s;
      refused = λ r i h. share_refused s (λ z. r (n ∙ z)) i h;
      accepted = λ z. in_turn s (sym n ∙ z);
    }

-- ---- a share in a container
lent_occurs : (c : List ℕ) → any_of (eqb (lent_of c).number) container_numbers ≡ true
unfolding any_of
lent_occurs c = lent-number c (λ n. any_of (eqb n) container_numbers ≡ true) refl refl refl

container_occurs : (c : List ℕ) → any_of (eqb (checked_container c).number) container_numbers ≡ true
container_occurs c = go (eqb (lent_of c).number 0) refl
  where
    go : (t : Bool) → eqb (lent_of c).number 0 ≡ t → any_of (eqb (checked_container c).number) container_numbers ≡ true
    go true e =
        let n = share_outcome (data_lent c) in
        rw (container_zero c (eqb-true _ _ e), checked_number (lent_of c).from (data_lent c))
        (occurs_later n 1 _ (occurs_later n 2 _ (outcome_occurs (data_lent c))))
    go false e = rw (container_refused c (eqb-false _ _ e)) (lent_occurs c)

container_refuses : (c : List ℕ) → ((checked_container c).number ≡ 0 → ⊥) → (i : ℕ) → i < 7
    → (container_part i c ≡ []) × (container_part_at i c ≡ 0)
unfolding container_part container_part_at
container_refuses c n i h =
    rw (container_none c n) (none-empty (edition_of (data_lent c)) (checked_container c).number i c h)

module _ (c : List ℕ) (z : (checked_container c).number ≡ 0) (i : ℕ) (h : i < 7) where
  moved_place : container_part_at i c ≡ (lent_of c).from + part_at i (data_lent c)
  unfolding container_part_at part_at
  moved_place =
      let s = container_shares c z in
      rw (s.1, checked_bounds (data_lent c) s.0) (bounds_moved (lent_of c).from (data_lent c) i (omega arith))

  moved_part : container_part i c ≡ share_part i (data_lent c)
  unfolding container_part share_part part_of
  moved_part =
      let s = container_shares c z in
      let f : ℕ = (lent_of c).from in
      let bs : List ℕ = bounds_of (edition_of (data_lent c)) (data_lent c) in
      let a : ℕ = get_or bs i 0 in
      let e : ℕ = get_or bs (suc i) 0 in
      let r = risen bs (data_lent c) i (inside (data_lent c) s.0 i h) in
      let m : f + e - (f + a) ≡ e - a = omega arith in
      let w : a + (e - a) ≤ (lent_of c).to - f = omega (arith, (lends c).ends, r.0, r.1) in
      let ma = bounds_moved f (data_lent c) i (omega arith) in
      let me = bounds_moved f (data_lent c) (suc i) (omega arith) in
      rw (s.1, checked_bounds (data_lent c) s.0, ma, me, m)
      (sym (part_part f ((lent_of c).to - f) a (e - a) c w)
      ∙ ap (λ (l : List ℕ). take (e - a) (drop a l)) (lends c).bytes)

pub demand_1_container : (c : List ℕ) → Demand1Container c
demand_1_container c =
    record {
      number = container_occurs c;
      edition = container_edition c;
      refused = container_refuses c;
      accepted = λ z i h. (moved_part c z i h, moved_place c z i h);
    }
