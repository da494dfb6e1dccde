-- A test-and-write that is done changes no byte outside the two fields, the written bytes and the stretch; where the
-- count stays none outside the size field, the written bytes and what a cut frees; and where the size stays none
-- outside the written bytes. Assumes nothing.
use mathlib.Core.Path.{◌≡◌, refl, sym, ap, ◌∙◌}
use mathlib.Core.Bool.{Bool, true, false, ◌&&◌, false≢true}
use mathlib.Core.List.{List}
use mathlib.Core.Logic.{◌⊎◌, inl, inr}
use Prim.Native.Nat.{ℕ, ◌-◌, ◌≤◌, ◌<◌}
use native.Mathlib.Omega.{arith}
use lib.ListN.{length, get_or}
use lib.Dec.{leb, ltb}
use borrow.Author.Tests.{ltb-true, ltb-false, leb-false, le-leb, lt-ltb}
use Rattle.octets.specs.Lists.{any_of}
use Rattle.octets.specs.Facts.{Octets}
use Rattle.octets.proofs.ListLaws.{at_past}
use Rattle.format.specs.Layout.{size_at, offset_at, leases_at, data_at, node_of, enabler_of, size_of, data_of, data_end, count_at}
use Rattle.format.specs.Layout.{moved_count}
use Rattle.format.specs.Container.{well_formed}
use Rattle.format.specs.Parts.{Parts, count_in, parts_of, encode}
use Rattle.format.specs.Claims.{Valid}
use Rattle.format.proofs.WellFormed.{formed_facts, moved-not, data_length_lem}
use Rattle.format.proofs.RoundTrip.{parts_count, parts_valid, encode_parts}
use Rattle.format.proofs.ByteLaws.{at_data, at_unused, same_front, same_size, same_offset, same_four}
use Rattle.format.proofs.ByteLaws.{same_behind}
use Rattle.rules.specs.Writing.{placed, rewritten}
use Rattle.rules.specs.Changes.{within, writes_at, changes_of, cut_change, write_changes}
use Rattle.rules.specs.Outcomes.{with_bytes, container_after}
use Rattle.rules.specs.Claims.{Accepts, Writes}
use Rattle.rules.specs.Stretch.{in_fields, in_written, stretch_from, stretch_to, OnlyTheStretch}
use Rattle.rules.proofs.ChangeLaws.{at_unwritten}
use Rattle.rules.proofs.Kept.{count_with, used-rewritten, bytes-kept}
use Rattle.rules.proofs.Demand1.{demand_1}
use Rattle.rules.proofs.Demand2.{demand_2, done_encoded}

-- ---- positions
split : (a i : ℕ) → (i < a) ⊎ (a ≤ i)
split a i = go (ltb i a) refl
  where
    go : (t : Bool) → ltb i a ≡ t → (i < a) ⊎ (a ≤ i)
    go true e = inl (ltb-true i a e)
    go false e = inr (ltb-false i a e)

outside : (a b i : ℕ) → within a b i ≡ false → (i < a) ⊎ (b ≤ i)
outside a b i = go (leb a i) refl
  where
    go : (t : Bool) → leb a i ≡ t → (t && ltb i b) ≡ false → (i < a) ⊎ (b ≤ i)
    go true e h = inr (ltb-false i b h)
    go false e h = inl (leb-false a i e)

neither : (a b i : ℕ) → within a b i ≡ false → a ≤ i → i < b → ⊥
neither a b i e h k = false≢true (sym e ∙ rw (le-leb a i h, lt-ltb i b k) refl)

module _ (c q r : List ℕ) (a : Accepts c q (length r)) where
  abbrev e : List ℕ
  e = container_after c q r

  abbrev new : List ℕ
  new = rewritten a.writes a.cut (data_of c)

  does : Writes c q r a
  does = (demand_2 c q r).writes a

  formed : well_formed e ≡ true
  formed = (demand_1 c q r).stays_formed a.formed

  node_kept : node_of e ≡ node_of c
  unfolding parts_of with_bytes
  node_kept = ap (λ (p : Parts). p.node) does.parts

  enabler-kept : enabler_of e ≡ enabler_of c
  unfolding parts_of with_bytes
  enabler-kept = ap (λ (p : Parts). p.enabler) does.parts

  data_new : data_of e ≡ new
  unfolding parts_of with_bytes
  data_new = ap (λ (p : Parts). p.bytes) does.parts

  size_new : size_of e ≡ length new
  size_new = sym (data_length_lem e formed) ∙ ap length data_new

  -- a byte of the new data that no write covers is the old one
  data_kept : (i : ℕ) → data_at ≤ i → i < data_end e → in_written c q e i ≡ false →
      get_or new (i - data_at) 0 ≡ get_or (data_of c) (i - data_at) 0
  unfolding in_written changes_of rewritten
  data_kept i h k u =
      let w : any_of (writes_at (i - data_at))
      (write_changes (placed a.writes (length (data_of c))) (cut_change a.cut)) ≡ false =
      rw (le-leb data_at i h, lt-ltb i (data_end e) k, a.format, ← data_length_lem c a.formed) at u in
      at_unwritten (placed a.writes (length (data_of c))) a.cut (data_of c) (i - data_at)
      (omega (arith, size_new)) w

  outside_kept : (i : ℕ) → in_fields i ≡ false → in_written c q e i ≡ false →
      within (stretch_from c e) (stretch_to c e) i ≡ false → get_or e i 0 ≡ get_or c i 0
  unfolding in_fields stretch_from stretch_to
  outside_kept i f u s = go (outside size_at leases_at i f) (ltb i data_at) refl (outside _ _ i s)
    where
      go : (i < size_at) ⊎ (leases_at ≤ i) → (t : Bool) → ltb i data_at ≡ t →
          (i < stretch_from c e) ⊎ (stretch_to c e ≤ i) → get_or e i 0 ≡ get_or c i 0
      go (inl h) t d x = same_front e c formed a.formed node_kept enabler-kept i h
      go (inr h) true d x = same_four e c does.leases i h (ltb-true i data_at d)
      go (inr h) false d (inl x) =
          let l : data_at ≤ i = ltb-false i data_at d in
          at_data e i l (omega arith) ∙ rw data_new (data_kept i l (omega arith) u) ∙ sym (at_data c i l (omega arith))
      go (inr h) false d (inr x) =
          at_unused e i formed (omega arith) ∙ sym (at_unused c i a.formed (omega arith))

  count_new : count_at e ≡ moved_count (count_at c) (length new)
  count_new = does.count

  -- with the count where it was, in a container made of bytes: where the size field is passed over or says the same,
  -- and no byte that a cut frees is meant
  count_kept : count_at e ≡ count_at c → Octets c → (i : ℕ) → (size_at ≤ i → i < offset_at → length new ≡ length (data_of c))
      → in_written c q e i ≡ false → (data_end e ≤ i → data_end c ≤ i) → get_or e i 0 ≡ get_or c i 0
  unfolding parts_of with_bytes
  count_kept k o i f u x =
      ap (λ (b : List ℕ). get_or b i 0) is
      ∙ go (split size_at i) (split offset_at i) (split leases_at i) (split data_at i)
      ∙ ap (λ (b : List ℕ). get_or b i 0) was
    where
      p : Parts
      p = parts_of c

      p' : Parts
      p' = with_bytes p new

      v : Valid p
      v = parts_valid c a.formed

      v' : Valid p'
      v' = bytes-kept p new v (rw (used-rewritten c new a.formed) a.result_fits)

      is : e ≡ encode p'
      is = done_encoded c q r a

      was : encode p ≡ c
      was = encode_parts c a.formed o

      n : count_in p' ≡ count_in p
      n = count_with p new ∙ rw (parts_count c a.formed) (sym count_new ∙ k)

      lost : data_at ≤ i → get_or new (i - data_at) 0 ≡ get_or (data_of c) (i - data_at) 0
      lost h = by (split (data_end e) i)
        where
          by : (i < data_end e) ⊎ (data_end e ≤ i) → get_or new (i - data_at) 0 ≡ get_or (data_of c) (i - data_at) 0
          by (inl g) = data_kept i h g u
          by (inr g) =
              at_past new (i - data_at) (omega (arith, size_new))
              ∙ sym (at_past (data_of c) (i - data_at) (omega (arith, x g, data_length_lem c a.formed)))

      go : (i < size_at) ⊎ (size_at ≤ i) → (i < offset_at) ⊎ (offset_at ≤ i) → (i < leases_at) ⊎ (leases_at ≤ i) →
          (i < data_at) ⊎ (data_at ≤ i) → get_or (encode p') i 0 ≡ get_or (encode p) i 0
      go (inl h) y z w =
          sym (ap (λ (b : List ℕ). get_or b i 0) is) ∙ same_front e c formed a.formed node_kept enabler-kept i h
          ∙ sym (ap (λ (b : List ℕ). get_or b i 0) was)
      go (inr h) (inl y) z w = same_size p' p v' v i (f h y) h y
      go (inr h) (inr y) (inl z) w = same_offset p' p v' v i n y z
      go (inr h) (inr y) (inr z) (inl w) =
          sym (ap (λ (b : List ℕ). get_or b i 0) is) ∙ same_four e c does.leases i z w
          ∙ sym (ap (λ (b : List ℕ). get_or b i 0) was)
      go (inr h) (inr y) (inr z) (inr w) = same_behind p' p v' v i n refl refl w (lost w)

  still_kept : size_of e ≡ size_of c → Octets c → (i : ℕ) → in_written c q e i ≡ false → get_or e i 0 ≡ get_or c i 0
  still_kept s o i u =
      let l : length new ≡ length (data_of c) = sym size_new ∙ s ∙ sym (data_length_lem c a.formed) in
      let b = (formed_facts c a.formed).fields.behind in
      let k : count_at e ≡ count_at c = count_new ∙ moved-not (count_at c) (length new) (omega (arith, size_new)) in
      count_kept k o i (λ g h. l) u (λ g. omega arith)

  in_place_kept : count_at e ≡ count_at c → Octets c → (i : ℕ) → within size_at offset_at i ≡ false →
      in_written c q e i ≡ false → within (data_end e) (data_end c) i ≡ false → get_or e i 0 ≡ get_or c i 0
  in_place_kept k o i f u x =
      count_kept k o i (λ g h. absurd (neither size_at offset_at i f g h)) u (λ g. beyond (outside _ _ i x) g)
    where
      beyond : (i < data_end e) ⊎ (data_end c ≤ i) → data_end e ≤ i → data_end c ≤ i
      beyond (inl h) g = omega arith
      beyond (inr h) g = h

-- ONLY THE STRETCH
pub only_the_stretch : (c q r : List ℕ) → OnlyTheStretch c q r
only_the_stretch c q r = record {
  elsewhere = λ k z. outside_kept c q r (((demand_2 c q r).exactly k).0 z);
  still = λ k z. still_kept c q r (((demand_2 c q r).exactly k).0 z);
  in_place = λ k z. in_place_kept c q r (((demand_2 c q r).exactly k).0 z);
}
