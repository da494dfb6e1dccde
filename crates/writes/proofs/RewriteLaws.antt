-- The view of a container after fields and data were written, and after bytes were freed: what is lent is chosen in the
-- append form. Assumes nothing.
use mathlib.Core.Path.{◌≡◌, sym, ap, ◌∙◌}
use mathlib.Core.List.{List, ◌++◌, map, append_assoc}
use Prim.Native.Nat.{ℕ, ◌+◌, ◌-◌, ◌≤◌}
use native.Mathlib.Omega.{arith}
use lib.ListN.{length, take, drop, replicate, length-append, length-take, length-drop, length-replicate}
use lib.ListN.{take-append-drop}
use lib.Seq.{length-take-le, drop-drop}
use borrow.Rule.Slice.PartMut.{put_mid, mid_of}
use Rattle.octets.specs.Numbers.{digits}
use Rattle.octets.specs.Moves.{put}
use Rattle.octets.proofs.MoveLaws.{lent_is, lent_back}
use Rattle.octets.proofs.NumberLaws.{length_digits}
use Rattle.format.specs.Layout.{size_width, size_at, offset_at, data_at}
use Rattle.format.specs.View.{Laid}
use Rattle.format.proofs.ViewLaws.{put-head}
use Rattle.rules.specs.Writing.{Placed, write_all}
use Rattle.rules.specs.Sizes.{clip}
use Rattle.rules.proofs.WriteLaws.{length-write_all, size_clipped}
use Rattle.writes.specs.Rewrite.{with_size, overlaid, freed}

-- ---- the fields
module _ {n o k : ℕ} {c h d t : List ℕ} (L : Laid n o k c h d t) where
  pub size_laid : (u : ℕ) → Laid n o k (put size_at (digits size_width u) c) (with_size u h) d t
  unfolding with_size
  size_laid u = put-head L size_at (digits size_width u) (rw length_digits (omega arith))

  pub offset_laid : (v : ℕ) → Laid n o k (put offset_at (digits size_width v) c) (put offset_at (digits size_width v) h) d t
  offset_laid v = put-head L offset_at (digits size_width v) (rw length_digits (omega arith))

module _ (n o k : ℕ) (c h d t ys : List ℕ) (L : Laid n o k c h d t) where
  -- ---- a part of data and slack, from place a up to place e
  module _ (a e x y : ℕ) (ea : a ≡ data_at + x) (ee : e ≡ data_at + y) (le : x ≤ y) (within : e ≤ o) where
    abbrev middle : List ℕ
    middle = take (y - x) (drop x d)

    split : take x d ++ (middle ++ drop y d) ≡ d
    split =
        let z : y ≡ x + (y - x) = omega arith in
        ap (λ (i : ℕ). take x d ++ (middle ++ drop i d)) z
        ∙ ap (λ (l : List ℕ). take x d ++ (middle ++ l)) (sym (drop-drop (y - x) x d))
        ∙ rw (take-append-drop (y - x) (drop x d), take-append-drop x d)

    rest : List ℕ
    rest = t ++ replicate (n - (o + k)) 0

    part_is : c ≡ (h ++ take x d) ++ (middle ++ (drop y d ++ rest))
    unfolding rest
    part_is = L.is ∙ ap (λ (l : List ℕ). h ++ (l ++ rest)) (sym split) ∙ simp append_assoc

    before_long : length (h ++ take x d) ≡ a
    before_long = simp (length-append, length-take) (omega (arith, L.head, L.upto))

    middle_long : a + length middle ≡ e
    middle_long = simp (length-take, length-drop) (omega (arith, L.upto))

    pub part_lent : mid_of a (e - a) c ≡ middle
    part_lent = lent_is a e c (h ++ take x d) middle (drop y d ++ rest) part_is before_long middle_long

    -- it comes back as long as it was
    pub part_back : (zs : List ℕ) → ys ≡ zs → length zs ≡ y - x
        → Laid n o k (put_mid a (e - a) c ys) h (take x d ++ (zs ++ drop y d)) t
    unfolding rest
    part_back zs q lz = record {
      is =
          lent_back a e c (h ++ take x d) middle (drop y d ++ rest) part_is before_long middle_long ys
          ∙ rw q (simp append_assoc);
      head = L.head;
      upto = simp (length-append, length-take, length-drop) (omega (arith, L.upto));
      tail = L.tail;
      fits = L.fits;
    }

  -- ---- the writes
  pub data_laid : (f : ℕ) (ws : List Placed) → data_at + f ≤ o
      → ys ≡ write_all (map (clip (length (mid_of data_at (data_at + f - data_at) c))) ws)
      (mid_of data_at (data_at + f - data_at) c)
      → Laid n o k (put_mid data_at (data_at + f - data_at) c ys) h (overlaid ws f d) t
  unfolding overlaid
  data_laid f ws w y =
      let z : f - 0 ≡ f = omega arith in
      let l : mid_of data_at (data_at + f - data_at) c ≡ take f d =
      part_lent data_at (data_at + f) 0 f (omega arith) (omega arith) (omega arith) w ∙ rw z in
      let lf : length (take f d) ≡ f = length-take-le f d (omega (arith, L.upto)) in
      let zs : List ℕ = write_all (map (clip f) ws) (take f d) in
      let lz : length zs ≡ f = length-write_all (map (clip f) ws) (take f d) ∙ rw lf (size_clipped f ws) in
      part_back data_at (data_at + f) 0 f (omega arith) (omega arith) (omega arith) w zs (y ∙ rw (l, lf)) (lz ∙ sym z)

  -- ---- what a cut frees
  pub freed_laid : (f s a e : ℕ) → a ≡ data_at + f → e ≡ data_at + s → f ≤ s → e ≤ o
      → ys ≡ replicate (length (mid_of a (e - a) c)) 0 → Laid n o k (put_mid a (e - a) c ys) h (freed f s d) t
  unfolding freed
  freed_laid f s a e ea ee le w y =
      let l : length (mid_of a (e - a) c) ≡ s - f =
      ap length (part_lent a e f s ea ee le w) ∙ simp (length-take, length-drop) (omega (arith, L.upto)) in
      part_back a e f s ea ee le w (replicate (s - f) 0) (y ∙ rw l) (length-replicate (s - f) 0)
