-- Parts one behind the other: their boundaries, and the room that they take. Assumes nothing.
use mathlib.Core.Path.{◌≡◌, refl, sym, ap, ◌∙◌}
use mathlib.Core.List.{List, [], ◌∷◌, ◌++◌}
use Prim.Native.Nat.{ℕ, zero, suc, ◌+◌, ◌≤◌, ◌<◌}
use native.Mathlib.Omega.{arith}
use lib.ListN.{length, take, get_or, set, length-append, length-map}
use lib.Seq.{get_or-take, length-take-le, take_all}
use Rattle.std.specs.Borrow.{Bor}
use Rattle.std.proofs.lemmas.List.{take_more, take_more_set, get_or-map}
use Rattle.octets.specs.Lists.{sum}
use Rattle.octets.specs.Strings.{join}
use Rattle.octets.proofs.MoveLaws.{Stored, put-length}
use Rattle.share_format.specs.Bounds.{packed}
use Rattle.share_format.specs.Editions.{part_number}
use Rattle.share_format.specs.Header.{Edition}
use Rattle.share_format.specs.declared.parts.Part.{Part}
use Rattle.share_format.proofs.PackedLaws.{packed_last}
use Rattle.share_writing.specs.Facts.{strings, sizes_of, part_in}

-- A reference to nothing stands past the end.
abbrev pub blank : Bor (List ℕ)
blank = record { ref_ptr = (0, 0); now = [] }

pub count : (ps : List (Bor (List ℕ))) → length (sizes_of ps) ≡ length ps
count ps = length-map (strings ps) length ∙ length-map ps (λ p. p.now)

module _ (ps : List (Bor (List ℕ))) (i : ℕ) (h : i < length ps) where
  -- A string that is lent, and its size.
  pub string_at : get_or (strings ps) i [] ≡ (get_or ps i blank).now
  string_at = get_or-map (λ p. p.now) ps i blank [] h

  pub size_at : get_or (sizes_of ps) i 0 ≡ length (get_or ps i blank).now
  size_at =
      get_or-map length (strings ps) i [] 0 (rw length-map h) ∙ ap (λ (s : List ℕ). length s) string_at

  pub named_at : (p : Part) (e : Edition) → i ≡ part_number p e → (get_or ps i blank).now ≡ part_in p e (strings ps)
  named_at p e k = sym string_at ∙ ap (λ (n : ℕ). get_or (strings ps) n []) k

-- Each size is within the sum of all, and each string within all joined.
pub sum_upto : (ns : List ℕ) (i : ℕ) → i < length ns → sum (take i ns) + get_or ns i 0 ≤ sum ns
unfolding sum
sum_upto [] i h = absurd (omega arith)
sum_upto (n ∷ ns) zero h = omega arith
sum_upto (n ∷ ns) (suc i) h = omega (arith, sum_upto ns i (omega arith))

pub join_upto : (ss : List (List ℕ)) (i : ℕ) → i < length ss
    → length (join (take i ss)) + length (get_or ss i []) ≤ length (join ss)
unfolding join
join_upto [] i h = absurd (omega arith)
join_upto (s ∷ ss) zero h = rw length-append (omega arith)
join_upto (s ∷ ss) (suc i) h =
    rw (length-append s (join (take i ss)), length-append s (join ss)) (omega (arith, join_upto ss i (omega arith)))

packed_snoc : (a n : ℕ) (ns : List ℕ) → packed a (ns ++ n ∷ []) ≡ packed a ns ++ ((a + sum ns + n) ∷ [])
unfolding packed sum
packed_snoc a n [] = let e : a + n ≡ a + 0 + n = omega arith in rw e refl
packed_snoc a n (m ∷ ns) =
    let e : a + m + sum ns + n ≡ a + (m + sum ns) + n = omega arith in
    ap (λ (l : List ℕ). a ∷ l) (rw e at (packed_snoc (a + m) n ns))

-- The boundaries so far are those of the first i parts, and one more of them is the last and its part's size.
module _ (a : ℕ) (ns bs : List ℕ) (i : ℕ) (h : i < length ns) (is : take (i + 1) bs ≡ packed a (take i ns)) where
  pub placed_last : get_or bs i 0 ≡ a + sum (take i ns)
  placed_last =
      let l : length (take i ns) ≡ i = length-take-le i ns (omega arith) in
      sym (get_or-take (i + 1) bs i 0 (omega arith)) ∙ rw is (rw l at (packed_last a (take i ns)))

  pub placed_more : (n : ℕ) → get_or ns i 0 ≡ n → i + 1 < length bs
      → take (i + 1 + 1) (set bs (i + 1) (get_or bs i 0 + n)) ≡ packed a (take (i + 1) ns)
  placed_more n e k =
      take_more_set bs (i + 1) (get_or bs i 0 + n) k
      ∙ rw (is, placed_last, take_more ns i 0 h, e) (sym (packed_snoc a n (take i ns)))

pub placed_all : (a : ℕ) (ns bs : List ℕ) (i : ℕ) → length ns ≤ i → length bs ≤ i + 1
    → take (i + 1) bs ≡ packed a (take i ns) → bs ≡ packed a ns
placed_all a ns bs i h k is =
    sym (take_all (i + 1) bs k) ∙ is ∙ ap (packed a) (take_all i ns h)

-- What is stored has kept the length.
pub stored-length : (at to : ℕ) (s : List ℕ) (fs : List (List ℕ)) (d : List ℕ) → Stored at s fs to d → to ≤ length s
    → length d ≡ length s
stored-length at to s fs d h k = rw h.is (put-length at (join fs) s (omega (arith, h.ends)))
