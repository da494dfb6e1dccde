-- Whether the offsets fit their fields, in comparisons. Assumes nothing.
use mathlib.Core.Path.{◌≡◌, refl, sym}
use mathlib.Core.Bool.{Bool, true, false, ◌&&◌, false≢true}
use mathlib.Core.List.{List, [], ◌∷◌}
use Prim.Native.Nat.{ℕ, zero, suc}
use native.Mathlib.Omega.{arith}
use lib.Dec.{leb, ltb}
use lib.ListN.{get_or}
use borrow.Author.Tests.{leb-true, leb-false, lt-ltb, le-ltb}
use Rattle.octets.specs.Facts.{Each, Fits64}
use Rattle.octets.specs.Numbers.{fits}
use Rattle.octets.proofs.ListLaws.{and-true}
use Rattle.share_format.specs.Header.{Edition, offset_size, each_fits, told_of, offsets_fit}
use Rattle.share_format.proofs.HeaderLaws.{fits_64, offset_facts}
use Rattle.share_storing.specs.Facts.{NarrowOffsets}

narrow : (v : ℕ) → fits offset_size v ≡ leb v 4294967295
unfolding fits
narrow v = go (leb v 4294967295) refl
  where
    go : (t : Bool) → leb v 4294967295 ≡ t → ltb v 4294967296 ≡ t
    go true e = lt-ltb v 4294967296 (omega (arith, leb-true v 4294967295 e))
    go false e = le-ltb v 4294967296 (omega (arith, leb-false v 4294967295 e))

-- Each of some numbers of 64 bits, and none where there is none.
each_at : (bs : List ℕ) → Each Fits64 bs → (i : ℕ) → Fits64 (get_or bs i 0)
each_at [] f i = omega arith
each_at (b ∷ bs) f zero = f.0
each_at (b ∷ bs) f (suc i) = each_at bs f.1 i

pub fits_four : (bs : List ℕ) → Each Fits64 bs
    → offsets_fit false bs
    ≡ (leb (get_or bs 1 0) 4294967295
    && (leb (get_or bs 2 0) 4294967295 && (leb (get_or bs 3 0) 4294967295 && leb (get_or bs 4 0) 4294967295)))
unfolding offsets_fit each_fits told_of
fits_four bs f =
    rw (narrow (get_or bs 1 0), narrow (get_or bs 2 0), narrow (get_or bs 3 0), narrow (get_or bs 4 0))
    (rw (
      fits_64 (get_or bs 5 0) (each_at bs f 5),
      fits_64 (get_or bs 6 0) (each_at bs f 6),
      and-true (leb (get_or bs 4 0) 4294967295),
    ))

pub fits_all : (bs : List ℕ) → Each Fits64 bs → offsets_fit true bs ≡ true
unfolding offsets_fit each_fits told_of
fits_all bs f =
    rw (
      fits_64 (get_or bs 0 0) (each_at bs f 0),
      fits_64 (get_or bs 1 0) (each_at bs f 1),
      fits_64 (get_or bs 2 0) (each_at bs f 2),
      fits_64 (get_or bs 3 0) (each_at bs f 3),
      fits_64 (get_or bs 4 0) (each_at bs f 4),
      fits_64 (get_or bs 5 0) (each_at bs f 5),
      fits_64 (get_or bs 6 0) (each_at bs f 6),
      fits_64 (get_or bs 7 0) (each_at bs f 7),
    )

pub narrow_facts : (e : Edition) (bs : List ℕ) → offsets_fit e bs ≡ true → e ≡ false → NarrowOffsets bs
unfolding told_of
narrow_facts true bs h r = absurd (false≢true (sym r))
narrow_facts false bs h r =
    let f = offset_facts false bs h in
    record { signature = f.0; chain = f.1.0; tree = f.1.1.0; share_data = f.1.1.1.0 }
