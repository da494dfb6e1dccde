-- A good list stays good: what stretches name stays zero over changes, and what a request makes of list and data.
-- Assumes nothing.
use mathlib.Core.Path.{◌≡◌, refl, sym, ap, ◌∙◌}
use mathlib.Core.Bool.{Bool, true, false, ◌&&◌, ◌||◌, false≢true}
use mathlib.Core.List.{List, [], ◌∷◌}
use mathlib.Core.Option.{Option, none, some}
use Prim.Native.Nat.{ℕ, suc, ◌+◌, ◌*◌, ◌≤◌}
use native.Mathlib.Omega.{arith}
use lib.ListN.{length, get_or}
use lib.Seq.{get_or-take}
use lib.Dec.{leb, ltb}
use borrow.Author.Tests.{not-true, leb-true, ltb-true}
use Rattle.octets.specs.Facts.{Fits32}
use Rattle.octets.specs.Lists.{maybe}
use Rattle.octets.proofs.ListLaws.{both, at_past}
use Rattle.format.specs.Layout.{used_length, extras_at, record_size}
use Rattle.format.specs.Parts.{Parts, count_in, extras, used}
use Rattle.format.specs.Claims.{Valid}
use Rattle.format.proofs.RoundTrip.{count_is}
use Rattle.rules.specs.Requests.{Test, Write, Request, test_write, add, renew, cancel, read, kind_of, request_of}
use Rattle.rules.specs.Writing.{write_at}
use Rattle.rules.specs.Changes.{covers, Change, wrote, cut_at, size_after, changes_of}
use Rattle.rules.specs.Outcomes.{after, after_of, with_leases}
use Rattle.rules.proofs.WriteLaws.{at_write}
use Rattle.rules.proofs.ChangeLaws.{perform, perform_all, length-perform, length-perform_all, after-bytes}
use Rattle.rules.proofs.RequestLaws.{Kinds, broken, tests, adds, renews, cancels, reads, kinds}
use Rattle.stretches.specs.Stretches.{Stretch, listed, written_over, stretches_by, stretches_after}
use Rattle.stretches.specs.List.{row_limit, rows_at, row_count, rows_from, stretches_of, list_bytes}
use Rattle.stretches.specs.Claims.{Rising, GoodList}
use Rattle.stretches.proofs.MemberLaws.{listed_below, listed_written}
use Rattle.stretches.proofs.ShapeLaws.{rising-after}
use Rattle.stretches.proofs.ByteLaws.{length-rows_from, Zeros}
use Rattle.stretches.proofs.Claims.{good_list, bytes_good}
use Rattle.listed_rules.specs.Outcomes.{next_stretches, list_to}

-- ---- what stretches name stays zero
zeros_write : (n at : ℕ) (bs : List ℕ) (rs : List Stretch) (d : List ℕ) → n ≡ length d → Zeros rs d →
    Zeros (written_over n at (length bs) rs) (write_at d at bs)
unfolding written_over write_at
zeros_write n at [] rs d l h i e = h i e
zeros_write n at (b ∷ bs) rs d l h i e =
    let k = both (listed rs i || (leb n i && ltb i at)) _ (sym (listed_written n at (length bs) rs i) ∙ e) in
    at_write d at (b ∷ bs) i ∙ rw (not-true (covers at (suc (length bs)) i) k.1) (go (listed rs i) refl k.0)
  where
    go : (x : Bool) → listed rs i ≡ x → (x || (leb n i && ltb i at)) ≡ true → get_or d i 0 ≡ 0
    go true p q = h i p
    go false p q =
        let z : n ≤ i = leb-true n i (both (leb n i) _ q).0 in
        at_past d i (omega arith)

zeros_by : (o : Change) (rs : List Stretch) (d : List ℕ) → Zeros rs d →
    Zeros (stretches_by o (length d) rs) (perform o d)
unfolding stretches_by perform
zeros_by (wrote at bs) rs d h i e = zeros_write (length d) at bs rs d refl h i e
zeros_by (cut_at m) rs d h i e =
    let k = both (listed rs i) (ltb i m) (sym (listed_below m rs i) ∙ e) in
    get_or-take m d i 0 (ltb-true i m k.1) ∙ h i k.0

pub zeros_after : (os : List Change) (rs : List Stretch) (d : List ℕ) → Zeros rs d →
    Zeros (stretches_after os (length d) rs) (perform_all os d)
unfolding stretches_after perform_all
zeros_after [] rs d h = h
zeros_after (o ∷ os) rs d h =
    rw (length-perform o d) at (zeros_after os (stretches_by o (length d) rs) (perform o d) (zeros_by o rs d h))

-- ---- data that fits its container is shorter than 2^32
pub bytes_fit : (p : Parts) → Valid p → Fits32 (length p.bytes)
unfolding used used_length
bytes_fit p v =
    let f : extras_at (count_in p) + record_size * extras p.leases ≤ p.room = v.fits in
    omega (arith, f, v.at_most, count_is p)

-- ---- what is read as a test-and-write has its kind
unfoldable is_write : Option Request → Bool
is_write none = false
is_write (some (test_write k ts ws cut)) = true
is_write (some (add r)) = false
is_write (some (renew t x)) = false
is_write (some (cancel t)) = false
is_write (some (read rs)) = false

write_read : (q : List ℕ) → is_write (request_of q) ≡ true → kind_of q ≡ 1
unfolding is_write
write_read q h = go (kinds q)
  where
    go : Kinds q → kind_of q ≡ 1
    go (broken e) = absurd (false≢true (rw e at h))
    go (tests k l o e) = k
    go (adds k o e) = absurd (false≢true (rw e at h))
    go (renews k o e) = absurd (false≢true (rw e at h))
    go (cancels k o e) = absurd (false≢true (rw e at h))
    go (reads k o e) = absurd (false≢true (rw e at h))

pub write_kind : (q k : List ℕ) (ts : List Test) (ws : List Write) (cut : Option ℕ) →
    request_of q ≡ some (test_write k ts ws cut) → kind_of q ≡ 1
unfolding is_write
write_kind q k ts ws cut e = write_read q (rw e)

-- ---- requests without changes
pub no_changes : (q : List ℕ) (n : ℕ) → (kind_of q ≡ 1 → ⊥) → changes_of (request_of q) n ≡ []
unfolding changes_of
no_changes q n h = go (kinds q)
  where
    go : Kinds q → changes_of (request_of q) n ≡ []
    go (broken e) = rw e refl
    go (tests k l o e) = absurd (h k)
    go (adds k o e) = rw e refl
    go (renews k o e) = rw e refl
    go (cancels k o e) = rw e refl
    go (reads k o e) = rw e refl

-- they leave the list
pub other_list : (p : Parts) (q l : List ℕ) → (kind_of q ≡ 1 → ⊥) → list_to p (request_of q) l ≡ l
unfolding list_to
other_list p q l h = go (kinds q)
  where
    go : Kinds q → list_to p (request_of q) l ≡ l
    go (broken e) = rw e refl
    go (tests k i o e) = absurd (h k)
    go (adds k o e) = rw e refl
    go (renews k o e) = rw e refl
    go (cancels k o e) = rw e refl
    go (reads k o e) = rw e refl

-- nor do they add rows
pub few_others : (p : Parts) (q l d : List ℕ) → GoodList l d → (kind_of q ≡ 1 → ⊥) →
    length (next_stretches p (request_of q) (stretches_of l)) ≤ row_limit
unfolding next_stretches stretches_after stretches_of
few_others p q l d g h =
    let n : length (rows_from (row_count l) rows_at l) ≡ row_count l = length-rows_from (row_count l) rows_at l in
    rw (no_changes q (length p.bytes) h) (omega (arith, n, g.few))

-- ---- the stretches after a request, beside the data after it
module _ (p : Parts) (r : Option Request) (rs : List Stretch) where
  pub next_rises : Rising 0 rs (length p.bytes) → Rising 0 (next_stretches p r rs) (length (after_of p r).bytes)
  unfolding next_stretches
  next_rises h =
      let os : List Change = changes_of r (length p.bytes) in
      let l : length (after_of p r).bytes ≡ size_after os (length p.bytes) =
      ap length (after-bytes p r) ∙ length-perform_all os p.bytes in
      rw l (rising-after os (length p.bytes) rs h)

  pub next_zeros : Zeros rs p.bytes → Zeros (next_stretches p r rs) (after_of p r).bytes
  unfolding next_stretches
  next_zeros h = rw (after-bytes p r) (zeros_after (changes_of r (length p.bytes)) rs p.bytes h)

next_good : (p : Parts) (r : Option Request) (l : List ℕ) → GoodList l p.bytes →
    Fits32 (length (after_of p r).bytes) → length (next_stretches p r (stretches_of l)) ≤ row_limit →
    GoodList (list_bytes (next_stretches p r (stretches_of l))) (after_of p r).bytes
next_good p r l g f h =
    let rs : List Stretch = stretches_of l in
    good_list (list_bytes (next_stretches p r rs)) (after_of p r).bytes
    (bytes_good (next_stretches p r rs) (after_of p r).bytes
    (record { few = h; rises = next_rises p r rs g.rises; fits = f }) (next_zeros p r rs g.zeros))

-- A list stays good beside what a request leaves of the data.
pub good_after : (p : Parts) (r : Option Request) (l : List ℕ) → GoodList l p.bytes →
    Fits32 (length (after_of p r).bytes) → length (next_stretches p r (stretches_of l)) ≤ row_limit →
    GoodList (list_to p r l) (after_of p r).bytes
unfolding list_to after_of maybe after with_leases
good_after p none l g f h = g
good_after p (some (test_write k ts ws cut)) l g f h = next_good p (some (test_write k ts ws cut)) l g f h
good_after p (some (add r)) l g f h = g
good_after p (some (renew t x)) l g f h = g
good_after p (some (cancel t)) l g f h = g
good_after p (some (read rs)) l g f h = g
