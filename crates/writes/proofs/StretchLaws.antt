-- What is lent of the stretch, and the view of a container after it came back. Assumes nothing.
use mathlib.Core.Path.{◌≡◌, refl, sym, ap, ◌∙◌}
use mathlib.Core.Logic.{inl}
use mathlib.Core.Bool.{Bool, true, false}
use mathlib.Core.List.{List, ◌++◌, append_assoc, append-nil}
use Prim.Native.Nat.{ℕ, ◌+◌, ◌-◌, ◌≤◌, ◌<◌, max}
use native.Mathlib.Omega.{arith}
use lib.ListN.{length, take, drop, replicate, get_or, length-append, length-take, length-drop, length-replicate}
use lib.ListN.{drop_of_length-le, take-append-drop, get_or-append}
use lib.Seq.{take_at, drop_at, length-take-le, get_or-take, get_or-drop, ext_get_or}
use lib.Dec.{ltb}
use borrow.Author.Tests.{ltb-true, ltb-false}
use borrow.Rule.Slice.PartMut.{put_mid, mid_of}
use Rattle.octets.specs.Moves.{put, moved}
use Rattle.octets.proofs.ListLaws.{at_rep, at_app_right}
use Rattle.octets.proofs.MoveLaws.{lent_is, lent_back, put-length, put-beyond, put-outside, put-inside}
use Rattle.octets.proofs.MoveLaws.{zeros_split}
use Rattle.format.specs.Layout.{data_at, size_of, count_at, extras_of, moved_count}
use Rattle.format.specs.Parts.{Parts, parts_of, encode}
use Rattle.format.specs.Claims.{Valid}
use Rattle.format.specs.View.{Laid}
use Rattle.format.proofs.WellFormed.{used_is, moved_most}
use Rattle.format.proofs.RoundTrip.{parts_valid, size_encode, extras-encode, count_encode, parts_count}
use Rattle.format.proofs.KnownLaws.{frame_size, frame_count, frame_extras, extras_framed, known_room}
use Rattle.rules.specs.Outcomes.{with_bytes}
use Rattle.rules.specs.Stretch.{stretch_from, stretch_to}
use Rattle.rules.proofs.Kept.{bytes-kept, count_with}
use Rattle.writes.specs.Stretch.{LendsTheStretch, Refit}

-- ---- what is lent is of the stretch that is claimed
pub ends_claimed : LendsTheStretch
unfolding stretch_from stretch_to with_bytes parts_of
ends_claimed c d w k r =
    let p : Parts = with_bytes (parts_of c) d in
    let v : Valid p = bytes-kept (parts_of c) d (parts_valid c k.formed) r in
    let s : size_of (encode p) ≡ length d = size_encode p v in
    let x : extras_of (encode p) ≡ w.extras = extras-encode p v ∙ extras_framed k in
    let o : count_at (encode p) ≡ moved_count w.offset (length d) =
    count_encode p v ∙ count_with (parts_of c) d ∙ rw (parts_count c k.formed, frame_count k) in
    let m = moved_most w.offset (length d) in
    let u = used_is w.offset w.extras in
    let t = used_is (moved_count w.offset (length d)) w.extras in
    let z = known_room k in
    record {
      moved = λ h. (
        rw (s, ← frame_size k) (omega (arith, z.0)),
        rw (o, x, ← frame_count k, ← frame_extras k) (omega (arith, m.0)),
      );
      cut = λ h. (
        rw (s, ← frame_size k) (omega arith),
        rw (o, x, ← frame_count k, ← frame_extras k) (omega (arith, z.0, m.0)),
      );
    }

-- ---- a move and a clear
module _ (p : List ℕ) (s gap z t e : ℕ) (l : length p ≡ gap + t) (ls : s ≤ gap) (lz : z ≤ gap)
    (zeros : take s p ≡ replicate s 0) (ee : e ≡ max s z) where
  up : List ℕ
  up = moved s gap t p

  length_up : length up ≡ gap + t
  unfolding up
  length_up = simp (length-append, length-take, length-drop) (omega arith)

  cleared : List ℕ
  cleared = put s (replicate (e - s) 0) up

  zeros_long : length (replicate {A = ℕ} (e - s) 0) ≡ e - s
  zeros_long = length-replicate (e - s) 0

  -- before the gap's end the bytes are those that were there
  at_up : (i : ℕ) → i < gap → get_or up i 0 ≡ get_or p i 0
  unfolding up
  at_up i h =
      let lt : length (take gap p) ≡ gap = length-take-le gap p (omega arith) in
      ap (λ (x : List ℕ). get_or x i 0) (append_assoc (take gap p) (take t (drop s p)) (drop (gap + t) p))
      ∙ get_or-append (take gap p) _ 0 i (omega arith) ∙ get_or-take gap p i 0 h

  behind_up : drop gap up ≡ take t (drop s p)
  unfolding up
  behind_up =
      let lt : length (take gap p) ≡ gap = length-take-le gap p (omega arith) in
      rw (
        append_assoc (take gap p),
        drop_at (take gap p) (take t (drop s p) ++ drop (gap + t) p) gap lt,
        drop_of_length-le p {i = gap + t} (omega arith),
        append-nil,
      )

  at_cleared : (i : ℕ) → i < z → (b : Bool) → ltb i s ≡ b → get_or cleared i 0 ≡ 0
  unfolding cleared
  at_cleared i h true q =
      let m : i < s = ltb-true i s q in
      put-outside s i (replicate (e - s) 0) up (omega (arith, length_up)) (inl m) ∙ at_up i (omega arith)
      ∙ sym (get_or-take s p i 0 m) ∙ ap (λ (x : List ℕ). get_or x i 0) zeros ∙ at_rep s i
  at_cleared i h false q =
      let m : s ≤ i = ltb-false i s q in
      put-inside s i (replicate (e - s) 0) up (omega (arith, length_up)) m (omega (arith, zeros_long))
      ∙ at_rep (e - s) (i - s)

  length_cleared : length cleared ≡ gap + t
  unfolding cleared
  length_cleared =
      put-length s (replicate (e - s) 0) up (omega (arith, length_up, zeros_long)) ∙ length_up

  pub raised : (take z (put s (replicate (e - s) 0) (moved s gap t p)) ≡ replicate z 0)
      × (drop gap (put s (replicate (e - s) 0) (moved s gap t p)) ≡ take t (drop s p))
  unfolding up cleared
  raised =
      let lc : length (take z cleared) ≡ z = length-take-le z cleared (omega (arith, length_cleared)) in (
        ext_get_or 0 (take z cleared) (replicate z 0) (lc ∙ sym (length-replicate z 0))
            (λ i h.
            get_or-take z cleared i 0 (omega arith) ∙ at_cleared i (omega arith) (ltb i s) refl ∙ sym (at_rep z i)),
        put-beyond s gap (replicate (e - s) 0) up (omega (arith, length_up)) (omega (arith, zeros_long)) ∙ behind_up,
      )

-- ---- the view
-- The stretch from the data's end a to the new used end e comes back as ys: the count goes up to b.
module _ {n o k : ℕ} {c h d t : List ℕ} (L : Laid n o k c h d t) (b a e s gap z m : ℕ) (ys : List ℕ) where
  pub raised_laid : m ≡ a + z → a + s ≡ o → data_at ≤ a → a + gap ≡ b → e ≡ b + k → s ≤ gap → e ≤ n → length ys ≡ gap + k
      → take s (mid_of a (e - a) c) ≡ replicate s 0
      → (take z ys ≡ replicate z 0)
      × (drop (length (mid_of a (e - a) c) - k) ys ≡ take k (drop s (mid_of a (e - a) c)))
      → Refit n b k m (put_mid a (e - a) c ys) h d t
  raised_laid em eo la eb ee ls fit ly zero y = record {
    bytes = take x d ++ take gap ys;
    first = λ i l g. at i l g (ltb i x) refl;
    laid = record { is = back; head = L.head; upto = up; tail = L.tail; fits = omega arith };
  }
    where
      -- the data's size
      x : ℕ
      x = a - data_at

      ld : length (drop x d) ≡ s
      ld = simp length-drop (omega (arith, L.upto))

      p : List ℕ
      p = h ++ take x d

      r : List ℕ
      r = drop x d ++ (t ++ replicate (gap - s) 0)

      q : List ℕ
      q = replicate (n - e) 0

      zs : n - (o + k) ≡ gap - s + (n - e)
      zs = omega arith

      ds : take x d ++ (drop x d ++ (t ++ (replicate (gap - s) 0 ++ q)))
          ≡ d ++ (t ++ (replicate (gap - s) 0 ++ q))
      ds = sym (append_assoc (take x d) (drop x d) _) ∙ rw take-append-drop

      is : c ≡ p ++ (r ++ q)
      is =
          L.is ∙ rw (zs, zeros_split (gap - s) (n - e))
          (ap (λ (l : List ℕ). h ++ l) (sym ds) ∙ simp append_assoc)

      lp : length p ≡ a
      lp = simp (length-append, length-take) (omega (arith, L.head, L.upto))

      lm : a + length r ≡ e
      lm = simp (length-append, length-drop, length-replicate) (omega (arith, L.tail, L.upto))

      lent : mid_of a (e - a) c ≡ r
      lent = lent_is a e c p r q is lp lm

      -- what is behind the data is zeros
      slack : drop x d ≡ replicate s 0
      slack = sym (take_at (drop x d) (t ++ replicate (gap - s) 0) s ld) ∙ (rw lent at zero)

      lent_long : length (mid_of a (e - a) c) - k ≡ gap
      lent_long = rw lent (omega (arith, lm))

      tail : drop gap ys ≡ t
      tail =
          (rw lent_long at y.1) ∙ rw (lent, drop_at (drop x d) (t ++ replicate (gap - s) 0) s ld)
          (take_at t (replicate (gap - s) 0) k L.tail)

      ys_are : ys ≡ take gap ys ++ t
      ys_are = sym (take-append-drop gap ys) ∙ ap (λ (l : List ℕ). take gap ys ++ l) tail

      eq : n - e ≡ n - (b + k)
      eq = omega arith

      back : put_mid a (e - a) c ys ≡ h ++ ((take x d ++ take gap ys) ++ (t ++ replicate (n - (b + k)) 0))
      back =
          lent_back a e c p r q is lp lm ys
          ∙ ap (λ (l : List ℕ). (h ++ take x d) ++ (l ++ q)) ys_are ∙ rw (← eq) (simp append_assoc)

      up : data_at + length (take x d ++ take gap ys) ≡ b
      up = simp (length-append, length-take) (omega (arith, L.upto))

      lx : length (take x d) ≡ x
      lx = length-take-le x d (omega (arith, L.upto))

      at : (i : ℕ) → data_at + i < m → data_at + i < b → (v : Bool) → ltb i x ≡ v
          → get_or (take x d ++ take gap ys) i 0 ≡ get_or d i 0
      at i l g true v =
          let j : i < x = ltb-true i x v in
          get_or-append (take x d) (take gap ys) 0 i (omega (arith, lx)) ∙ get_or-take x d i 0 j
      at i l g false v =
          let j : x ≤ i = ltb-false i x v in
          let w : x + (i - x) ≡ i = omega arith in
          at_app_right (take x d) (take gap ys) i (omega (arith, lx))
          ∙ rw lx (get_or-take gap ys (i - x) 0 (omega arith) ∙ sym (get_or-take z ys (i - x) 0 (omega arith))
          ∙ ap (λ (u : List ℕ). get_or u (i - x) 0) y.0 ∙ at_rep z (i - x))
          ∙ sym (ap (λ (u : ℕ). get_or d u 0) (sym w) ∙ sym (get_or-drop x d (i - x) 0)
          ∙ ap (λ (u : List ℕ). get_or u (i - x) 0) slack ∙ at_rep s (i - x))
