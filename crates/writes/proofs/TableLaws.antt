-- The table of writes, an entry at a time, as the two passes over it take it. Assumes nothing.
use mathlib.Core.Path.{◌≡◌, refl, sym, ap, ◌∙◌}
use mathlib.Core.Bool.{true, false, ◌&&◌}
use mathlib.Core.List.{List, [], ◌∷◌, map, append-nil}
use Prim.Native.Nat.{ℕ, zero, suc, ◌+◌, ◌-◌, ◌*◌, ◌≤◌, ◌<◌, min, max}
use native.Mathlib.Omega.{arith}
use native.Mathlib.Nat.{add-zero}
use lib.ListN.{length, take, drop, replicate, length-take, length-drop, take-append-drop}
use lib.Seq.{take-append-le, length-take-le}
use mir.Syntax.{w32}
use mir.Val.{to_z, of_z}
use Rattle.std.specs.Prelude.{Option, Some, None}
use Rattle.octets.specs.Facts.{Octets}
use Rattle.octets.specs.Moves.{put}
use Rattle.octets.proofs.ListLaws.{take_min}
use Rattle.format.specs.Layout.{limit}
use Rattle.rules.specs.Requests.{Write, request_limit, entry_size, entry_offset, entry_count, sum_from, writes_from}
use Rattle.rules.specs.Testing.{resolves, position}
use Rattle.rules.specs.Writing.{pad_to, write_at, grow, placed, writes_resolve, write_all}
use Rattle.rules.specs.Sizes.{size_all, clip}
use Rattle.requests.specs.Cursors.{entry_at}
use Rattle.requests.specs.Offsets.{resolved_of}
use Rattle.requests.specs.Forms.{PartedIn, writes_in}
use Rattle.requests.proofs.CursorLaws.{entry_most, count_below, entry_resolved, resolved-some, resolved-none}
use Rattle.requests.proofs.CursorLaws.{entry_placed as place_is}
use Rattle.requests.proofs.FormLaws.{sum_next, times_next}
use Rattle.writes.specs.Sizes.{gap_end, last_gap, reached_by}
use Rattle.requests.specs.declared.cursors.Entry.{Entry}
use Rattle.requests.specs.declared.forms.Parted.{Parted}

-- ---- one write
pub grow-some : (n at k : ℕ) → (k ≡ 0 → ⊥) → grow n at k ≡ max n (at + k)
unfolding grow
grow-some n at zero h = absurd (h refl)
grow-some n at (suc k) h = refl

pub grow-none : (n at k : ℕ) → k ≡ 0 → grow n at k ≡ n
unfolding grow
grow-none n at zero h = refl
grow-none n at (suc k) h = absurd (omega arith)

-- A write at a position of at most m, on data of at most m bytes, leaves no more than its own bytes beyond m.
pub grow_most : (n at k m : ℕ) → n ≤ m → at ≤ m → grow n at k ≤ m + k
unfolding grow
grow_most n at zero m h l = omega arith
grow_most n at (suc k) m h l = omega arith

-- A write inside the data is a put.
put_writes : (d : List ℕ) (at : ℕ) (bs : List ℕ) → at + length bs ≤ length d → put at bs d ≡ write_at d at bs
unfolding write_at pad_to
put_writes d at [] h = rw (append-nil, add-zero) (take-append-drop at d)
put_writes d at (b ∷ bs) h = rw (take-append-le at d (replicate (at - length d) 0) (omega arith))

-- A clipped write that begins inside the data, and one that begins behind it.
pub write_near : (d : List ℕ) (at n : ℕ) (bs : List ℕ) → at < length d
    → n ≡ min (length d - at) (length bs) → put at (take n bs) d ≡ write_at d at (take (length d - at) bs)
write_near d at n bs h m =
    let k : take (length d - at) bs ≡ take n bs =
    take_min (length d - at) bs ∙ ap (λ (i : ℕ). take i bs) (sym m) in
    rw k (put_writes d at (take n bs) (simp length-take (omega arith)))

pub write_far : (d : List ℕ) (at : ℕ) (bs : List ℕ) → length d ≤ at → d ≡ write_at d at (take (length d - at) bs)
unfolding write_at
write_far d at bs h = let k : length d - at ≡ 0 = omega arith in rw k

-- ---- an entry taken off the table
-- v writes from p on, whose new bytes stand one after the other from b on, inside the request.
pub record Rest (q : List ℕ) (v p b : ℕ) : Type 0 where
  pub rows : p + entry_size * v ≤ length q
  pub bodies : b + sum_from (λ i. entry_count i q) entry_size v p ≤ length q

pub rest_start : (q : List ℕ) (t : Parted) → PartedIn q t
    → Rest q t.writes.count t.writes.first.at t.bodies.at
rest_start q t k = record { rows = rw k.writes_stride at k.writes.inside; bodies = k.bodies }

pub rest_fits : {q : List ℕ} {v p b : ℕ} → Rest q v p b → 0 < v → p + entry_size ≤ length q
rest_fits {q} {v} {p} R h = omega (arith, R.rows, times_next entry_size v p h)

-- The most that a size can be on the way from s, where the new bytes up to b have been written: no offset names a
-- position beyond 2,147,483,647 and the size.
abbrev pub most_on_the_way : ℕ → ℕ → ℕ
most_on_the_way s b = 2147483647 + s + b

-- e is the first of these entries, and `at` its place on data of a size.
pub record Taken (q : List ℕ) (v p b size : ℕ) (e : Entry) (at : ℕ) : Type 0 where
  pub some : 0 < v
  pub rest : Rest q v p b
  pub entry : e ≡ entry_at p entry_size q
  pub place : at ≡ position (entry_offset p q) size

-- As the code takes it off.
pub taken : {q : List ℕ} {v p b : ℕ} (size : ℕ) {e : Entry} {at : ℕ} → Octets q → 0 < v → Rest q v p b
    → e ≡ entry_at p entry_size q → at ≡ position (to_z w32 (of_z w32 e.offset)) size → Taken q v p b size e at
taken {q} {p = p} size {e} {at} o s r is g = record {
  some = s;
  rest = r;
  entry = is;
  place = place_is p q size e.offset at o (ap (λ (x : Entry). x.offset) is) g;
}

module _ {q : List ℕ} {v p b size : ℕ} {e : Entry} {at : ℕ} (K : Taken q v p b size e at) where
  bodies_are : sum_from (λ i. entry_count i q) entry_size v p
      ≡ entry_count p q + sum_from (λ i. entry_count i q) entry_size (v - 1) (p + entry_size)
  bodies_are = sum_next entry_size v p K.some (λ i. entry_count i q)

  writes_are : writes_from v p b q
      ≡ record { offset = entry_offset p q; bytes = take (entry_count p q) (drop b q) }
      ∷ writes_from (v - 1) (p + entry_size) (b + entry_count p q) q
  unfolding writes_from
  writes_are = let one : v ≡ suc (v - 1) = omega (arith, K.some) in ap (λ (n : ℕ). writes_from n p b q) one

  pub body_length : length (take (entry_count p q) (drop b q)) ≡ entry_count p q
  body_length =
      length-take-le (entry_count p q) (drop b q) (rw length-drop (omega (arith, bodies_are, K.rest.bodies)))

  pub entry_fits : b + e.count ≤ length q
  entry_fits = rw K.entry (omega (arith, bodies_are, K.rest.bodies))

  pub entry_rest : Rest q (v - 1) e.next.at (b + e.count)
  entry_rest =
      rw K.entry
      (record {
        rows = omega (arith, K.rest.rows, times_next entry_size v p K.some);
        bodies = omega (arith, bodies_are, K.rest.bodies);
      })

  place_most : (s : ℕ) → size ≤ most_on_the_way s b → at ≤ most_on_the_way s b
  place_most s h = rw K.place (entry_most p q size (most_on_the_way s b) h (omega arith))

  pub entry_bounds : Octets q → length q ≤ request_limit → (s : ℕ) → s ≤ limit → size ≤ most_on_the_way s b
      → (at < 4294967296) × (e.count < 4294967296)
  entry_bounds o l s h k = (
    omega (arith, place_most s k, K.rest.bodies),
    rw K.entry (count_below p q o),
  )

  pub entry_small : (s : ℕ) → size ≤ most_on_the_way s b
      → grow size at e.count ≤ most_on_the_way s (b + e.count)
  entry_small s k =
      omega (arith, grow_most size at e.count (most_on_the_way s b) k (place_most s k))

  -- What is left behind the entry, and the size that its offsets are resolved on.
  abbrev pub left : List Write
  left = writes_from (v - 1) e.next.at (b + e.count) q

  abbrev pub onward : ℕ
  onward = grow size at e.count

  entry_resolves : writes_resolve (writes_from v p b q) size
      ≡ (resolves (entry_offset p q) size && writes_resolve left onward)
  unfolding writes_resolve
  entry_resolves = rw (K.place, K.entry, writes_are, body_length)

  pub entry_placed : placed (writes_from v p b q) size
      ≡ record { at = at; bytes = take e.count (drop b q) } ∷ placed left onward
  unfolding placed
  entry_placed = rw (K.place, K.entry, writes_are, body_length)

  count_length : length (take e.count (drop b q)) ≡ e.count
  count_length = rw K.entry body_length

  entry_size_lem : size_all (placed (writes_from v p b q) size) size ≡ size_all (placed left onward) onward
  unfolding size_all
  entry_size_lem = rw entry_placed (ap (λ (m : ℕ). size_all (placed left onward) (grow size at m)) count_length)

  entry_gap : (x : ℕ) → last_gap (placed (writes_from v p b q) size) size x
      ≡ last_gap (placed left onward) onward (gap_end x size at e.count)
  unfolding last_gap
  entry_gap x =
      rw entry_placed (ap (λ (m : ℕ). last_gap (placed left onward) (grow size at m) (gap_end x size at m)) count_length)

  entry_written : (F : ℕ) (d x : List ℕ) → F ≡ length d
      → x ≡ write_at d at (take (length d - at) (take e.count (drop b q)))
      → write_all (map (clip F) (placed left onward)) x ≡ write_all (map (clip F) (placed (writes_from v p b q) size)) d
  unfolding write_all clip
  entry_written F d x l g =
      let b' : List ℕ = take e.count (drop b q) in
      let onto : ℕ → List ℕ = λ m. write_at d at (take (m - at) b') in
      rw entry_placed (ap (write_all (map (clip F) (placed left onward))) (g ∙ ap onto (sym l)))

-- Nothing left.
none_left : (v p b : ℕ) (q : List ℕ) → v ≤ 0 → writes_from v p b q ≡ []
unfolding writes_from
none_left zero p b q h = refl
none_left (suc v) p b q h = absurd (omega arith)

-- ---- the loop over the sizes
-- The writes that are left lead from the size so far to where all of them, ws, lead.
pub record Reaching (q : List ℕ) (ws : List Write) (size v at after : ℕ) : Type 0 where
  pub body : ℕ
  pub rest : Rest q v at body
  pub small : after ≤ most_on_the_way size body
  pub reached : reached_by (writes_from v at body q) after ≡ reached_by ws size

pub reaching_start : {q : List ℕ} (t : Parted) (size v : ℕ) → PartedIn q t → v ≡ t.writes.count
    → Reaching q (writes_in t q) size v t.writes.first.at size
reaching_start t size v k n =
    rw n (record { body = t.bodies.at; rest = rest_start _ t k; small = omega arith; reached = refl })

module _ {q : List ℕ} {ws : List Write} {size v at after : ℕ} (R : Reaching q ws size v at after) where
  -- e is the next entry, and r what its offset is resolved to on the size n: whoever resolves it shows that n is the
  -- size so far.
  module _ {e : Entry} {r : Option ℕ} {n : ℕ} (o : Octets q) (some : 0 < v) (is : e ≡ entry_at at entry_size q)
      (g : r ≡ resolved_of (to_z w32 (of_z w32 e.offset)) n) (same : n ≡ after) where
    resolved : r ≡ resolved_of (entry_offset at q) after
    resolved = entry_resolved at q after e.offset r o (ap (λ (x : Entry). x.offset) is) (rw same at g)

    pub reaching_taken : (p : ℕ) → r ≡ Some p → Taken q v at R.body after e p
    reaching_taken p h = record {
      some = some;
      rest = R.rest;
      entry = is;
      place = sym (resolved-some (entry_offset at q) after p (sym resolved ∙ h)).1;
    }

    pub reaching_next : (p : ℕ) → r ≡ Some p → (next w : ℕ) → next ≡ grow after p e.count → suc w ≡ v
        → Reaching q ws size w e.next.at next
    reaching_next p h next w k n =
        let m : w ≡ v - 1 = omega arith in
        let K : Taken q v at R.body after e p = reaching_taken p h in
        let t : resolves (entry_offset at q) after ≡ true =
        (resolved-some (entry_offset at q) after p (sym resolved ∙ h)).0 in
        let one : reached_by (writes_from v at R.body q) after ≡ reached_by (left K) (onward K) =
        rw (entry_resolves K, t, entry_size_lem K) in
        rw m (record {
          body = _;
          rest = entry_rest K;
          small = rw k (entry_small K size R.small);
          reached = rw k (sym one ∙ R.reached);
        })

    pub reaching_none : r ≡ None → None ≡ reached_by ws size
    reaching_none h =
        let K : Taken q v at R.body after e (position (entry_offset at q) after) =
        record { some = some; rest = R.rest; entry = is; place = refl } in
        let f : resolves (entry_offset at q) after ≡ false =
        resolved-none (entry_offset at q) after (sym resolved ∙ h) in
        rw (entry_resolves K, f) at R.reached

  pub reaching_end : v ≤ 0 → Some after ≡ reached_by ws size
  unfolding writes_resolve placed size_all
  reaching_end h = rw (none_left v at R.body q h) at R.reached

-- ---- the walk whatever the offsets name
-- With the end of the last gap so far, the writes that are left leave that of all of them, ws.
pub record Baring (q : List ℕ) (ws : List Write) (size v at after gap : ℕ) : Type 0 where
  pub body : ℕ
  pub rest : Rest q v at body
  pub small : after ≤ most_on_the_way size body
  pub bared : last_gap (placed (writes_from v at body q) after) after gap ≡ last_gap (placed ws size) size size

pub baring_start : {q : List ℕ} (t : Parted) (size v : ℕ) → PartedIn q t → v ≡ t.writes.count
    → Baring q (writes_in t q) size v t.writes.first.at size size
baring_start t size v k n =
    rw n (record { body = t.bodies.at; rest = rest_start _ t k; small = omega arith; bared = refl })

module _ {q : List ℕ} {ws : List Write} {size v at after gap : ℕ} (B : Baring q ws size v at after gap) where
  pub baring_next : {e : Entry} {p : ℕ} → Taken q v at B.body after e p → (next behind w : ℕ)
      → next ≡ grow after p e.count → behind ≡ gap_end gap after p e.count → suc w ≡ v
      → Baring q ws size w e.next.at next behind
  baring_next K next behind w h k n =
      let m : w ≡ v - 1 = omega arith in
      rw m (record {
        body = _;
        rest = entry_rest K;
        small = rw h (entry_small K size B.small);
        bared = rw (h, k) (sym (entry_gap K gap) ∙ B.bared);
      })

  pub baring_end : v ≤ 0 → gap ≡ last_gap (placed ws size) size size
  unfolding placed last_gap
  baring_end h = rw (none_left v at B.body q h) at B.bared

-- With the size and the end of the last gap so far, the writes that are left lead to the size and leave the last gap of
-- all of them, ws.
pub record Walking (q : List ℕ) (ws : List Write) (size v at after gap : ℕ) : Type 0 where
  pub body : ℕ
  pub rest : Rest q v at body
  pub small : after ≤ most_on_the_way size body
  pub sized : size_all (placed (writes_from v at body q) after) after ≡ size_all (placed ws size) size
  pub bared : last_gap (placed (writes_from v at body q) after) after gap ≡ last_gap (placed ws size) size size

pub walking_start : {q : List ℕ} (t : Parted) (size v : ℕ) → PartedIn q t → v ≡ t.writes.count
    → Walking q (writes_in t q) size v t.writes.first.at size size
walking_start t size v k n =
    rw n (record { body = t.bodies.at; rest = rest_start _ t k; small = omega arith; sized = refl; bared = refl })

module _ {q : List ℕ} {ws : List Write} {size v at after gap : ℕ} (W : Walking q ws size v at after gap) where
  pub walking_next : {e : Entry} {p : ℕ} → Taken q v at W.body after e p → (next behind w : ℕ)
      → next ≡ grow after p e.count → behind ≡ gap_end gap after p e.count → suc w ≡ v
      → Walking q ws size w e.next.at next behind
  walking_next K next behind w h k n =
      let m : w ≡ v - 1 = omega arith in
      rw m (record {
        body = _;
        rest = entry_rest K;
        small = rw h (entry_small K size W.small);
        sized = rw h (sym (entry_size_lem K) ∙ W.sized);
        bared = rw (h, k) (sym (entry_gap K gap) ∙ W.bared);
      })

  pub walking_sized : v ≤ 0 → after ≡ size_all (placed ws size) size
  unfolding placed size_all
  walking_sized h = rw (none_left v at W.body q h) at W.sized

  -- What it says of the last gap alone.
  pub walking_baring : Baring q ws size v at after gap
  walking_baring = record { body = W.body; rest = W.rest; small = W.small; bared = W.bared }

  pub walking_bared : v ≤ 0 → gap ≡ last_gap (placed ws size) size size
  walking_bared = baring_end walking_baring

-- ---- the loop that writes
-- The writes that are left, put into the present data d, give what all of them, ws, give in the first data a.
pub record Overlaying (q : List ℕ) (ws : List Write) (size : ℕ) (a d : List ℕ) (v at body after : ℕ) : Type 0 where
  pub rest : Rest q v at body
  pub same : length d ≡ length a
  pub small : after ≤ most_on_the_way size body
  pub written : write_all (map (clip (length a)) (placed (writes_from v at body q) after)) d
      ≡ write_all (map (clip (length a)) (placed ws size)) a

pub overlaying_start : {q : List ℕ} (t : Parted) (size v : ℕ) (d : List ℕ) → PartedIn q t → v ≡ t.writes.count
    → Overlaying q (writes_in t q) size d d v t.writes.first.at t.bodies.at size
overlaying_start t size v d k n =
    rw n (record { rest = rest_start _ t k; same = refl; small = omega arith; written = refl })

module _ {q : List ℕ} {ws : List Write} {size : ℕ} {a d : List ℕ} {v at body after : ℕ}
    (O : Overlaying q ws size a d v at body after) where
  pub overlaying_next : {e : Entry} {p : ℕ} → Taken q v at body after e p → (x : List ℕ) (behind next w : ℕ)
      → length x ≡ length d
      → x ≡ write_at d p (take (length d - p) (take (body + e.count - body) (drop body q)))
      → behind ≡ body + e.count → next ≡ grow after p e.count → suc w ≡ v
      → Overlaying q ws size a x w e.next.at behind next
  overlaying_next {e} K x behind next w l g k h n =
      let m : body + e.count - body ≡ e.count = omega arith in
      let o : w ≡ v - 1 = omega arith in
      rw (k, h, o) (record {
        rest = entry_rest K;
        same = l ∙ O.same;
        small = entry_small K size O.small;
        written = entry_written K (length a) d x (sym O.same) (rw m at g) ∙ O.written;
      })

  pub overlaying_end : v ≤ 0 → d ≡ write_all (map (clip (length a)) (placed ws size)) a
  unfolding placed write_all
  overlaying_end h = rw (none_left v at body q h) at O.written
