-- The view after the rewriting is the encoding of the parts with the data rewritten. Assumes nothing.
use mathlib.Core.Path.{◌≡◌, refl, sym, ap, ◌∙◌}
use mathlib.Core.List.{List, ◌++◌, map, append_assoc}
use mathlib.Core.Option.{Option, none, some}
use mathlib.Core.Logic.{◌⊎◌, inl, inr}
use Prim.Native.Nat.{ℕ, ◌+◌, ◌-◌, ◌≤◌, ◌<◌}
use native.Mathlib.Omega.{arith}
use lib.ListN.{length, take, drop, replicate, get_or, length-append, length-replicate, get_or-append}
use lib.Seq.{drop_at, length-take-le, get_or-take}
use Rattle.octets.specs.Numbers.{digits}
use Rattle.octets.specs.Strings.{join}
use Rattle.octets.specs.Facts.{Octets}
use Rattle.octets.proofs.NumberLaws.{length_digits}
use Rattle.format.specs.Layout.{magic, size_width, fixed_places, size_at, offset_at, data_at}
use Rattle.format.specs.Layout.{limit, data_of, slack_of, used_length, moved_count}
use Rattle.format.specs.Parts.{Parts, extras, count_in, used, parts_of, front_of, head_of, tail_of, encode}
use Rattle.format.specs.View.{tail_size, Laid}
use Rattle.format.specs.Claims.{Valid}
use Rattle.format.specs.Judging.{Known}
use Rattle.format.proofs.WellFormed.{used_is, moved_most, moved-not}
use Rattle.format.proofs.RoundTrip.{parts_count, parts_valid}
use Rattle.format.proofs.KnownLaws.{frame_count, data_framed, extras_framed, known_room, slack_zeros}
use Rattle.format.proofs.ViewLaws.{loose, formed_laid, laid_encoded}
use Rattle.format.proofs.ByteLaws.{at_loose}
use Rattle.rules.specs.Requests.{Write}
use Rattle.rules.specs.Writing.{write_all, placed, rewritten}
use Rattle.rules.specs.Sizes.{size_all, cut_size, final_size, clip, resize}
use Rattle.rules.specs.Outcomes.{with_bytes}
use Rattle.rules.proofs.WriteLaws.{no_gap, length-write_all, size_clipped}
use Rattle.rules.proofs.Kept.{count_with, used_with}
use Rattle.octets.specs.Moves.{put}
use Rattle.octets.proofs.MoveLaws.{put-over, zeros_split}
use Rattle.writes.specs.Sizes.{last_gap}
use Rattle.writes.specs.Stretch.{Fits}
use Rattle.writes.specs.Rewrite.{with_size, with_fields, overlaid, freed, Final}
use Rattle.writes.proofs.GapLaws.{filled}
use Rattle.format.specs.declared.layout.Frame.{Frame}
use Rattle.requests.specs.declared.forms.Parted.{Parted}

-- ---- the parts with other data
-- The head as its fields.
head_with : Parts → ℕ → ℕ → List ℕ
head_with p s o =
    (magic ++ (p.node ++ p.enabler))
    ++ (digits size_width s ++ (digits size_width o ++ join (take fixed_places p.leases)))

front_long : (p : Parts) → Valid p → length (magic ++ (p.node ++ p.enabler)) ≡ size_at
front_long p v = simp (length-append, v.node_size_holds, v.enabler_size)

head_is : (p : Parts) → head_of p ≡ head_with p (length p.bytes) (count_in p)
unfolding head_of front_of head_with
head_is p = simp append_assoc

size_put : (p : Parts) (s u o : ℕ) → Valid p → with_size s (head_with p u o) ≡ head_with p s o
unfolding head_with with_size
size_put p s u o v =
    put-over size_at (magic ++ (p.node ++ p.enabler)) (digits size_width u) (digits size_width s) _ (front_long p v)
    (length_digits size_width u ∙ sym (length_digits size_width s))

offset_put : (p : Parts) (s o u : ℕ) → Valid p
    → put offset_at (digits size_width o) (head_with p s u) ≡ head_with p s o
unfolding head_with
offset_put p s o u v =
    let x : List ℕ = magic ++ (p.node ++ p.enabler) in
    let j : List ℕ = join (take fixed_places p.leases) in
    let l : length (x ++ digits size_width s) ≡ offset_at =
    length-append x (digits size_width s) ∙ rw (front_long p v, length_digits size_width s) in
    ap (put offset_at (digits size_width o)) (sym (append_assoc x (digits size_width s) _))
    ∙ put-over offset_at (x ++ digits size_width s) (digits size_width u) (digits size_width o) j l
    (length_digits size_width u ∙ sym (length_digits size_width o))
    ∙ append_assoc x (digits size_width s) _

fields_are : (p : Parts) (s o : ℕ) → Valid p → with_fields s o (head_of p) ≡ head_with p s o
unfolding with_fields
fields_are p s o v =
    ap (λ (h : List ℕ). put offset_at (digits size_width o) (with_size s h)) (head_is p)
    ∙ ap (put offset_at (digits size_width o)) (size_put p s _ _ v) ∙ offset_put p s o _ v

-- With the count where it was, the size alone makes them.
size_are : (p : Parts) (s : ℕ) → Valid p → with_size s (head_of p) ≡ with_fields s (count_in p) (head_of p)
size_are p s v = ap (with_size s) (head_is p) ∙ size_put p s _ _ v ∙ sym (fields_are p s (count_in p) v)

same_leases : (p : Parts) (d : List ℕ)
    → head_with (with_bytes p d) (length (with_bytes p d).bytes) (count_in (with_bytes p d))
    ≡ head_with p (length d) (count_in (with_bytes p d))
unfolding head_with with_bytes
same_leases p d = refl

head_written : (p : Parts) (d : List ℕ) → Valid p
    → with_fields (length d) (moved_count (count_in p) (length d)) (head_of p) ≡ head_of (with_bytes p d)
head_written p d v =
    ap (λ (o : ℕ). with_fields (length d) o (head_of p)) (sym (count_with p d))
    ∙ fields_are p (length d) (count_in (with_bytes p d)) v ∙ sym (head_is (with_bytes p d) ∙ same_leases p d)

head-same : (p : Parts) → Valid p → with_fields (length p.bytes) (count_in p) (head_of p) ≡ head_of p
head-same p v = fields_are p (length p.bytes) (count_in p) v ∙ sym (head_is p)

-- Data with the slack that the rules give it.
slack_written : (p : Parts) (d : List ℕ)
    → (with_bytes p d).slack ≡ moved_count (count_in p) (length d) - (data_at + length d)
unfolding with_bytes
slack_written p d = refl

-- ---- the rewriting
-- The cut makes nothing longer.
final_most : (ws : List Write) (cut : Option ℕ) (n : ℕ) → final_size ws cut n ≤ size_all (placed ws n) n
unfolding final_size cut_size
final_most ws none n = omega arith
final_most ws (some m) n = omega arith

-- Resized, then the clipped writes: that is the writes in order and then the cut.
rewritten_is : (ws : List Write) (cut : Option ℕ) (d : List ℕ) (size f : ℕ) → length d ≡ size
    → f ≡ final_size ws cut size → write_all (map (clip f) (placed ws size)) (resize f d) ≡ rewritten ws cut d
unfolding rewritten final_size
rewritten_is ws cut d size f l e = rw (no_gap (placed ws (length d)) cut d, l, ← e)

-- ---- the slack
-- Behind its data, loose data is zeros.
loose_behind : (d : List ℕ) (m f : ℕ) → length d ≤ f → f ≤ length d + m
    → drop f (loose d m) ≡ replicate (length d + m - f) 0
loose_behind d m f h g =
    let j : ℕ = f - length d in
    let n : m ≡ j + (length d + m - f) = omega arith in
    let l : length (d ++ replicate j 0) ≡ f = rw (length-append, length-replicate {A = ℕ}) (omega arith) in
    ap (λ (i : ℕ). drop f (d ++ replicate i 0)) n ∙ rw (zeros_split j (length d + m - f), ← append_assoc d)
    (drop_at (d ++ replicate j 0) (replicate (length d + m - f) 0) f l)

-- Loose data with the bytes from f up to its size s freed: its length, its first bytes, and zeros behind them.
module _ (d : List ℕ) (m f s : ℕ) (l : length d ≡ s) (h : f ≤ s) where
  left_long : length (take f (loose d m)) ≡ f
  left_long = length-take-le f (loose d m) (rw (length-append, length-replicate {A = ℕ}) (omega arith))

  slack_left : drop s (loose d m) ≡ replicate m 0
  slack_left = drop_at d (replicate m 0) s l

  freed_long : length (freed f s (loose d m)) ≡ length (loose d m)
  unfolding freed
  freed_long =
      rw (slack_left, length-append (take f (loose d m)), left_long, length-append (replicate {A = ℕ} (s - f) 0))
      (rw (length-append d, length-replicate {A = ℕ} m 0, length-replicate {A = ℕ} (s - f) 0) (omega arith))

  freed_behind : drop f (freed f s (loose d m)) ≡ replicate (length (loose d m) - f) 0
  unfolding freed
  freed_behind =
      let n : s - f + m ≡ length (loose d m) - f =
      rw (length-append d, length-replicate {A = ℕ} m 0) (omega arith) in
      drop_at (take f (loose d m)) _ f left_long ∙ ap (λ (x : List ℕ). replicate (s - f) 0 ++ x) slack_left
      ∙ sym (zeros_split (s - f) m) ∙ rw n

  freed_first : (i : ℕ) → i < f → get_or (freed f s (loose d m)) i 0 ≡ get_or d i 0
  unfolding freed
  freed_first i g =
      get_or-append (take f (loose d m)) _ 0 i (omega (arith, left_long)) ∙ get_or-take f (loose d m) i 0 g
      ∙ at_loose d m i

module _ (c e : List ℕ) (frame : Frame) (f : ℕ) (k : Known c frame) (o : Octets c) where
  abbrev p : Parts
  p = parts_of c

  abbrev pub kept-size : ℕ
  kept-size = tail_size frame.extras

  known_count : count_in p ≡ frame.offset
  known_count = parts_count c k.formed ∙ sym (frame_count k)

  -- where the count goes
  abbrev goal : ℕ
  goal = moved_count frame.offset f

  used-kept : (a : ℕ) → used_length a (extras p.leases) ≡ a + kept-size
  unfolding parts_of
  used-kept a = rw (extras_framed k) (omega (arith, used_is a frame.extras))

  laid_written : (d : List ℕ) → length d ≡ f
      → Laid (length c) goal kept-size e (with_fields f goal (head_of p)) (loose d (goal - (data_at + f))) (tail_of p)
      → e ≡ encode (with_bytes p d)
  unfolding with_bytes parts_of tail_of
  laid_written d l L =
      let j : moved_count (count_in p) (length d) ≡ goal = rw (known_count, l) in
      let g : count_in (with_bytes p d) ≡ goal = count_with p d ∙ j in
      let h : head_of (with_bytes p d) ≡ with_fields f goal (head_of p) =
      sym (head_written p d (parts_valid c k.formed)) ∙ rw (j, l) in
      let s : (with_bytes p d).slack ≡ goal - (data_at + f) = slack_written p d ∙ rw (j, l) in
      let u : used (with_bytes p d) ≡ count_in (with_bytes p d) + kept-size =
      used_with p d ∙ ap (λ (a : ℕ). used_length a (extras p.leases)) j ∙ used-kept goal
      ∙ ap (λ (a : ℕ). a + kept-size) (sym g) in
      laid_encoded (with_bytes p d) kept-size e (rw (g, h, s) L) u

  -- Data and slack with the old bytes up to the last gap's end and zeros behind the final size, and the writes over
  -- them, in the view with the fields of the final size, are the encoding of the parts with the data rewritten.
  pub rewritten_whole : (ws : List Write) (cut : Option ℕ) (g : List ℕ) → data_at + length g ≡ goal
      → ((i : ℕ) → i < last_gap (placed ws frame.size) frame.size frame.size → i < f
      → get_or g i 0 ≡ get_or (data_of c) i 0)
      → drop f g ≡ replicate (length g - f) 0
      → Laid (length c) goal kept-size e (with_fields f goal (head_of p)) (overlaid (placed ws frame.size) f g)
      (tail_of p)
      → f ≡ final_size ws cut frame.size → e ≡ encode (with_bytes (parts_of c) (rewritten ws cut (data_of c)))
  unfolding overlaid
  rewritten_whole ws cut g l first zeros L q =
      let m = moved_most frame.offset f in
      let lf : length (take f g) ≡ f = length-take-le f g (omega (arith, m.1)) in
      let n : length g - f ≡ goal - (data_at + f) = omega arith in
      let y : write_all (map (clip f) (placed ws frame.size)) (take f g) ≡ rewritten ws cut (data_of c) =
      filled (placed ws frame.size) frame.size f (take f g) (data_of c) lf
      (rw q (final_most ws cut frame.size)) (λ i j h. get_or-take f g i 0 h ∙ first i j h)
      ∙ rewritten_is ws cut (data_of c) frame.size f (data_framed k) q in
      let ly : length (rewritten ws cut (data_of c)) ≡ f =
      sym (ap length y) ∙ length-write_all (map (clip f) (placed ws frame.size)) (take f g)
      ∙ rw lf (size_clipped f (placed ws frame.size)) in
      laid_written (rewritten ws cut (data_of c)) ly (rw (y, zeros, n) at L)

  -- ---- the ways there
  old : List ℕ
  old = loose (data_of c) (slack_of c)

  upto : data_at + length old ≡ frame.offset
  unfolding old
  upto = (formed_laid c frame k o).upto

  stays : f ≤ frame.size ⊎ data_at + f ≤ frame.offset → goal ≡ frame.offset
  stays (inl h) = moved-not frame.offset f (omega (arith, (known_room k).0))
  stays (inr h) = moved-not frame.offset f h

  -- with the count where it was, the size alone makes the head
  sized_head : with_size f (head_of p) ≡ with_fields f frame.offset (head_of p)
  sized_head = size_are p f (parts_valid c k.formed) ∙ rw known_count

  old_long : length (data_of c) + slack_of c ≡ length old
  unfolding old
  old_long = sym (length-append (data_of c) (replicate (slack_of c) 0) ∙ rw (length-replicate {A = ℕ} (slack_of c) 0))

  -- growth inside the slack, and data that keeps its size
  pub filled_whole : (ws : List Write) (cut : Option ℕ) → frame.size ≤ f → data_at + f ≤ frame.offset
      → Laid (length c) frame.offset kept-size e (with_size f (head_of p))
      (overlaid (placed ws frame.size) f (loose (data_of c) (slack_of c))) (tail_of p)
      → f ≡ final_size ws cut frame.size → e ≡ encode (with_bytes (parts_of c) (rewritten ws cut (data_of c)))
  unfolding old
  filled_whole ws cut l h L q =
      let g : goal ≡ frame.offset = stays (inr h) in
      let d = data_framed k in
      rewritten_whole ws cut old (upto ∙ sym g) (λ i j m. at_loose (data_of c) (slack_of c) i)
      (loose_behind (data_of c) (slack_of c) f (omega arith) (omega (arith, old_long, upto)) ∙ rw old_long)
      (rw (g, ← sized_head) L) q

  -- a cut
  pub freed_whole : (ws : List Write) (cut : Option ℕ) → f ≤ frame.size
      → Laid (length c) frame.offset kept-size e (with_size f (head_of p))
      (overlaid (placed ws frame.size) f (freed f frame.size (loose (data_of c) (slack_of c)))) (tail_of p)
      → f ≡ final_size ws cut frame.size → e ≡ encode (with_bytes (parts_of c) (rewritten ws cut (data_of c)))
  unfolding old
  freed_whole ws cut l L q =
      let g : goal ≡ frame.offset = stays (inl l) in
      let d : List ℕ = data_of c in
      let m : ℕ = slack_of c in
      let n : length (freed f frame.size old) ≡ length old = freed_long d m f frame.size (data_framed k) l in
      rewritten_whole ws cut (freed f frame.size old) (rw n (upto ∙ sym g))
      (λ i j h. freed_first d m f frame.size (data_framed k) l i h)
      (freed_behind d m f frame.size (data_framed k) l ∙ rw n) (rw (g, ← sized_head) L) q

  -- data that keeps its size has the fields already
  pub same_head : frame.size ≡ f → head_of p ≡ with_size f (head_of p)
  unfolding parts_of
  same_head h =
      let l : length (data_of c) ≡ f = data_framed k ∙ h in
      sym (size_are p f (parts_valid c k.formed) ∙ rw (← l) (head-same p (parts_valid c k.formed)))

-- Both sizes have room.
pub both_fit : {c q : List ℕ} {frame : Frame} {t : Parted} {f : ℕ} → Known c frame → Final q t frame f (length c)
    → Fits frame f c
both_fit {c = c} {frame = frame} k r =
    let m = known_room k in
    record {
      behind = m.0;
      zeros = slack_zeros k;
      before = omega (arith, used_is frame.offset frame.extras, m.1);
      after = r.fits;
      most = m.2;
      few = m.3;
    }

-- The view afterwards has room, and its size is small.
pub final_room : {c q : List ℕ} {frame : Frame} {t : Parted} {f : ℕ} → Known c frame → Final q t frame f (length c)
    → (data_at + f + tail_size frame.extras ≤ length c) × (f ≤ limit)
final_room {frame = frame} {f = f} k r =
    let u = used_is (moved_count frame.offset f) frame.extras in
    let m = known_room k in
    let w = moved_most frame.offset f in
    (omega (arith, r.fits, w.1), omega (arith, r.fits, w.1, m.2))
