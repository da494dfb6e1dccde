-- The one view of a container's bytes, head, data with slack, tail and zeros: the encoding of parts has it, and a
-- change to head, data or tail keeps it. Assumes nothing.
use mathlib.Core.Path.{◌≡◌, refl, sym, ap, ◌∙◌}
use mathlib.Core.List.{List, ◌++◌, append_assoc}
use Prim.Native.Nat.{ℕ, ◌+◌, ◌-◌, ◌≤◌}
use native.Mathlib.Omega.{arith}
use lib.ListN.{length, replicate, length-append, length-replicate}
use Rattle.format.specs.declared.layout.Frame.{Frame}
use Rattle.format.specs.Parts.{front_of, Parts, head_of, tail_of, encode, count_in, used, extras, parts_of}
use Rattle.format.specs.View.{tail_size, Laid}
use Rattle.format.specs.Claims.{Valid}
use Rattle.format.specs.Layout.{leases_at, data_at, data_of, slack_of}
use Rattle.octets.proofs.NumberLaws.{length_digits}
use Rattle.format.specs.Judging.{Known}
use Rattle.octets.specs.Facts.{Octets}
use Rattle.format.proofs.RoundTrip.{parts_valid, parts_count, encode_parts, four_bytes, extra_bytes}
use Rattle.format.proofs.WellFormed.{used_is, slack_is}
use Rattle.format.proofs.JudgingLaws.{known_sized}
use Rattle.format.proofs.KnownLaws.{frame_size, frame_count, data_framed, extras_framed}
use Rattle.octets.specs.Moves.{put}
use Rattle.octets.proofs.MoveLaws.{put_left, put_right, put-length, put_zeros, zeros_split}

-- ---- the encoding
module _ (p : Parts) (v : Valid p) where
  pub length_front : length (front_of p) ≡ leases_at
  unfolding front_of
  length_front = simp (length-append, length_digits, v.node_size_holds, v.enabler_size)

  pub length-head : length (head_of p) ≡ data_at
  unfolding head_of
  length-head = length-append (front_of p) _ ∙ rw (length_front, four_bytes p v)

  pub length-tail : length (tail_of p) ≡ tail_size (extras p.leases)
  unfolding tail_of
  length-tail = simp (length-append, length_digits, extra_bytes p v)

  pub used_view : used p ≡ count_in p + tail_size (extras p.leases)
  unfolding used
  used_view = omega (arith, used_is (count_in p) (extras p.leases))

-- Data with its slack, as they lie between head and count.
abbrev pub loose : List ℕ → ℕ → List ℕ
loose d n = d ++ replicate n 0

-- Bytes in the view of parts are the encoding of these parts.
pub laid_encoded : (p : Parts) (k : ℕ) (c : List ℕ)
    → Laid p.room (count_in p) k c (head_of p) (loose p.bytes p.slack) (tail_of p)
    → used p ≡ count_in p + k → c ≡ encode p
unfolding encode
laid_encoded p k c l e =
    l.is ∙ rw e (ap (λ (x : List ℕ). head_of p ++ x) (append_assoc p.bytes (replicate p.slack 0) _))

-- A well-formed container in the view of its own parts.
module _ (c : List ℕ) (f : Frame) (k : Known c f) where
  used_known : used (parts_of c) ≡ f.offset + tail_size f.extras
  unfolding parts_of
  used_known =
      used_view (parts_of c) (parts_valid c k.formed) ∙ rw (parts_count c k.formed, extras_framed k, frame_count k)

  tail_known : length (tail_of (parts_of c)) ≡ tail_size f.extras
  unfolding parts_of
  tail_known = length-tail (parts_of c) (parts_valid c k.formed) ∙ rw (extras_framed k)

  encoded_known : encode (parts_of c)
      ≡ head_of (parts_of c)
      ++ (loose (data_of c) (slack_of c)
      ++ (tail_of (parts_of c) ++ replicate (length c - (f.offset + tail_size f.extras)) 0))
  unfolding encode parts_of
  encoded_known =
      rw used_known
      (ap (λ (x : List ℕ). head_of (parts_of c) ++ x) (sym (append_assoc (data_of c) (replicate (slack_of c) 0) _)))

  pub formed_laid : Octets c
      → Laid (length c) f.offset (tail_size f.extras) c (head_of (parts_of c)) (loose (data_of c) (slack_of c))
      (tail_of (parts_of c))
  formed_laid o = record {
    is = sym (encode_parts c k.formed o) ∙ encoded_known;
    head = length-head (parts_of c) (parts_valid c k.formed);
    upto =
        rw (length-append (data_of c) (replicate (slack_of c) 0), data_framed k, length-replicate {A = ℕ} (slack_of c) 0)
        (omega (arith, slack_is c, frame_size k, frame_count k, (known_sized c f k).behind));
    tail = tail_known;
    fits = omega (arith, (known_sized c f k).fits);
  }

-- ---- changes
module _ {n o k : ℕ} {c h d t : List ℕ} (l : Laid n o k c h d t) where
  abbrev zeros : List ℕ
  zeros = replicate (n - (o + k)) 0

  pub laid_length : length c ≡ n
  laid_length =
      ap length l.is ∙ simp (length-append, length-replicate) (omega (arith, l.head, l.upto, l.tail, l.fits))

  -- bytes put into the head
  pub put-head : (at : ℕ) (r : List ℕ) → at + length r ≤ data_at → Laid n o k (put at r c) (put at r h) d t
  put-head at r e =
      let i : at + length r ≤ length h = omega (arith, l.head) in
      record {
        is = ap (put at r) l.is ∙ put_left at r h (d ++ (t ++ zeros)) i;
        head = put-length at r h i ∙ l.head;
        upto = l.upto;
        tail = l.tail;
        fits = l.fits;
      }

  -- bytes put into the tail, i bytes behind its beginning
  pub put-tail : (at i : ℕ) (r : List ℕ) → at ≡ o + i → i + length r ≤ k
      → Laid n o k (put at r c) h d (put i r t)
  put-tail at i r a e =
      let j : i + length r ≤ length t = omega (arith, l.tail) in
      record {
        is =
            ap (put at r) l.is
            ∙ put_right at (length d + i) r h (d ++ (t ++ zeros)) (omega (arith, l.head, l.upto))
            ∙ ap (λ (x : List ℕ). h ++ x)
            (put_right (length d + i) i r d (t ++ zeros) refl
            ∙ ap (λ (x : List ℕ). d ++ x) (put_left i r t zeros j));
        head = l.head;
        upto = l.upto;
        tail = put-length i r t j ∙ l.tail;
        fits = l.fits;
      }

  -- bytes put behind the tail make it longer
  pub put_behind : (at : ℕ) (r : List ℕ) → at ≡ o + k → o + (k + length r) ≤ n
      → Laid n o (k + length r) (put at r c) h d (t ++ r)
  put_behind at r a e =
      let m : ℕ = n - (o + (k + length r)) in
      let z : n - (o + k) ≡ length r + m = omega arith in
      record {
        is =
            ap (put at r) l.is
            ∙ put_right at (length d + k) r h (d ++ (t ++ zeros)) (omega (arith, l.head, l.upto))
            ∙ ap (λ (x : List ℕ). h ++ x)
            (put_right (length d + k) k r d (t ++ zeros) refl
            ∙ ap (λ (x : List ℕ). d ++ x)
            (put_right k 0 r t zeros (omega (arith, l.tail))
            ∙ ap (λ (x : List ℕ). t ++ x) (put_zeros (n - (o + k)) m r z)
            ∙ sym (append_assoc t r (replicate m 0))));
        head = l.head;
        upto = l.upto;
        tail = length-append t r ∙ omega (arith, l.tail);
        fits = e;
      }

  -- zeros at the end of the tail are no part of it
  pub tail_less : (j : ℕ) (u : List ℕ) → t ≡ u ++ replicate j 0 → j ≤ k → Laid n o (k - j) c h d u
  tail_less j u e g =
      let z : j + (n - (o + k)) ≡ n - (o + (k - j)) = omega (arith, l.fits) in
      let lu : length u + j ≡ k =
      sym (length-append u (replicate j 0) ∙ rw (length-replicate {A = ℕ} j 0)) ∙ sym (ap length e) ∙ l.tail in
      record {
        is =
            l.is
            ∙ ap (λ (x : List ℕ). h ++ (d ++ x))
            (ap (λ (x : List ℕ). x ++ zeros) e ∙ append_assoc u (replicate j 0) zeros
            ∙ ap (λ (x : List ℕ). u ++ x) (sym (zeros_split j (n - (o + k)))
            ∙ ap (λ (i : ℕ). replicate i 0) z));
        head = l.head;
        upto = l.upto;
        tail = omega arith;
        fits = omega (arith, l.fits);
      }
