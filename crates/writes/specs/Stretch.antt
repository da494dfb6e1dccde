-- The stretch that clearing and moving are lent, and what is known of a container after it.
use Rattle.std.specs.Prelude.{◌≡◌, List, ℕ, ◌+◌, ◌-◌, ◌≤◌, ◌<◌, length, take, drop, replicate, get_or}
use Rattle.format.specs.Layout.{extra_limit, data_at, limit, used_length}
use Rattle.format.specs.View.{Laid}
use Rattle.format.specs.Parts.{used, parts_of, encode}
use Rattle.format.specs.Judging.{resized_to, Known}
use Rattle.rules.specs.Outcomes.{with_bytes}
use Rattle.rules.specs.Stretch.{stretch_from, stretch_to}
use Rattle.format.specs.declared.layout.Frame.{Frame}

-- Where the data of a frame and its used bytes end.
abbrev pub data_end_of : Frame → ℕ
data_end_of w = data_at + w.size

abbrev pub used_end_of : Frame → ℕ
used_end_of w = used_length w.offset w.extras

-- What is lent beside frame w and a final size f, and the stretch that is claimed of the bytes before and after
-- (docs/RULES.md, W9). Where the count moves, all of the stretch is lent, from the old data end to the new used end;
-- where the data is cut, that of it which lies before the old data end.
pub record EndsOf (c e : List ℕ) (w : Frame) (f : ℕ) : Type 0 where
  pub moved : w.offset ≤ data_at + f → (data_end_of w ≡ stretch_from c e) × (used_end_of (resized_to w f) ≡ stretch_to c e)
  pub cut : f ≤ w.size → (data_end_of (resized_to w f) ≡ stretch_from c e) × (data_end_of w ≤ stretch_to c e)

-- Of every well-formed container and the encoding of its parts with other data, as `rewrite` leaves it.
abbrev pub LendsTheStretch : Type 0
LendsTheStretch =
    (c d : List ℕ) (w : Frame) → Known c w → used (with_bytes (parts_of c) d) ≤ length c
    → EndsOf c (encode (with_bytes (parts_of c) d)) w (length d)

-- Data of a frame with its slack, which is zeros, and f bytes in its place, both have room in c.
pub record Fits (w : Frame) (f : ℕ) (c : List ℕ) : Type 0 where
  pub behind : data_end_of w ≤ w.offset
  pub zeros : take (w.offset - data_end_of w) (drop (data_end_of w) c) ≡ replicate (w.offset - data_end_of w) 0
  pub before : used_end_of w ≤ length c
  pub after : used_end_of (resized_to w f) ≤ length c
  pub most : length c ≤ limit
  pub few : w.extras ≤ extra_limit

-- e has n bytes: the head h, bytes up to the count's place o and the tail t of k bytes. Each byte of them below place b
-- of the buffer is that of d, or zero past its end; the others are any bytes.
pub record Refit (n o k b : ℕ) (e h d t : List ℕ) : Type 0 where
  pub bytes : List ℕ
  pub first : (i : ℕ) → data_at + i < b → data_at + i < o → get_or bytes i 0 ≡ get_or d i 0
  pub laid : Laid n o k e h bytes t

-- c becomes e: the count goes from o to p, with what is before it below b kept or zero, and the tail of k bytes
-- follows.
pub record Refits (o p k b : ℕ) (c e : List ℕ) : Type 0 where
  pub turn : {n : ℕ} {h d t : List ℕ} → Laid n o k c h d t → Refit n p k b e h d t
