-- A container's bytes through the steps of the rewriting, in the view of format.
use Rattle.std.specs.Prelude.{◌≡◌, List, ◌++◌, map, ℕ, ◌-◌, ◌≤◌, take, drop, replicate}
use Rattle.octets.specs.Numbers.{digits}
use Rattle.octets.specs.Moves.{put}
use Rattle.format.specs.Layout.{size_width, size_at, offset_at, used_length, moved_count}
use Rattle.format.specs.View.{Laid}
use Rattle.rules.specs.Writing.{Placed, write_all}
use Rattle.rules.specs.Sizes.{final_size, clip}
use Rattle.requests.specs.Forms.{writes_in, cut_in}
use Rattle.format.specs.declared.layout.Frame.{Frame}
use Rattle.requests.specs.declared.forms.Parted.{Parted}

-- c becomes e: the head by H, data and slack up to the count's place o by D, which keeps their length, and the tail of
-- k bytes stays.
pub record Turns (o k : ℕ) (H D : List ℕ → List ℕ) (c e : List ℕ) : Type 0 where
  pub turn : {n : ℕ} {h d t : List ℕ} → Laid n o k c h d t → Laid n o k e (H h) (D d) t

abbrev pub kept : List ℕ → List ℕ
kept l = l

-- The head with another data size, and with another place of the count too.
unfoldable pub with_size : ℕ → List ℕ → List ℕ
with_size size h = put size_at (digits size_width size) h

unfoldable pub with_fields : ℕ → ℕ → List ℕ → List ℕ
with_fields size offset h = put offset_at (digits size_width offset) (with_size size h)

-- Writes go into the first f bytes of d, clipped to them.
unfoldable pub overlaid : List Placed → ℕ → List ℕ → List ℕ
overlaid ws f d = write_all (map (clip f) ws) (take f d) ++ drop f d

-- Of data with slack, d, the bytes from f up to s become zeros.
unfoldable pub freed : ℕ → ℕ → List ℕ → List ℕ
freed f s d = take f d ++ (replicate (s - f) 0 ++ drop s d)

-- f is the size of the data after the writes and the cut, and there is room for it in n bytes.
pub record Final (q : List ℕ) (t : Parted) (frame : Frame) (f n : ℕ) : Type 0 where
  pub size : f ≡ final_size (writes_in t q) (cut_in t.cut) frame.size
  pub fits : used_length (moved_count frame.offset f) frame.extras ≤ n
