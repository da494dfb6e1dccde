-- What judging a buffer answers, and what the code that goes on knows of the container.
use Rattle.std.specs.Prelude.{ℕ, ◌+◌, ◌≡◌, true, cond, List, Option, Some, None, Result, Ok, Err}
use Rattle.octets.specs.Rows.{first_row}
use Rattle.format.specs.Layout.{size_of, count_at, extras_of, moved_count}
use Rattle.format.specs.Container.{fields_ok, well_formed, container_rows}
use Rattle.format.specs.declared.layout.Frame.{Frame}
use Rattle.format.specs.declared.judging.Flaw.{Flaw}
use Rattle.format.specs.declared.judging.Flaw.TheVariants.{BadLength, Malformed}

-- What the code keeps of a well-formed container.
abbrev pub frame_of : List ℕ → Frame
frame_of c = record { size = size_of c; offset = count_at c; extras = extras_of c }

-- The frame with another size of the data, for which the count moves where it must, and with one more extra lease.
abbrev pub resized_to : Frame → ℕ → Frame
resized_to f n = record { size = n; offset = moved_count f.offset n; extras = f.extras }

abbrev pub with_extra : Frame → Frame
with_extra f = record { size = f.size; offset = f.offset; extras = f.extras + 1 }

-- What reading the fields answers: the frame where they agree.
abbrev pub fields_found : List ℕ → Option Frame
fields_found c = cond (fields_ok c) (Some (frame_of c)) None

-- The fields of c agree, and f is its frame.
pub record Framed (c : List ℕ) (f : Frame) : Type 0 where
  pub is : f ≡ frame_of c
  pub agree : fields_ok c ≡ true

-- The outcome's number for each flaw; for each case of the judgement, 0 for a well-formed container; and the frame that
-- comes with it.
abbrev pub flaw_number : Flaw → ℕ
flaw_number BadLength = 1
flaw_number Malformed = 2

abbrev pub judged_number : Result Frame Flaw → ℕ
judged_number (Ok f) = 0
judged_number (Err e) = flaw_number e

abbrev pub judged_frame : Result Frame Flaw → Option Frame
judged_frame (Ok f) = Some f
judged_frame (Err e) = None

-- Judging c answers j (docs/RULES.md, O1, O2).
pub record Judges (c : List ℕ) (j : Result Frame Flaw) : Type 0 where
  pub number : judged_number j ≡ first_row (container_rows c)
  pub frame : judged_frame j ≡ cond (well_formed c) (Some (frame_of c)) None

-- A well-formed container with its frame, for the code that goes on with it.
pub record Known (c : List ℕ) (f : Frame) : Type 0 where
  pub is : f ≡ frame_of c
  pub formed : well_formed c ≡ true
