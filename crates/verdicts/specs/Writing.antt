-- What judging a test-and-write finds, and what committing it asks for.
use Rattle.std.specs.Prelude.{ℕ, ◌≡◌, cond, eqb, List, ◌++◌, length, Option, Some, None, Result, Ok, Err, ⊤}
use Rattle.octets.specs.Rows.{first_row}
use Rattle.format.specs.Parts.{Parts, parts_of}
use Rattle.format.specs.Judging.{Known}
use Rattle.rules.specs.Requests.{Request}
use Rattle.rules.specs.Outcomes.{after, reply_to, rows, room_rows}
use Rattle.rules.specs.Refusals.{number_of}
use Rattle.requests.specs.Forms.{PartedIn, write_in}
use Rattle.format.specs.declared.layout.Frame.{Frame}
use Rattle.rules.specs.declared.outcomes.Refusal.{Refusal}
use Rattle.requests.specs.declared.forms.Parted.{Parted}
use Rattle.verdicts.specs.declared.writing.Due.{Due}
use Rattle.verdicts.specs.declared.writing.Verdict.{Verdict}
use Rattle.verdicts.specs.declared.writing.Verdict.TheVariants.{TestFalse, Accepted}

-- What the rules say of a request: its number, the reply's length, the final size of the data.
pub record Judgement : Type 0 where
  pub number : ℕ
  pub reply : ℕ
  pub size : ℕ

-- Of a request on parts, beside a reply space of n bytes.
unfoldable pub verdict_of : Parts → Request → ℕ → Judgement
verdict_of p w n = record {
  number = first_row (rows p w n ++ room_rows p w);
  reply = length (reply_to p w);
  size = length (after p w).bytes;
}

-- Both lengths, whatever the number.
abbrev pub lengths_of : Judgement → Due
lengths_of j = record { reply = j.reply; size = j.size }

-- What is due by the lengths: nothing where row 4 applies, though `lengths_of` tells them there too.
abbrev pub due_of : Judgement → Option Due
due_of j = cond (eqb j.number 4) None (Some (lengths_of j))

-- The outcome's number for each case of a verdict.
abbrev pub verdict_number : Result Verdict Refusal → ℕ
verdict_number (Ok (TestFalse n)) = 8
verdict_number (Ok (Accepted d)) = 0
verdict_number (Err e) = number_of e

-- The lengths that come with it: the reply's on 8 and on 0, and on 0 the final size of the data.
abbrev pub Measures : Result Verdict Refusal → Judgement → Type 0
Measures (Ok (TestFalse n)) j = n ≡ j.reply
Measures (Ok (Accepted d)) j = (d.reply ≡ j.reply) × (d.size ≡ j.size)
Measures (Err e) j = ⊤

-- The verdict v tells what the rules say.
pub record Tells (v : Result Verdict Refusal) (j : Judgement) : Type 0 where
  pub number : verdict_number v ≡ j.number
  pub lengths : Measures v j

-- The test-and-write t of q is accepted on the container c, and d is what is due.
pub record Decided (c q : List ℕ) (f : Frame) (t : Parted) (d : Due) : Type 0 where
  pub known : Known c f
  pub parted : PartedIn q t
  pub space : ℕ
  pub number : (verdict_of (parts_of c) (write_in t q) space).number ≡ 0
  pub size : d.size ≡ (verdict_of (parts_of c) (write_in t q) space).size
