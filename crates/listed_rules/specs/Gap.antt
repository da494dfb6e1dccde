-- The incident, and the list: after an accepted cut, a later write past the end lists exactly the gap (docs/RULES.md,
-- D16). Proved in proofs/Gap.antt.
use Rattle.std.specs.Prelude.{ℕ, ◌≤◌, ◌<◌, ◌≡◌, Bool, false, ◌||◌, List, [], ◌∷◌, ◌++◌, length, ℤ}
use Rattle.std.proofs.Math.Option.{none, some}
use Rattle.format.specs.Layout.{data_of}
use Rattle.rules.specs.Requests.{Test, Write, test_write, request_of}
use Rattle.rules.specs.Testing.{resolve}
use Rattle.rules.specs.Changes.{within}
use Rattle.rules.specs.Outcomes.{create_outcome}
use Rattle.histories.specs.Runs.{answers, final}
use Rattle.histories.specs.Accepted.{accepted}
use Rattle.stretches.specs.Stretches.{listed}
use Rattle.stretches.specs.List.{stretches_of}
use Rattle.listed_rules.specs.Runs.{Slot, Sent, hears_in, leaves_in, WritesThrough, calls_of}
use Rattle.listed_rules.specs.Histories.{fresh_slot}

-- On slot s the call is a test-and-write that is done, and cuts to the new length m.
pub record CutsIn (x : Sent) (s : Slot) (m : ℕ) : Type 0 where
  pub enabler : List ℕ
  pub tests : List Test
  pub writes : List Write
  pub asks : request_of x.call.request ≡ some (test_write enabler tests writes (some m))
  pub done : (hears_in x s).answer.number ≡ 0

-- On slot s the call is a test-and-write that is done, does not cut, and makes one write, of bytes, at the position p
-- past the end.
pub record WritesPast (y : Sent) (s : Slot) (p : ℕ) : Type 0 where
  pub enabler : List ℕ
  pub tests : List Test
  pub offset : ℤ
  pub bytes : List ℕ
  pub asks : request_of y.call.request
      ≡ some (test_write enabler tests (record { offset = offset; bytes = bytes } ∷ []) none)
  pub some_bytes : 0 < length bytes
  pub at : resolve offset (length (data_of s.container)) ≡ some p
  pub past : length (data_of s.container) < p
  pub done : (hears_in y s).answer.number ≡ 0

-- The slot after the calls h.
abbrev pub after : List Sent → Slot → Slot
after h s = final leaves_in h s

-- None of the calls h on slot s is a write or a cut that is accepted.
abbrev pub Quiet : List Sent → Slot → Type 0
Quiet h s = accepted (calls_of h) (answers hears_in leaves_in h s) (length (data_of s.container)) ≡ []

-- Whether the list of slot s names position i.
abbrev pub lists : Slot → ℕ → Bool
lists s i = listed (stretches_of s.list) i

-- Of a cut to m, the slot `cut` right after it, a write at p past the end, and the slot `last` right after that.
pub record GapAlone (m p : ℕ) (cut last : Slot) : Type 0 where
  -- the cut leaves at most m bytes, and nothing is listed at or behind their end, whatever was listed before it
  pub short : length (data_of cut.container) ≤ m
  pub none_behind : (i : ℕ) → length (data_of cut.container) ≤ i → lists cut i ≡ false
  -- then exactly the gap is listed, from that end up to p, beside what the cut left of the list
  pub gap : (i : ℕ) → lists last i ≡ (lists cut i || within (length (data_of cut.container)) p i)

-- Of every history from a fresh container and a list of zeros (D16).
pub record GapListed (b node enabler : List ℕ) : Type 0 where
  -- a write past the end adds exactly the gap, from the size before it up to its position
  pub added : create_outcome b node enabler ≡ 0 → (h : List Sent) (y : Sent) (p : ℕ) → WritesThrough (h ++ (y ∷ [])) →
      WritesPast y (after h (fresh_slot b node enabler)) p → (i : ℕ) →
      lists (after (h ++ (y ∷ [])) (fresh_slot b node enabler)) i
      ≡ (lists (after h (fresh_slot b node enabler)) i
      || within (length (data_of (after h (fresh_slot b node enabler)).container)) p i)
  -- so after an accepted cut and a later write past the end, with nothing accepted between, exactly the gap is listed
  pub exactly : create_outcome b node enabler ≡ 0 → (h : List Sent) (x : Sent) (m : ℕ) (between : List Sent) (y : Sent)
      (p : ℕ) → WritesThrough (((h ++ (x ∷ [])) ++ between) ++ (y ∷ [])) →
      CutsIn x (after h (fresh_slot b node enabler)) m →
      Quiet between (after (h ++ (x ∷ [])) (fresh_slot b node enabler)) →
      WritesPast y (after ((h ++ (x ∷ [])) ++ between) (fresh_slot b node enabler)) p →
      GapAlone m p (after (h ++ (x ∷ [])) (fresh_slot b node enabler))
      (after (((h ++ (x ∷ [])) ++ between) ++ (y ∷ [])) (fresh_slot b node enabler))
