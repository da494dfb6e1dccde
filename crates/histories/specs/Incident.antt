-- The incident: bytes from before a cut showed up again inside a later gap. What is claimed against it, over whole
-- histories (docs/RULES.md, D4). Proved in proofs/Incident.antt.
use Rattle.std.specs.Prelude.{ℕ, ◌+◌, ◌≤◌, ◌<◌, ◌≡◌, true, false, List, [], ◌∷◌, ◌++◌, map, length, get_or, drop, ℤ, negsuc}
use Rattle.std.proofs.Math.Option.{none, some}
use Rattle.format.specs.Container.{well_formed}
use Rattle.format.specs.Layout.{data_of}
use Rattle.octets.specs.Facts.{Each, Octets}
use Rattle.octets.specs.Strings.{join}
use Rattle.rules.specs.Requests.{Test, Write, test_write, request_of}
use Rattle.rules.specs.Testing.{resolve, piece}
use Rattle.rules.specs.Changes.{Change, writes_at, byte_after}
use Rattle.rules.specs.Outcomes.{create_outcome, created_container}
use Rattle.histories.specs.Runs.{Call, hears, leaves, answers, final}
use Rattle.histories.specs.Accepted.{accepted}

-- On container bytes c the call is a test-and-write that is done, and cuts to the new length m.
pub record Cuts (x : Call) (c : List ℕ) (m : ℕ) : Type 0 where
  pub enabler : List ℕ
  pub tests : List Test
  pub writes : List Write
  pub asks : request_of x.request ≡ some (test_write enabler tests writes (some m))
  pub done : (hears x c).answer.number ≡ 0

-- The accepted writes and cuts of the calls h, the first of them on container bytes c.
abbrev pub later_changes : List Call → List ℕ → List Change
later_changes h c = accepted h (answers hears leaves h c) (length (data_of c))

-- A change that writes no byte at place i.
abbrev pub Untouched : ℕ → Change → Type 0
Untouched i o = writes_at i o ≡ false

-- The container after the calls `before` and x on container bytes c, and after the calls `after` too.
abbrev pub middle : List ℕ → List Call → Call → List ℕ
middle c before x = final leaves (before ++ (x ∷ [])) c

abbrev pub end : List ℕ → List Call → Call → List Call → List ℕ
end c before x after = final leaves ((before ++ (x ∷ [])) ++ after) c

-- In the end nothing from before x shows at or above place m (D4).
pub record Forgets (c : List ℕ) (before : List Call) (x : Call) (after : List Call) (m : ℕ) : Type 0 where
  -- each data byte is what the calls after x put there, otherwise zero
  pub bytes : (i : ℕ) → m ≤ i →
      get_or (data_of (end c before x after)) i 0 ≡ byte_after (later_changes after (middle c before x)) i
  -- so is each byte that a read of n bytes gives whose offset o names the position p
  pub reads : (o : ℤ) (p n j : ℕ) → resolve o (length (data_of (end c before x after))) ≡ some p → j < n → m ≤ p + j →
      get_or (piece (data_of (end c before x after)) o n) j 0
      ≡ byte_after (later_changes after (middle c before x)) (p + j)
  -- a place that none of those calls wrote holds zero
  pub zeros : (i : ℕ) → m ≤ i → Each (Untouched i) (later_changes after (middle c before x)) →
      get_or (data_of (end c before x after)) i 0 ≡ 0
  -- right after x there are at most m bytes
  pub short : length (data_of (middle c before x)) ≤ m

-- On container bytes c the call is a test-and-write that is done, writes at -1 alone, all of it the bytes bs, and does
-- not cut.
pub record Appends (y : Call) (c bs : List ℕ) : Type 0 where
  pub enabler : List ℕ
  pub tests : List Test
  pub writes : List Write
  pub asks : request_of y.request ≡ some (test_write enabler tests writes none)
  pub at_end : Each (λ w. w.offset ≡ negsuc 0) writes
  pub bytes : bs ≡ join (map (λ w. w.bytes) writes)
  pub done : (hears y c).answer.number ≡ 0

-- In the end, after a call y that appends bs (D4).
pub record ForgetsAppend (c : List ℕ) (before : List Call) (x : Call) (after : List Call) (y : Call) (m : ℕ)
    (bs : List ℕ) : Type 0 where
  -- the data is what it was before y, with bs behind it and no byte between
  pub behind : data_of (end c before x (after ++ (y ∷ []))) ≡ data_of (end c before x after) ++ bs
  -- where nothing came between x and y, and x left m bytes, bs stands at m, and nothing behind it
  pub at_cut : after ≡ [] → length (data_of (middle c before x)) ≡ m →
      drop m (data_of (end c before x (after ++ (y ∷ [])))) ≡ bs
  -- nothing from before x shows at or above m: there is what the calls after x put there, y among them, otherwise zero
  pub forgets : Forgets c before x (after ++ (y ∷ [])) m

-- The incident cannot happen again: in every history from a fresh container, whatever comes before an accepted cut to m
-- and whatever comes after it (D4).
pub record Incident (b node enabler : List ℕ) : Type 0 where
  pub forgets : create_outcome b node enabler ≡ 0 → (before : List Call) (x : Call) (after : List Call) (m : ℕ) →
      Cuts x (final leaves before (created_container b node enabler)) m →
      Forgets (created_container b node enabler) before x after m
  -- nor with an append at the end of it
  pub appends : create_outcome b node enabler ≡ 0 → (before : List Call) (x : Call) (after : List Call) (y : Call)
      (m : ℕ) (bs : List ℕ) → Cuts x (final leaves before (created_container b node enabler)) m →
      Appends y (end (created_container b node enabler) before x after) bs →
      ForgetsAppend (created_container b node enabler) before x after y m bs

-- Nor in one from any well-formed container made of bytes (D4).
pub record IncidentInUse (c : List ℕ) : Type 0 where
  pub forgets : well_formed c ≡ true → Octets c → (before : List Call) (x : Call) (after : List Call) (m : ℕ) →
      Cuts x (final leaves before c) m → Forgets c before x after m
  pub appends : well_formed c ≡ true → Octets c → (before : List Call) (x : Call) (after : List Call) (y : Call) (m : ℕ)
      (bs : List ℕ) → Cuts x (final leaves before c) m → Appends y (end c before x after) bs →
      ForgetsAppend c before x after y m bs
