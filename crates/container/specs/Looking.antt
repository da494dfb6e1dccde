-- What a caller may ask of a container that is lent for reading only (docs/RULES.md, O28). The claim is proved in
-- proofs/LookingLaws.antt.
use Rattle.std.specs.Prelude.{ℕ, ◌≡◌, List, []}
use Rattle.std.proofs.Math.Option.{Option, none, some}
use Rattle.std.specs.Prelude.{Some, None}
use Rattle.std.specs.Prelude.{Option as Maybe}
use Rattle.requests.specs.Forms.{ReadRequest}
use Rattle.requests.specs.declared.forms.Table.{Table}
use Rattle.octets.specs.Facts.{Octets}
use Rattle.rules.specs.Requests.{Read, Request, test_write, add, renew, cancel, read, request_of}
use Rattle.rules.specs.Outcomes.{answered, container_after}

-- The bytes q of a read, and no byte in place of anything else (O28).
unfoldable pub read_bytes : Option Request → List ℕ → List ℕ
read_bytes none q = []
read_bytes (some (test_write k ts ws cut)) q = []
read_bytes (some (add r)) q = []
read_bytes (some (renew t x)) q = []
read_bytes (some (cancel t)) q = []
read_bytes (some (read rs)) q = q

-- The answer to the bytes q: the table of a read, or that they are no read.
abbrev pub Looks : List ℕ → Maybe Table → Type 0
Looks q None = read_bytes (request_of q) q ≡ []
Looks q (Some t) = ReadRequest q t

-- The request of a caller that may only read: a read as it is, and the empty request for any other bytes (O28).
unfoldable pub read_of : List ℕ → List ℕ
read_of q = read_bytes (request_of q) q

-- Reads lose nothing by a container that is lent so, and nothing else gets in (O28).
pub record ReadOnly (c q r : List ℕ) : Type 0 where
  -- every read passes
  pub passes : (rs : List Read) → request_of q ≡ some (read rs) → read_of q ≡ q
  -- whatever is no read counts as the empty request
  pub others : ((rs : List Read) → request_of q ≡ some (read rs) → ⊥) → read_of q ≡ []
  -- bytes that are no request at all are answered as they would be by a container that may be written
  pub broken : request_of q ≡ none → answered c (read_of q) r ≡ answered c q r
  -- applied to a container that may be written, it leaves it as it was, done or refused
  pub kept : Octets c → container_after c (read_of q) r ≡ c
