-- The lease places in the bytes of a well-formed container.
use Rattle.std.specs.Prelude.{ℕ, Bool, ◌&&◌, List, take, drop, Option, Some, None}
use Rattle.std.proofs.Math.Option.{none, some}
use Rattle.std.proofs.Math.Option.{Option as Maybe}
use Rattle.octets.specs.Strings.{same}
use Rattle.format.specs.Container.{held}
use Rattle.format.specs.Layout.{secret_size}

-- A lease whose token stands at `field`.
unfoldable pub has_token : ℕ → List ℕ → List ℕ → Bool
has_token field token r = held r && same (take secret_size (drop field r)) token

-- What the rules' search found, as the code says it.
abbrev pub found_of : Maybe ℕ → Option ℕ
found_of none = None
found_of (some i) = Some i
