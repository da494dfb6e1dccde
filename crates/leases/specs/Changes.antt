-- What a change to the lease places leaves.
use Rattle.std.specs.Prelude.{List, ℕ}
use Rattle.format.specs.Parts.{parts_of, encode}
use Rattle.rules.specs.Outcomes.{with_leases}

-- A container's bytes with other lease places; all else is kept.
abbrev pub leased_as : List ℕ → List (List ℕ) → List ℕ
leased_as c ls = encode (with_leases (parts_of c) ls)
