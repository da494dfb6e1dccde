-- What the depth of a tree and rounding up mean (docs/RULES.md, S32, S55), proved in proofs/.
use Rattle.std.specs.Prelude.{ℕ, ◌*◌, ◌≤◌, ◌<◌}
use Rattle.share_contents.specs.Nodes.{depth, power}
use Rattle.share_contents.specs.Contents.{rounded_up}

-- The depth of the tree over n leaves is the least c with n at most 2^c (S32, S56).
abbrev pub DepthIsLeast : Type 0
DepthIsLeast = (n : ℕ) → (n ≤ power (depth n)) × ((c : ℕ) → n ≤ power c → depth n ≤ c)

-- n / k rounded up is the least number of which k times reaches n (S55).
abbrev pub RoundedIsLeast : Type 0
RoundedIsLeast = (n k : ℕ) → 0 < k → (n ≤ rounded_up n k * k) × ((q : ℕ) → n ≤ q * k → rounded_up n k ≤ q)
