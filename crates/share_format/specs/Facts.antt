-- Facts that hold between a share's parts, which functions hand to each other.
use Rattle.std.specs.Prelude.{ℕ, ◌+◌, ◌≤◌, ◌<◌, List, get_or}

-- Part i of these boundaries lies inside n bytes.
pub record PartInside (bs : List ℕ) (n i : ℕ) : Type 0 where
  pub rises : get_or bs i 0 ≤ get_or bs (i + 1) 0
  pub fits : get_or bs (i + 1) 0 ≤ n

-- Each of the seven parts does.
abbrev pub PartsInside : List ℕ → ℕ → Type 0
PartsInside bs n = (i : ℕ) → i < 7 → PartInside bs n i
