-- What the storing of a header asks for.
use Rattle.std.specs.Prelude.{ℕ, List, get_or}
use Rattle.octets.specs.Facts.{Fits32}

-- SDMF's first four offsets fit their fields.
pub record NarrowOffsets (bounds : List ℕ) : Type 0 where
  pub signature : Fits32 (get_or bounds 1 0)
  pub chain : Fits32 (get_or bounds 2 0)
  pub tree : Fits32 (get_or bounds 3 0)
  pub share_data : Fits32 (get_or bounds 4 0)
