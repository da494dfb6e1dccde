-- Rows 23 and 24, for both editions (docs/RULES.md, S23, S24, S54). Numbers do not wrap.
use Rattle.std.specs.Prelude.{ℕ, ◌%◌, Bool, true, false, not, ◌&&◌, eqb, leb, ltb}
use Rattle.share_format.specs.Header.{Edition}
use Rattle.share_format.specs.Parts.{least_multiple}

-- Row 23: k is neither 0 nor above N.
unfoldable pub coding_ok : ℕ → ℕ → Bool
coding_ok k n = ltb 0 k && leb k n

-- Row 24. SDMF: the least multiple of k at or above the data length. MDMF: a multiple of k, and 0 only without data.
unfoldable pub segment_ok : Edition → (segment k data_length : ℕ) → Bool
segment_ok false segment k data_length = eqb segment (least_multiple k data_length)
segment_ok true segment k data_length = eqb (segment % k) 0 && not (eqb segment 0 && ltb 0 data_length)
