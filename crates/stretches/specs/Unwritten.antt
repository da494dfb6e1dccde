-- Which data is zero for want of a write, from the accepted changes alone (docs/RULES.md, N16). Beside `says`, by which
-- a byte is told, stands `marks`, by which it is told whether anybody wrote it.
use Rattle.std.specs.Prelude.{ℕ, ◌≤◌, ◌<◌, ◌≡◌, Bool, true, false, cond, not, ◌&&◌, List, [], ◌∷◌, ◌++◌, ◌↔◌, ◌⊎◌, length, leb, ltb}
use Rattle.std.proofs.Math.Option.{Option, none, some}
use Rattle.octets.specs.Facts.{Each}
use Rattle.octets.specs.Last.{last_said}
use Rattle.octets.specs.Lists.{is_some, or_else}
use Rattle.rules.specs.Changes.{covers, Change, wrote, cut_at, writes_at, size_after, says, byte_after}

-- Whether a change leaves position i written: a write over it does, a cut at or below it does not, any other says
-- nothing (N16).
unfoldable pub marks : ℕ → Change → Option Bool
marks i (wrote at bs) = cond (covers at (length bs) i) (some true) none
marks i (cut_at m) = cond (leb m i) (some false) none

-- Position i is data, and the last change that says anything of it, if any, is no write (N16).
unfoldable pub unwritten : List Change → ℕ → Bool
unwritten os i = ltb i (size_after os 0) && not (or_else (last_said (marks i) os) false)

-- ---- the same in the words of demand 3
-- Whether a change is a cut at or below position i (H12).
abbrev pub cuts_at : ℕ → Change → Bool
cuts_at i (wrote at bs) = false
cuts_at i (cut_at m) = leb m i

-- The changes end in a cut at or below position i.
pub record EndsInCut (os : List Change) (i : ℕ) : Type 0 where
  pub earlier : List Change
  pub to : ℕ
  pub is : os ≡ earlier ++ (cut_at to ∷ [])
  pub at_or_below : to ≤ i

-- Since the last cut at or below position i, or the start where there is none, no write has covered it (H12, N16).
pub record NoWriteSince (os : List Change) (i : ℕ) : Type 0 where
  pub before : List Change
  pub since : List Change
  pub split : os ≡ before ++ since
  pub from : (before ≡ []) ⊎ EndsInCut before i
  pub no_cut : Each (λ o. cuts_at i o ≡ false) since
  pub no_write : Each (λ o. writes_at i o ≡ false) since

-- What `unwritten` means, of any changes and position. Proved in proofs/UnwrittenLaws.antt.
pub record Unwritten (os : List Change) (i : ℕ) : Type 0 where
  -- below the size, and no write since the last cut at or below
  pub means : (unwritten os i ≡ true) ↔ ((i < size_after os 0) × NoWriteSince os i)
  -- `marks` speaks of the same changes as `says`
  pub speaks : Each (λ o. is_some (marks i o) ≡ is_some (says i o)) os
  -- so that the byte there is zero
  pub is_zero : unwritten os i ≡ true → byte_after os i ≡ 0
