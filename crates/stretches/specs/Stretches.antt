-- Stretches of data that nobody wrote, in rising order, and what writes and cuts make of them (docs/RULES.md, N3 to N5,
-- N9 to N12).
use Rattle.std.specs.Prelude.{ℕ, zero, suc, ◌+◌, ◌-◌, min, max, Bool, true, false, cond, ◌&&◌, ◌||◌, List, [], ◌∷◌, ◌++◌, length, eqb, leb, ltb}
use Rattle.rules.specs.Changes.{covers, Change, wrote, cut_at, size_by}

-- A stretch: its first position, and how many positions it has (N3).
pub record Stretch : Type 0 where
  pub start : ℕ
  pub count : ℕ

abbrev pub stretch : ℕ → ℕ → Stretch
stretch a k = record { start = a; count = k }

-- The first position behind it.
abbrev pub end_of : Stretch → ℕ
end_of r = r.start + r.count

-- Whether some stretch names position i.
unfoldable pub listed : List Stretch → ℕ → Bool
listed [] i = false
listed (r ∷ rs) i = covers r.start r.count i || listed rs i

-- Each starts at `low` or above, is not empty and ends at n or before; the next starts above its end, so that none
-- touch (N3 to N5).
unfoldable pub rising : ℕ → List Stretch → ℕ → Bool
rising low [] n = true
rising low (r ∷ rs) n = leb low r.start && (ltb 0 r.count && (leb (end_of r) n && rising (suc (end_of r)) rs n))

-- The positions from a up to e, without e, as one stretch; no stretch where there are none.
unfoldable pub between : ℕ → ℕ → List Stretch
between a e = cond (ltb a e) (stretch a (e - a) ∷ []) []

-- What the stretches name below m, and what they name from m on.
unfoldable pub below : ℕ → List Stretch → List Stretch
below m [] = []
below m (r ∷ rs) = between r.start (min m (end_of r)) ++ below m rs

unfoldable pub above : ℕ → List Stretch → List Stretch
above m [] = []
above m (r ∷ rs) = between (max m r.start) (end_of r) ++ above m rs

-- The stretches with the gap from n up to e behind them: one that ends at n is made longer (N10).
unfoldable pub joined : ℕ → ℕ → List Stretch → List Stretch
joined n e [] = stretch n (e - n) ∷ []
joined n e (r ∷ rs) = cond (eqb (end_of r) n) (stretch r.start (e - r.start) ∷ rs) (r ∷ joined n e rs)

-- A write at a position past the size n leaves a gap (N10).
unfoldable pub gapped : ℕ → ℕ → List Stretch → List Stretch
gapped n at rs = cond (ltb n at) (joined n at rs) rs

-- After a write of k bytes on data of size n: the gap is added, what is written is taken out; an empty write does
-- nothing (N10, N11).
unfoldable pub written_over : ℕ → ℕ → ℕ → List Stretch → List Stretch
written_over n at zero rs = rs
written_over n at (suc k) rs = below at (gapped n at rs) ++ above (at + suc k) (gapped n at rs)

-- After one change, and after changes in order, from data of size n on (N9, N12).
unfoldable pub stretches_by : Change → ℕ → List Stretch → List Stretch
stretches_by (wrote at bs) n rs = written_over n at (length bs) rs
stretches_by (cut_at m) n rs = below m rs

unfoldable pub stretches_after : List Change → ℕ → List Stretch → List Stretch
stretches_after [] n rs = rs
stretches_after (o ∷ os) n rs = stretches_after os (size_by o n) (stretches_by o n rs)
