-- What is claimed of lists (docs/RULES.md, D13, D14). Proved in proofs/Claims.antt.
use Rattle.std.specs.Prelude.{ℕ, suc, ◌+◌, ◌*◌, ◌≤◌, ◌<◌, ◌≡◌, true, List, [], ◌∷◌, ◌↔◌, length, get_or}
use Rattle.octets.specs.Facts.{Octets, Fits32}
use Rattle.rules.specs.Changes.{Change, size_after}
use Rattle.stretches.specs.Stretches.{Stretch, end_of, listed, stretches_after}
use Rattle.stretches.specs.List.{list_length, row_limit, rows_at, row_size, row_count, stretches_of, list_bytes, fresh_list}
use Rattle.stretches.specs.List.{list_ok}
use Rattle.stretches.specs.Unwritten.{unwritten}

-- A stretch is not empty, starts at `low` or above and ends at n or before (N3 to N5).
pub record InPlace (low : ℕ) (r : Stretch) (n : ℕ) : Type 0 where
  pub from : low ≤ r.start
  pub filled : 0 < r.count
  pub to : end_of r ≤ n

-- Each does, and the next starts above the end of the one before, so that none touch (N4).
abbrev pub Rising : ℕ → List Stretch → ℕ → Type 0
Rising low [] n = Unit {0}
Rising low (r ∷ rs) n = InPlace low r n × Rising (suc (end_of r)) rs n

-- The conditions of a good list beside data d, each by itself (N1 to N6).
pub record GoodList (l d : List ℕ) : Type 0 where
  pub long : length l ≡ list_length
  pub few : row_count l ≤ row_limit
  -- zeros behind the last row
  pub rest : (i : ℕ) → rows_at + row_size * row_count l ≤ i → get_or l i 0 ≡ 0
  pub rises : Rising 0 (stretches_of l) (length d)
  -- what is named is data, and zero
  pub inside : (i : ℕ) → listed (stretches_of l) i ≡ true → i < length d
  pub zeros : (i : ℕ) → listed (stretches_of l) i ≡ true → get_or d i 0 ≡ 0

-- The test and its conditions, of any bytes (D13).
pub record Judged (l d : List ℕ) : Type 0 where
  pub exactly : (list_ok l d ≡ true) ↔ GoodList l d

-- Stretches that a list can hold: at most 256, in order, inside data of fewer than 2^32 bytes.
pub record Storable (rs : List Stretch) (n : ℕ) : Type 0 where
  pub few : length rs ≤ row_limit
  pub rises : Rising 0 rs n
  pub fits : Fits32 n

-- The list and its parts, both ways (D13).
pub record ListRoundTrip (l d : List ℕ) (rs : List Stretch) (n : ℕ) : Type 0 where
  -- a good list can be told from its stretches, and these can be stored
  pub bytes_back : list_ok l d ≡ true → Octets l → list_bytes (stretches_of l) ≡ l
  pub parts_hold : list_ok l d ≡ true → Fits32 (length d) → Storable (stretches_of l) (length d)
  -- stretches that can be stored come back unchanged, from a list that is good beside any data that they name zeros of
  pub parts_back : Storable rs n → stretches_of (list_bytes rs) ≡ rs
  pub bytes_good : Storable rs (length d) → ((i : ℕ) → listed rs i ≡ true → get_or d i 0 ≡ 0) → list_ok (list_bytes rs) d ≡ true
  -- whatever is written out is bytes
  pub octets : Octets (list_bytes rs)
  -- stretches in order are determined by what they name
  pub determined : (other : List Stretch) → Rising 0 rs n → Rising 0 other n →
      ((i : ℕ) → listed rs i ≡ listed other i) → rs ≡ other
  -- no stretches are the list of zeros
  pub fresh : list_bytes [] ≡ fresh_list

-- Over any changes, from empty data and no stretches (D14): exactly what is zero for want of a write is named, in
-- order, and each change adds at most one stretch.
pub record Tracks (os : List Change) : Type 0 where
  pub exact : (i : ℕ) → listed (stretches_after os 0 []) i ≡ unwritten os i
  pub rises : Rising 0 (stretches_after os 0 []) (size_after os 0)
  pub few : length (stretches_after os 0 []) ≤ length os
