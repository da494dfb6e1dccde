-- A container's bytes as the code that changes them sees them: head, data with its slack, tail, zeros; and where each
-- lease place stands.
use Rattle.std.specs.Prelude.{ℕ, ◌+◌, ◌-◌, ◌*◌, ◌≤◌, ◌≡◌, cond, List, ◌++◌, length, replicate, ltb}
use Rattle.format.specs.Layout.{leases_at, data_at, extras_at, count_size, record_size, fixed_places}

-- The size of the tail, count and e extra leases.
abbrev pub tail_size : ℕ → ℕ
tail_size e = count_size + record_size * e

-- c has n bytes: a head h, data and slack d up to the count's place o, a tail t of k bytes, and zeros.
pub record Laid (n o k : ℕ) (c h d t : List ℕ) : Type 0 where
  pub is : c ≡ h ++ (d ++ (t ++ replicate (n - (o + k)) 0))
  pub head : length h ≡ data_at
  pub upto : data_at + length d ≡ o
  pub tail : length t ≡ k
  pub fits : o + k ≤ n

-- Where lease place i begins with the count at o: the four, then the extras behind the count (docs/RULES.md, C14).
unfoldable pub place_at : ℕ → ℕ → ℕ
place_at o i =
    cond (ltb i fixed_places) (leases_at + record_size * i) (extras_at o + record_size * (i - fixed_places))
