-- The hash chain's node numbers, and the depth of a tree (docs/RULES.md, S26, S32, S33, S56).
use Rattle.std.specs.Prelude.{ℕ, zero, suc, ◌+◌, ◌*◌, Bool, true, cond, not, ◌&&◌, List, [], ◌∷◌, eqb, leb, ltb}
use Rattle.octets.specs.Numbers.{number_at}
use Rattle.share_format.specs.Header.{hash_size}
use Rattle.octets.specs.Lists.{any_of}

-- The depth of a tree over n leaves is the least c with 2^c >= n; n steps are enough to find it (S32, S56).
unfoldable pub depth_from : ℕ → ℕ → ℕ → ℕ → ℕ
depth_from zero c power n = c
depth_from (suc more) c power n = cond (leb n power) c (depth_from more (suc c) (2 * power) n)

unfoldable pub depth : ℕ → ℕ
depth n = depth_from n 0 1 n

-- 2^c.
unfoldable pub power : ℕ → ℕ
power zero = 1
power (suc c) = 2 * power c

-- An entry of the chain: a node number of 2 bytes, and its hash (S33).
abbrev pub chain_entry_size : ℕ
chain_entry_size = 2 + hash_size

-- The node numbers of n entries from p on (S33).
unfoldable pub nodes_from : ℕ → ℕ → List ℕ → List ℕ
nodes_from zero p s = []
nodes_from (suc n) p s = number_at 2 p s ∷ nodes_from n (p + chain_entry_size) s

-- No node number repeats, none is `top` or more (S26).
unfoldable pub nodes_ok : ℕ → List ℕ → Bool
nodes_ok top [] = true
nodes_ok top (x ∷ xs) = ltb x top && (not (any_of (eqb x) xs) && nodes_ok top xs)
