-- Parts in order inside a slice, given by their boundaries, for any edition of a share.
use Rattle.std.specs.Prelude.{ℕ, suc, ◌+◌, ◌-◌, Bool, true, false, ◌&&◌, List, [], ◌∷◌, take, drop, get_or, leb}

-- Behind the boundary `a` stand as many as there are parts, each part with at least so many bytes (docs/RULES.md, S25).
unfoldable pub in_order : List ℕ → ℕ → List ℕ → Bool
in_order [] a [] = true
in_order [] a (b ∷ bs) = false
in_order (m ∷ ms) a [] = false
in_order (m ∷ ms) a (b ∷ bs) = leb (a + m) b && in_order ms b bs

-- Part i of a slice: from boundary i to boundary i + 1 (S34).
unfoldable pub part_of : ℕ → List ℕ → List ℕ → List ℕ
part_of i bs s = take (get_or bs (suc i) 0 - get_or bs i 0) (drop (get_or bs i 0) s)

-- The boundaries of parts of these lengths, packed tightly from `a` on: each begins where the one before ends (S41).
unfoldable pub packed : ℕ → List ℕ → List ℕ
packed a [] = a ∷ []
packed a (n ∷ ns) = a ∷ packed (a + n) ns
