-- Lease requests (docs/RULES.md, G1 to G12), over the lease places in order: the four, then the extras.
use Rattle.std.specs.Prelude.{ℕ, suc, ◌+◌, max, Bool, cond, not, ◌&&◌, List, [], ◌∷◌, ◌++◌, take, drop, get_or, set}
use Rattle.std.proofs.Math.Option.{Option, none, some}
use Rattle.octets.specs.Numbers.{digits}
use Rattle.octets.specs.Strings.{same}
use Rattle.format.specs.Container.{held}
use Rattle.format.specs.Layout.{expiry_of, renewal_of, cancel_of, expiry_at, fixed_places, renewal_at}
use Rattle.format.specs.Parts.{no_lease}
use Rattle.octets.specs.Lists.{is_some, maybe}

-- A record with owner 0 matches no token (G1).
unfoldable pub renewed_by : List ℕ → List ℕ → Bool
renewed_by token r = held r && same (renewal_of r) token

unfoldable pub cancelled_by : List ℕ → List ℕ → Bool
cancelled_by token r = held r && same (cancel_of r) token

unfoldable pub vacant : List ℕ → Bool
vacant r = not (held r)

-- The first place that passes a test, counted from 0 (G2).
unfoldable pub first_of : (List ℕ → Bool) → List (List ℕ) → Option ℕ
first_of test [] = none
first_of test (r ∷ rs) = cond (test r) (some 0) (maybe none (λ i. some (suc i)) (first_of test rs))

-- The lease keeps the later of the two expiries, and nothing else changes (G4, G7).
unfoldable pub later : ℕ → List ℕ → List ℕ
later x r = take expiry_at r ++ (digits 4 (max (expiry_of r) x) ++ drop renewal_at r)

unfoldable pub extended : ℕ → List (List ℕ) → ℕ → List (List ℕ)
extended x ls i = set ls i (later x (get_or ls i []))

-- A record goes to the first empty place, else to a new extra (G5).
unfoldable pub placed_in : List ℕ → List (List ℕ) → List (List ℕ)
placed_in r ls = maybe (ls ++ (r ∷ [])) (λ i. set ls i r) (first_of vacant ls)

-- Empty extras at the tail are dropped (G10).
unfoldable pub with_last : List ℕ → List (List ℕ) → List (List ℕ)
with_last r [] = cond (held r) (r ∷ []) []
with_last r (s ∷ rs) = r ∷ (s ∷ rs)

unfoldable pub trim : List (List ℕ) → List (List ℕ)
trim [] = []
trim (r ∷ rs) = with_last r (trim rs)

unfoldable pub drop_tail : List (List ℕ) → List (List ℕ)
drop_tail ls = take fixed_places ls ++ trim (drop fixed_places ls)

-- Add: a known renewal token keeps the later expiry; otherwise the record is placed (G4, G5).
unfoldable pub added : List ℕ → List (List ℕ) → List (List ℕ)
added r ls = maybe (placed_in r ls) (extended (expiry_of r) ls) (first_of (renewed_by (renewal_of r)) ls)

-- Renew: the first lease with that token keeps the later expiry (G7).
unfoldable pub renewed : List ℕ → ℕ → List (List ℕ) → List (List ℕ)
renewed token x ls = maybe ls (extended x ls) (first_of (renewed_by token) ls)

-- Cancel: the first lease with that cancel token becomes zero bytes; the empty tail is dropped (G9 to G11).
unfoldable pub cancelled : List ℕ → List (List ℕ) → List (List ℕ)
cancelled token ls = maybe ls (λ i. drop_tail (set ls i no_lease)) (first_of (cancelled_by token) ls)

-- Whether some lease has the token, and how many leases there are (G8, G12, O25).
unfoldable pub knows : (List ℕ → Bool) → List (List ℕ) → Bool
knows test ls = is_some (first_of test ls)

unfoldable pub present : List (List ℕ) → ℕ
present [] = 0
present (r ∷ rs) = cond (held r) 1 0 + present rs
