-- The sweep: its outcome on a well-formed container, and that what it leaves obeys the rules. Assumes nothing.
use mathlib.Core.Path.{◌≡◌}
use mathlib.Core.Bool.{Bool, true, false, cond, not}
use mathlib.Core.List.{List, [], ◌∷◌, map}
use Prim.Native.Nat.{ℕ, ◌≤◌, ◌<◌}
use native.Mathlib.Omega.{arith}
use lib.ListN.{length, length-map}
use lib.Dec.{eqb}
use borrow.Author.Tests.{ne_eqb}
use Rattle.octets.specs.Facts.{Each}
use Rattle.octets.specs.Rows.{first_row}
use Rattle.format.specs.Container.{length_allowed, well_formed}
use Rattle.format.specs.Parts.{Parts, encode, no_lease}
use Rattle.format.specs.Claims.{Place, Valid}
use Rattle.format.proofs.RoundTrip.{encode_formed, no_lease_lem}
use Rattle.rules.specs.Leasing.{drop_tail}
use Rattle.rules.proofs.OutcomeLaws.{formed_length}
use Rattle.rules.proofs.Kept.{leases_kept, used_fewer, dropped_ordered, length_dropped}
use Rattle.upkeep_rules.specs.Sweeping.{expired, swept_place, swept, after_sweep, sweep_outcome, sweep_to, sweep_answer}

-- rows 1 and 2 do not apply to a well-formed container, and there is no other
pub sweep_formed : (c : List ℕ) → well_formed c ≡ true → sweep_outcome c ≡ 0
unfolding sweep_outcome first_row
sweep_formed c w = rw (formed_length c w, w)

pub sweep_encode : (p : Parts) → Valid p → sweep_outcome (encode p) ≡ 0
sweep_encode p v = sweep_formed (encode p) (encode_formed p v)

-- the numbers of a sweep end with 2
sweep_most : (c : List ℕ) → sweep_outcome c ≤ 2
unfolding sweep_outcome first_row
sweep_most c = go (not (length_allowed c)) (not (well_formed c))
  where
    go : (a b : Bool) → cond a 1 (cond b 2 0) ≤ 2
    go true b = omega arith
    go false true = omega arith
    go false false = omega arith

pub sweep_not : (c : List ℕ) (time k : ℕ) → 2 < k → eqb (sweep_answer c time).number k ≡ false
unfolding sweep_answer sweep_to
sweep_not c time k h = ne_eqb _ k (λ e. omega (arith, sweep_most c, e, h))

-- ---- the places stay in order
pub place_swept : (time : ℕ) (r : List ℕ) → Place r → Place (swept_place time r)
unfolding swept_place
place_swept time r p = go (expired time r)
  where
    go : (b : Bool) → Place (cond b no_lease r)
    go true = no_lease_lem
    go false = p

pub places_swept : (time : ℕ) (ls : List (List ℕ)) → Each Place ls → Each Place (map (swept_place time) ls)
places_swept time [] e = tt
places_swept time (r ∷ ls) e = (place_swept time r e.0, places_swept time ls e.1)

pub swept_valid : (time : ℕ) (p : Parts) → Valid p → Valid (after_sweep time p)
unfolding after_sweep swept
swept_valid time p v =
    let ls : List (List ℕ) = map (swept_place time) p.leases in
    let n : length ls ≡ length p.leases = length-map p.leases (swept_place time) in
    let d : length (drop_tail ls) ≤ length ls = length_dropped ls (omega (arith, v.four)) in
    leases_kept p (drop_tail ls) v
    (dropped_ordered ls (omega (arith, v.four)) (omega (arith, v.few)) (places_swept time p.leases v.places))
    (used_fewer p (drop_tail ls) v (omega arith))
