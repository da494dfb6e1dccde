-- What a lease request on a well-formed container answers and leaves, by the rules.
use Rattle.std.specs.Prelude.{ℕ, cond, List, ◌++◌, eqb, Result, Ok, Err}
use Rattle.format.specs.Parts.{Parts, parts_of, encode}
use Rattle.rules.specs.Requests.{Request}
use Rattle.octets.specs.Rows.{first_row}
use Rattle.rules.specs.Outcomes.{rows, room_rows, counted, after}
use Rattle.rules.specs.Refusals.{number_of}
use Rattle.rules.specs.declared.outcomes.Refusal.{Refusal}

-- The outcome of rows 9 to 11; a lease request has no reply, so its reply space does not matter.
unfoldable pub lease_outcome : Parts → Request → ℕ
lease_outcome p q = first_row (rows p q 0 ++ room_rows p q)

-- The outcome's number, and the leases present after the request where it is 0.
pub record Done : Type 0 where
  pub number : ℕ
  pub count : ℕ

-- What the code answers, as number and count.
abbrev pub done_of : Result ℕ Refusal → Done
done_of (Ok n) = record { number = 0; count = n }
done_of (Err e) = record { number = number_of e; count = 0 }

unfoldable pub lease_done : Parts → Request → Done
lease_done p q =
    record { number = lease_outcome p q; count = cond (eqb (lease_outcome p q) 0) (counted p q) 0 }

unfoldable pub lease_container : List ℕ → Request → List ℕ
lease_container c q = cond (eqb (lease_outcome (parts_of c) q) 0) (encode (after (parts_of c) q)) c
