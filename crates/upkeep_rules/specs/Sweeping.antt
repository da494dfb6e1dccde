-- The sweep (docs/RULES.md, U5 to U9): leases that have expired are let go.
use Rattle.std.specs.Prelude.{ℕ, Bool, cond, ◌&&◌, List, map, eqb, ltb}
use Rattle.octets.specs.Rows.{first_row}
use Rattle.format.specs.Layout.{expiry_of}
use Rattle.format.specs.Container.{held, container_rows}
use Rattle.format.specs.Parts.{Parts, parts_of, encode, no_lease}
use Rattle.rules.specs.Leasing.{drop_tail, present}
use Rattle.rules.specs.Outcomes.{answer_of, no_node, with_leases}
use Rattle.rules.specs.declared.Answer.{Answer}

-- A lease has expired when its expiry is below the time; an expiry equal to the time lasts (U5).
unfoldable pub expired : ℕ → List ℕ → Bool
expired time r = held r && ltb (expiry_of r) time

-- The place of an expired lease becomes 92 zero bytes, any other stays (U6).
unfoldable pub swept_place : ℕ → List ℕ → List ℕ
swept_place time r = cond (expired time r) no_lease r

-- Every place so; then the empty extras at the tail are dropped (U6, U7, G10).
unfoldable pub swept : ℕ → List (List ℕ) → List (List ℕ)
swept time ls = drop_tail (map (swept_place time) ls)

-- Nothing but the leases changes: data, slack and the count's place stay (U7).
unfoldable pub after_sweep : ℕ → Parts → Parts
after_sweep time p = with_leases p (swept time p.leases)

-- The outcome's number: 1, 2, or done, whether or not a lease has expired (U8).
unfoldable pub sweep_outcome : List ℕ → ℕ
sweep_outcome c = first_row (container_rows c)

-- The answer with outcome n counts on 0 the leases that are left (U9).
unfoldable pub sweep_to : ℕ → ℕ → Parts → Answer
sweep_to n time p = answer_of n no_node (cond (eqb n 0) (present (after_sweep time p).leases) 0)

unfoldable pub sweep_answer : List ℕ → ℕ → Answer
sweep_answer c time = sweep_to (sweep_outcome c) time (parts_of c)

-- The container changes on 0 only (U8, O27).
unfoldable pub swept_container : List ℕ → ℕ → List ℕ
swept_container c time = cond (eqb (sweep_outcome c) 0) (encode (after_sweep time (parts_of c))) c
