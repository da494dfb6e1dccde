-- Histories of a slot with its list (docs/RULES.md, N15). A test-and-write goes by way of the list; reads and lease
-- requests may go to the container directly.
use Rattle.std.specs.Prelude.{ℕ, ◌≡◌, Bool, true, cond, List, map, ◌++◌, length, eqb}
use Rattle.std.proofs.Math.Option.{Option}
use Rattle.octets.specs.Facts.{Each}
use Rattle.octets.specs.Moves.{put}
use Rattle.octets.specs.Rows.{first_row}
use Rattle.format.specs.Parts.{Parts}
use Rattle.rules.specs.Requests.{kind_of, request_of}
use Rattle.rules.specs.Outcomes.{request_rows, replies, answer_to, after_of, reply_bytes}
use Rattle.histories.specs.Runs.{Call, Heard, hears, leaves, names, rule_hears, rule_leaves}
use Rattle.stretches.specs.Stretches.{Stretch}
use Rattle.listed_rules.specs.Outcomes.{next_stretches, many_rows, answered_beside, container_beside, list_after}
use Rattle.listed_rules.specs.Outcomes.{reply_beside}

-- A slot: container bytes and the bytes of its list.
pub record Slot : Type 0 where
  pub container : List ℕ
  pub list : List ℕ

-- A call, and whether it goes to the container directly, past the list (N15).
pub record Sent : Type 0 where
  pub call : Call
  pub direct : Bool

-- What it hears and leaves: directly, what the container by itself gives, and the list stays (N15).
unfoldable pub hears_in : Sent → Slot → Heard
hears_in x s = cond x.direct (hears x.call s.container) (record {
  answer = answered_beside s.container s.list x.call.request x.call.space;
  reply = reply_beside s.container s.list x.call.request x.call.space;
})

unfoldable pub leaves_in : Sent → Slot → Slot
leaves_in x s =
    cond x.direct (record { container = leaves x.call s.container; list = s.list })
    (record {
      container = container_beside s.container s.list x.call.request x.call.space;
      list = list_after s.container s.list x.call.request x.call.space;
    })

-- The positions that the offsets of its request name (T1).
unfoldable pub names_in : Sent → Slot → List (Option ℕ)
names_in x s = names x.call s.container

-- No test-and-write goes past the list (N15).
abbrev pub WritesThrough : List Sent → Type 0
WritesThrough h = Each (λ x. x.direct ≡ true → kind_of x.call.request ≡ 1 → ⊥) h

-- The calls alone.
abbrev pub calls_of : List Sent → List Call
calls_of h = map (λ x. x.call) h

-- What the rules give for parts and stretches alone, computed with no container and no list bytes (H8, N15).
pub record SlotParts : Type 0 where
  pub parts : Parts
  pub stretches : List Stretch

unfoldable pub rule_outcome_beside : Call → SlotParts → ℕ
rule_outcome_beside x s = first_row
    (request_rows s.parts (request_of x.request) (length x.space)
    ++ many_rows s.parts (request_of x.request) s.stretches)

unfoldable pub rule_hears_in : Sent → SlotParts → Heard
rule_hears_in x s = cond x.direct (rule_hears x.call s.parts) (record {
  answer = answer_to (rule_outcome_beside x.call s) s.parts (request_of x.call.request);
  reply = cond (replies (rule_outcome_beside x.call s))
      (put 0 (reply_bytes s.parts (request_of x.call.request)) x.call.space)
      x.call.space;
})

unfoldable pub rule_leaves_in : Sent → SlotParts → SlotParts
rule_leaves_in x s =
    cond x.direct (record { parts = rule_leaves x.call s.parts; stretches = s.stretches })
    (cond (eqb (rule_outcome_beside x.call s) 0)
    (record {
      parts = after_of s.parts (request_of x.call.request);
      stretches = next_stretches s.parts (request_of x.call.request) s.stretches;
    })
    s)
