-- What is claimed of histories of a slot with its list (demand 3; docs/RULES.md, D14, D15). Proved in
-- proofs/Demand3.antt.
use Rattle.std.specs.Prelude.{ℕ, ◌≡◌, Bool, true, cond, List, [], length, eqb}
use Rattle.format.specs.Container.{well_formed}
use Rattle.format.specs.Layout.{data_of, leases_of}
use Rattle.format.specs.Parts.{encode, fresh}
use Rattle.rules.specs.Outcomes.{create_outcome, created_container}
use Rattle.histories.specs.Runs.{Heard, answers, final, is_lease, is_data, beside, Never, Woven}
use Rattle.histories.specs.Accepted.{accepted}
use Rattle.histories.specs.Claims.{Told}
use Rattle.stretches.specs.Stretches.{listed}
use Rattle.stretches.specs.List.{stretches_of, list_bytes, fresh_list}
use Rattle.stretches.specs.Claims.{GoodList}
use Rattle.stretches.specs.Unwritten.{unwritten, Unwritten}
use Rattle.listed_rules.specs.Runs.{Slot, Sent, hears_in, leaves_in, names_in, WritesThrough, calls_of, SlotParts, rule_hears_in}
use Rattle.listed_rules.specs.Runs.{rule_leaves_in}

-- Whether 'the list is not good' (16) is heard; whether 'no room' (11) or 'too many rows' (13) is.
unfoldable pub bad_list : Heard → Bool
bad_list a = eqb a.answer.number 16

unfoldable pub no_place : Heard → Bool
no_place a = cond (eqb a.answer.number 11) true (eqb a.answer.number 13)

-- After a history on a slot with empty data and no stretches (D14).
pub record ListTold (h : List Sent) (s : Slot) : Type 0 where
  -- a position is listed exactly when it is data and no accepted write has covered it since the last accepted cut at or
  -- below it
  pub exact : (i : ℕ) → listed (stretches_of (final leaves_in h s).list) i
      ≡ unwritten (accepted (calls_of h) (answers hears_in leaves_in h s) 0) i
  -- which means what demand 3's words say
  pub means : (i : ℕ) → Unwritten (accepted (calls_of h) (answers hears_in leaves_in h s) 0) i
  -- the data has the size and the bytes that the accepted writes and cuts give it
  pub told : Told (accepted (calls_of h) (answers hears_in leaves_in h s) 0) (data_of (final leaves_in h s).container)
  -- the list is good beside it, and no call was answered 16
  pub good : GoodList (final leaves_in h s).list (data_of (final leaves_in h s).container)
  pub never_bad : Never bad_list (answers hears_in leaves_in h s)

-- Everything heard, the whole container, every lease record and the whole list are what the rules give for parts and
-- stretches alone (H8).
pub record ByRulesBeside (h : List Sent) (s : Slot) (p : SlotParts) : Type 0 where
  pub heard : answers hears_in leaves_in h s ≡ answers rule_hears_in rule_leaves_in h p
  pub buffer : (final leaves_in h s).container ≡ encode (final rule_leaves_in h p).parts
  pub leases : leases_of (final leaves_in h s).container ≡ (final rule_leaves_in h p).parts.leases
  pub list : (final leaves_in h s).list ≡ list_bytes (final rule_leaves_in h p).stretches
  pub formed : well_formed (final leaves_in h s).container ≡ true

-- Two histories on the same slot: beside each read and test-and-write the same is heard in both, beside each lease
-- request too; container and list end the same; each offset names the same position, and the accepted writes and cuts
-- are the same (D15).
pub record AlikeBeside (h k : List Sent) (s : Slot) : Type 0 where
  pub data_heard : beside is_data (calls_of h) (answers hears_in leaves_in h s)
      ≡ beside is_data (calls_of k) (answers hears_in leaves_in k s)
  pub lease_heard : beside is_lease (calls_of h) (answers hears_in leaves_in h s)
      ≡ beside is_lease (calls_of k) (answers hears_in leaves_in k s)
  pub container_equal : (final leaves_in h s).container ≡ (final leaves_in k s).container
  pub list_equal : (final leaves_in h s).list ≡ (final leaves_in k s).list
  pub positions_equal : beside is_data (calls_of h) (answers names_in leaves_in h s)
      ≡ beside is_data (calls_of k) (answers names_in leaves_in k s)
  pub changes_equal : accepted (calls_of h) (answers hears_in leaves_in h s) 0
      ≡ accepted (calls_of k) (answers hears_in leaves_in k s) 0

-- Demand 3 of a slot s whose parts are p (D14, D15). Woven histories may differ in which reads and lease requests go to
-- the container directly, too.
pub record Demand3Beside (s : Slot) (p : SlotParts) : Type 0 where
  pub woven : (h k : List Sent) → WritesThrough h → WritesThrough k → Woven (calls_of h) (calls_of k) →
      Never no_place (answers hears_in leaves_in h s) → Never no_place (answers hears_in leaves_in k s) → AlikeBeside h k s
  pub rules : (h : List Sent) → WritesThrough h → ByRulesBeside h s p
  pub told : (h : List Sent) → WritesThrough h → ListTold h s

-- Of every container that create has just made with outcome 0, beside a list of zeros (D14, D15).
abbrev pub fresh_slot : List ℕ → List ℕ → List ℕ → Slot
fresh_slot b node enabler = record { container = created_container b node enabler; list = fresh_list }

pub record HistoriesBeside (b node enabler : List ℕ) : Type 0 where
  pub fresh_made : create_outcome b node enabler ≡ 0 →
      Demand3Beside (fresh_slot b node enabler) (record { parts = fresh (length b) node enabler; stretches = [] })
