-- What is claimed of histories (demand 3; docs/RULES.md, D3). Proved in proofs/Demand3.antt.
use Rattle.std.specs.Prelude.{ℕ, ◌≡◌, true, List, length, get_or}
use Rattle.format.specs.Container.{well_formed}
use Rattle.format.specs.Layout.{data_of, leases_of}
use Rattle.octets.specs.Facts.{Octets}
use Rattle.format.specs.Parts.{Parts, parts_of, encode, fresh}
use Rattle.histories.specs.Runs.{Call, hears, leaves, rule_hears, rule_leaves, answers, final, is_lease, is_data}
use Rattle.histories.specs.Runs.{names, beside, no_room, Never, Woven}
use Rattle.rules.specs.Changes.{Change, size_after, byte_over, byte_after}
use Rattle.rules.specs.Outcomes.{create_outcome, created_container}
use Rattle.histories.specs.Accepted.{accepted}

-- Two histories on the same container bytes: beside each read and test-and-write the same is heard in both, beside each
-- lease request too, and the whole buffer ends the same; each offset names the same position in both, and the accepted
-- writes and cuts are the same (H6, H15).
pub record Alike (h k : List Call) (c : List ℕ) : Type 0 where
  pub data_heard : beside is_data h (answers hears leaves h c) ≡ beside is_data k (answers hears leaves k c)
  pub lease_heard : beside is_lease h (answers hears leaves h c) ≡ beside is_lease k (answers hears leaves k c)
  pub bytes_equal : final leaves h c ≡ final leaves k c
  pub positions_equal : beside is_data h (answers names leaves h c) ≡ beside is_data k (answers names leaves k c)
  pub changes_equal : accepted h (answers hears leaves h c) (length (data_of c))
      ≡ accepted k (answers hears leaves k c) (length (data_of c))

-- After a history on container bytes c whose parts are p: everything heard, the whole buffer and every lease record are
-- what the rules give for the parts alone (H8).
pub record ByRules (h : List Call) (c : List ℕ) (p : Parts) : Type 0 where
  pub heard : answers hears leaves h c ≡ answers rule_hears rule_leaves h p
  pub buffer : final leaves h c ≡ encode (final rule_leaves h p)
  pub leases : leases_of (final leaves h c) ≡ (final rule_leaves h p).leases
  pub formed : well_formed (final leaves h c) ≡ true

-- Data has the size that the changes give it, and each byte is the one that they leave there (H11 to H13).
pub record Told (os : List Change) (d : List ℕ) : Type 0 where
  pub size : length d ≡ size_after os 0
  pub each : (i : ℕ) → get_or d i 0 ≡ byte_after os i

-- Demand 3 of container bytes c with parts p (D3).
pub record Demand3 (c : List ℕ) (p : Parts) : Type 0 where
  pub woven : (h k : List Call) → Woven h k → Never no_room (answers hears leaves h c)
      → Never no_room (answers hears leaves k c) → Alike h k c
  pub rules : (h : List Call) → ByRules h c p
  pub told : (h : List Call) → Told (accepted h (answers hears leaves h c) 0) (data_of (final leaves h c))

-- Of a container that is in use, such as one with slack that an older node left: any well-formed one made of bytes.
-- Woven histories end alike, the rules give what happens, and the data has the size and the bytes that the accepted
-- changes give to what was there (D3, H14).
pub record InUse (c : List ℕ) : Type 0 where
  pub woven : well_formed c ≡ true → Octets c → (h k : List Call) → Woven h k
      → Never no_room (answers hears leaves h c) → Never no_room (answers hears leaves k c) → Alike h k c
  pub rules : well_formed c ≡ true → Octets c → (h : List Call) → ByRules h c (parts_of c)
  pub size : well_formed c ≡ true → Octets c → (h : List Call) →
      length (data_of (final leaves h c))
      ≡ size_after (accepted h (answers hears leaves h c) (length (data_of c))) (length (data_of c))
  pub each : well_formed c ≡ true → Octets c → (h : List Call) (i : ℕ) →
      get_or (data_of (final leaves h c)) i 0
      ≡ byte_over (accepted h (answers hears leaves h c) (length (data_of c))) i (get_or (data_of c) i 0)

-- Demand 3 of every container that create has just made with outcome 0, at any allowed buffer length (H1).
pub record Histories (b node enabler : List ℕ) : Type 0 where
  pub fresh_made : create_outcome b node enabler ≡ 0 →
      Demand3 (created_container b node enabler) (fresh (length b) node enabler)
