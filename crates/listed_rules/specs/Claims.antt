-- What is claimed of one call beside a list (demands 1 and 2; docs/RULES.md, D11, D12). Proved in proofs/.
use Rattle.std.specs.Prelude.{ℕ, ◌≤◌, ◌<◌, ◌≡◌, true, cond, List, [], ◌∷◌, ◌↔◌, length, take, drop, eqb}
use Rattle.octets.specs.Facts.{Among}
use Rattle.octets.specs.Strings.{same}
use Rattle.format.specs.Container.{well_formed}
use Rattle.format.specs.Layout.{data_of, enabler_of, secret_size}
use Rattle.format.specs.Parts.{parts_of}
use Rattle.rules.specs.Requests.{kind_of, request_of, secret_at}
use Rattle.rules.specs.Writing.{placed}
use Rattle.rules.specs.Changes.{Change, cut_change, write_changes}
use Rattle.rules.specs.Outcomes.{outcome, no_node, answered, container_after, reply_after}
use Rattle.rules.specs.Claims.{numbers_for, Accepts, Writes, SamePublic}
use Rattle.stretches.specs.Stretches.{stretches_after}
use Rattle.stretches.specs.List.{row_limit, stretches_of, list_bytes}
use Rattle.stretches.specs.Claims.{GoodList}
use Rattle.listed_rules.specs.Outcomes.{next_stretches, answered_beside, container_beside, list_after, reply_beside}

-- The numbers for a request beside a list: those of its kind and 16, and for a test-and-write 13 too (O22).
unfoldable pub numbers_beside : ℕ → List ℕ
numbers_beside kind = 16 ∷ cond (eqb kind 1) (13 ∷ numbers_for kind) (numbers_for kind)

-- Where neither 13 nor 16 is given, answer, container and reply space are those of the container by itself.
pub record Own (c l q r : List ℕ) : Type 0 where
  pub answer : answered_beside c l q r ≡ answered c q r
  pub container : container_beside c l q r ≡ container_after c q r
  pub reply : reply_beside c l q r ≡ reply_after c q r

-- Demand 1 beside a list, of any bytes as container, list, request and reply space (D11).
pub record Demand1Beside (c l q r : List ℕ) : Type 0 where
  -- the call ends in a number that the table has for the request's kind, never in 6
  pub number : Among (answered_beside c l q r).number (numbers_beside (kind_of q))
  pub never_six : (answered_beside c l q r).number ≡ 6 → ⊥
  -- refused: no byte of container or list changes
  pub refused : ((answered_beside c l q r).number ≡ 0 → ⊥) → container_beside c l q r ≡ c
  pub list_refused : ((answered_beside c l q r).number ≡ 0 → ⊥) → list_after c l q r ≡ l
  -- neither done nor a failed test, so on 13 and 16 too: no reply byte changes, and nothing is counted
  pub silent : ((answered_beside c l q r).number ≡ 0 → ⊥) → ((answered_beside c l q r).number ≡ 8 → ⊥) →
      reply_beside c l q r ≡ r
  pub uncounted : ((answered_beside c l q r).number ≡ 0 → ⊥) → ((answered_beside c l q r).number ≡ 8 → ⊥) →
      (answered_beside c l q r).count ≡ 0
  -- otherwise only the first bytes of the reply space, as many as the count says
  pub front : drop (answered_beside c l q r).count (reply_beside c l q r) ≡ drop (answered_beside c l q r).count r
  -- 16 exactly where the container is well formed and the list is not good, whatever the request
  pub sixteen : ((answered_beside c l q r).number ≡ 16) ↔ ((well_formed c ≡ true) × (GoodList l (data_of c) → ⊥))
  -- 13 exactly where the list is good, the container by itself would do the request, and too many rows would result
  pub thirteen : ((answered_beside c l q r).number ≡ 13)
      ↔ (GoodList l (data_of c) × ((outcome c q (length r) ≡ 0)
      × (row_limit < length (next_stretches (parts_of c) (request_of q) (stretches_of l)))))
  -- on both the node id is zeros
  pub no_node_holds : Among (answered_beside c l q r).number (13 ∷ 16 ∷ []) → (answered_beside c l q r).node ≡ no_node
  -- in every other case all is as without a list
  pub own : ((answered_beside c l q r).number ≡ 13 → ⊥) → ((answered_beside c l q r).number ≡ 16 → ⊥) → Own c l q r
  -- a request that is no test-and-write leaves the list
  pub others : (kind_of q ≡ 1 → ⊥) → list_after c l q r ≡ l
  -- lengths never change
  pub container_length : length (container_beside c l q r) ≡ length c
  pub list_length_holds : length (list_after c l q r) ≡ length l
  pub reply_length : length (reply_beside c l q r) ≡ length r
  -- a well-formed container stays so, and beside it a good list stays good: it names zeros of the data only
  pub stays_formed : well_formed c ≡ true → well_formed (container_beside c l q r) ≡ true
  pub stays_good : well_formed c ≡ true → GoodList l (data_of c) →
      GoodList (list_after c l q r) (data_of (container_beside c l q r))

-- Demand 2's conditions beside a list, each by itself: those of the container, and that neither 16 nor 13 applies (D12).
pub record AcceptsBeside (c l q : List ℕ) (n : ℕ) : Type 0 where
  pub accepts : Accepts c q n
  -- 16: the list is good beside the data
  pub good : GoodList l (data_of c)
  -- the writes at the positions that they name, then the cut
  pub changes : List Change
  pub changes_are : changes
      ≡ write_changes (placed accepts.writes (length (data_of c))) (cut_change accepts.cut)
  -- 13: no more than 256 rows result
  pub few : length (stretches_after changes (length (data_of c)) (stretches_of l)) ≤ row_limit

-- What is then done (D12).
pub record WritesBeside (c l q r : List ℕ) (a : AcceptsBeside c l q (length r)) : Type 0 where
  -- answer, container and reply are those of the container by itself
  pub own : Own c l q r
  pub writes : Writes c q r a.accepts
  -- the list names what the writes and the cut leave of it
  pub list : list_after c l q r ≡ list_bytes (stretches_after a.changes (length (data_of c)) (stretches_of l))
  pub named : stretches_of (list_after c l q r)
      ≡ stretches_after a.changes (length (data_of c)) (stretches_of l)
  -- and is good beside the data afterwards
  pub good : GoodList (list_after c l q r) (data_of (container_after c q r))

-- Demand 2 beside a list, of any bytes as container, list, request of kind 1 and reply space (D12).
pub record Demand2Beside (c l q r : List ℕ) : Type 0 where
  pub exactly : kind_of q ≡ 1 → ((answered_beside c l q r).number ≡ 0) ↔ AcceptsBeside c l q (length r)
  pub writes : (a : AcceptsBeside c l q (length r)) → WritesBeside c l q r a

-- Beside the same list, a request gets the same answer and reply bytes on two containers, and leaves the same list.
pub record SameBeside (b c l q r : List ℕ) : Type 0 where
  pub answer : answered_beside b l q r ≡ answered_beside c l q r
  pub reply : reply_beside b l q r ≡ reply_beside c l q r
  pub list : list_after b l q r ≡ list_after c l q r

-- Secrets stay in beside a list too: answer, reply and list tell neither write enabler nor leases, beyond whether an
-- enabler fits and whether there is room (D5, D11).
pub record SecretsBeside (b c l q r : List ℕ) : Type 0 where
  pub of_read : SamePublic b c → kind_of q ≡ 5 → SameBeside b c l q r
  pub of_write : SamePublic b c → kind_of q ≡ 1 →
      same (take secret_size (drop secret_at q)) (enabler_of b) ≡ same (take secret_size (drop secret_at q)) (enabler_of c) →
      ((answered_beside b l q r).number ≡ 11 → ⊥) → ((answered_beside c l q r).number ≡ 11 → ⊥) → SameBeside b c l q r
