-- What is claimed of slack, the zeros between data and count (docs/RULES.md, C22, G13, D9). Proved in
-- proofs/Slack.antt.
use Rattle.std.specs.Prelude.{ℕ, ◌≡◌, true, List, [], ◌∷◌}
use Rattle.octets.specs.Facts.{Among}
use Rattle.format.specs.Container.{well_formed}
use Rattle.format.specs.Layout.{node_of, enabler_of, data_of, count_at, leases_of}
use Rattle.rules.specs.Requests.{kind_of}
use Rattle.rules.specs.Outcomes.{answered, container_after}
use Rattle.rules.specs.Claims.{SameReply}

-- Two well-formed containers that differ at most in slack and buffer length.
pub record SameButSlack (b c : List ℕ) : Type 0 where
  pub formed_b : well_formed b ≡ true
  pub formed_c : well_formed c ≡ true
  pub node : node_of b ≡ node_of c
  pub enabler : enabler_of b ≡ enabler_of c
  pub bytes : data_of b ≡ data_of c
  pub leases : leases_of b ≡ leases_of c

-- Slack and buffer length show in nothing but the room, for any bytes as request and reply space (D9).
pub record SlackUnseen (b c q r : List ℕ) : Type 0 where
  -- a request gets the same answer and reply bytes in both, unless one of them meets 'no room'
  pub alike : SameButSlack b c → ((answered b q r).number ≡ 11 → ⊥) → ((answered c q r).number ≡ 11 → ⊥) →
      SameReply b c q r
  -- and leaves containers that again differ in nothing else
  pub again : SameButSlack b c → ((answered b q r).number ≡ 11 → ⊥) → ((answered c q r).number ≡ 11 → ⊥) →
      SameButSlack (container_after b q r) (container_after c q r)
  -- where one meets it, the other meets it too or is done
  pub no_room_holds : SameButSlack b c → (answered b q r).number ≡ 11 → Among (answered c q r).number (0 ∷ 11 ∷ [])

-- The count stays for every request that is no test-and-write (G13).
pub record CountStays (c q r : List ℕ) : Type 0 where
  pub stays : (kind_of q ≡ 1 → ⊥) → count_at (container_after c q r) ≡ count_at c
