-- What is claimed of the rules (demands 1 and 2, secrets stay in, short reads: docs/RULES.md, D1, D2, D5, D6). Proved
-- in proofs/.
use Rattle.std.specs.Prelude.{ℕ, ◌+◌, ◌≤◌, ◌<◌, ◌≡◌, true, cond, List, [], ◌∷◌, ◌++◌, map, ◌↔◌, length, take, drop, eqb}
use Rattle.std.proofs.Math.Option.{Option, none, some}
use Rattle.octets.specs.Strings.{same}
use Rattle.octets.specs.Moves.{put}
use Rattle.format.specs.Container.{well_formed}
use Rattle.format.specs.Layout.{node_of, enabler_of, data_of, count_at, extras_of, leases_of, secret_size, used_length}
use Rattle.format.specs.Layout.{moved_count}
use Rattle.octets.specs.Facts.{Octets, Each, Among}
use Rattle.format.specs.Parts.{parts_of}
use Rattle.rules.specs.Requests.{Test, Read, Write, test_write, read, request_of, kind_of, secret_at}
use Rattle.rules.specs.Testing.{resolve, test_piece, read_piece, holds, reply_of}
use Rattle.rules.specs.Writing.{rewritten}
use Rattle.rules.specs.Leasing.{present}
use Rattle.rules.specs.Outcomes.{with_bytes, no_node, answered, container_after, reply_after, create_answer}
use Rattle.rules.specs.Outcomes.{created_container}
use Rattle.rules.specs.Offsets.{NotBefore, WritesNotBefore}

-- The numbers that the table of outcomes has for a request: 1 to 3 for every request, then those of its kind (O22).
unfoldable pub numbers_for : ℕ → List ℕ
numbers_for kind =
    1 ∷ 2 ∷ 3
    ∷ cond (eqb kind 1) (0 ∷ 4 ∷ 5 ∷ 7 ∷ 8 ∷ 11 ∷ [])
    (cond (eqb kind 2) (0 ∷ 10 ∷ 11 ∷ [])
    (cond (eqb kind 3) (0 ∷ 9 ∷ [])
    (cond (eqb kind 4) (0 ∷ 9 ∷ [])
    (cond (eqb kind 5) (0 ∷ 4 ∷ 7 ∷ [])
    []))))

-- The call writes the reply bs to the front of the reply space, and counts it.
pub record Reported (c q r bs : List ℕ) : Type 0 where
  pub reply : reply_after c q r ≡ put 0 bs r
  pub count : (answered c q r).count ≡ length bs

-- Demand 1, of any bytes as container, request and reply space (D1).
pub record Demand1 (c q r : List ℕ) : Type 0 where
  -- the call ends in a number that the table has for the request's kind
  pub number : Among (answered c q r).number (numbers_for (kind_of q))
  -- never in 6, which no row has
  pub never_six : (answered c q r).number ≡ 6 → ⊥
  -- in 1, 2 or 3 where the request breaks its format
  pub broken : request_of q ≡ none → Among (answered c q r).number (1 ∷ 2 ∷ 3 ∷ [])
  -- refused: no container byte changes
  pub refused : ((answered c q r).number ≡ 0 → ⊥) → container_after c q r ≡ c
  -- neither done nor a failed test: no reply byte changes, and nothing is counted
  pub silent : ((answered c q r).number ≡ 0 → ⊥) → ((answered c q r).number ≡ 8 → ⊥) → reply_after c q r ≡ r
  pub uncounted : ((answered c q r).number ≡ 0 → ⊥) → ((answered c q r).number ≡ 8 → ⊥) → (answered c q r).count ≡ 0
  -- otherwise only the first bytes of the reply space, as many as the count says
  pub front : drop (answered c q r).count (reply_after c q r) ≡ drop (answered c q r).count r
  -- a test-and-write that is done or fails a test replies with the pieces of the data as it was before any write
  pub tests_reply : (k : List ℕ) (ts : List Test) (ws : List Write) (cut : Option ℕ) →
      request_of q ≡ some (test_write k ts ws cut) → Among (answered c q r).number (0 ∷ 8 ∷ []) →
      Reported c q r (reply_of (map (test_piece (data_of c)) ts))
  -- a read that is done replies with its pieces of the data
  pub reads_reply : (rs : List Read) → request_of q ≡ some (read rs) → (answered c q r).number ≡ 0 →
      Reported c q r (reply_of (map (read_piece (data_of c)) rs))
  -- a lease request changes no reply byte, and when done counts the leases present after it
  pub leases_silent : Among (kind_of q) (2 ∷ 3 ∷ 4 ∷ []) → reply_after c q r ≡ r
  pub leases_count : Among (kind_of q) (2 ∷ 3 ∷ 4 ∷ []) → (answered c q r).number ≡ 0 →
      (answered c q r).count ≡ present (leases_of (container_after c q r))
  -- the node id is the container's on 5, else zeros
  pub node : (answered c q r).number ≡ 5 → (answered c q r).node ≡ node_of c
  pub no_node_holds : ((answered c q r).number ≡ 5 → ⊥) → (answered c q r).node ≡ no_node
  -- lengths never change
  pub container_length : length (container_after c q r) ≡ length c
  pub reply_length : length (reply_after c q r) ≡ length r
  -- a well-formed container stays well formed
  pub stays_formed : well_formed c ≡ true → well_formed (container_after c q r) ≡ true

-- Demand 1 of create, on any buffer and with any arguments (D1).
pub record Demand1Create (c node enabler : List ℕ) : Type 0 where
  -- the call ends in a number that the table has for create
  pub number : Among (create_answer c node enabler).number (0 ∷ 1 ∷ 3 ∷ 12 ∷ [])
  -- never in 6, which no row has
  pub never_six : (create_answer c node enabler).number ≡ 6 → ⊥
  -- the node id is zeros, and nothing is counted
  pub no_node_holds : (create_answer c node enabler).node ≡ no_node
  pub uncounted : (create_answer c node enabler).count ≡ 0
  -- refused: no container byte changes
  pub refused : ((create_answer c node enabler).number ≡ 0 → ⊥) → created_container c node enabler ≡ c
  -- the length never changes
  pub container_length : length (created_container c node enabler) ≡ length c
  -- what is made is well formed
  pub made_formed : (create_answer c node enabler).number ≡ 0 → well_formed (created_container c node enabler) ≡ true

-- Demand 2's conditions, each by itself, for a test-and-write beside a reply space of n bytes (D2).
pub record Accepts (c q : List ℕ) (n : ℕ) : Type 0 where
  pub enabler : List ℕ
  pub tests : List Test
  pub writes : List Write
  pub cut : Option ℕ
  -- container and request are well formed
  pub formed : well_formed c ≡ true
  pub format : request_of q ≡ some (test_write enabler tests writes cut)
  -- no offset reaches before byte 0: a test's on the data as it is, a write's on the data that those before it leave
  pub test_offsets : Each (λ t. NotBefore t.offset (length (data_of c))) tests
  pub write_offsets : WritesNotBefore writes (data_of c)
  -- the write enabler matches
  pub matches : enabler ≡ enabler_of c
  -- the reply fits
  pub reply_fits : length (reply_of (map (test_piece (data_of c)) tests)) ≤ n
  -- every test holds
  pub all_hold : Each (λ t. holds (data_of c) t ≡ true) tests
  -- the result fits, with the count where it then stands
  pub result_fits : used_length (moved_count (count_at c) (length (rewritten writes cut (data_of c)))) (extras_of c)
      ≤ length c

-- What is then done (D2).
pub record Writes (c q r : List ℕ) (a : Accepts c q (length r)) : Type 0 where
  -- the named writes in order, zeros in gaps, and the cut; all else is kept
  pub parts : parts_of (container_after c q r) ≡ with_bytes (parts_of c) (rewritten a.writes a.cut (data_of c))
  -- the count stands at the larger of its old place and the data's new end
  pub count : count_at (container_after c q r)
      ≡ moved_count (count_at c) (length (rewritten a.writes a.cut (data_of c)))
  -- every lease is kept
  pub leases : leases_of (container_after c q r) ≡ leases_of c
  -- the reply holds the pieces of the data as it was before any write
  pub reported : Reported c q r (reply_of (map (test_piece (data_of c)) a.tests))

-- Demand 2, of any bytes as container, request of kind 1 and reply space (D2).
pub record Demand2 (c q r : List ℕ) : Type 0 where
  -- a test-and-write is done exactly when the conditions hold
  pub exactly : kind_of q ≡ 1 → ((answered c q r).number ≡ 0) ↔ Accepts c q (length r)
  -- and then does what they name
  pub writes : (a : Accepts c q (length r)) → Writes c q r a

-- Two well-formed containers that differ at most in write enabler, leases, slack and buffer length.
pub record SamePublic (b c : List ℕ) : Type 0 where
  pub formed_b : well_formed b ≡ true
  pub formed_c : well_formed c ≡ true
  pub node : node_of b ≡ node_of c
  pub bytes : data_of b ≡ data_of c

-- A request gets the same answer and reply bytes in both.
pub record SameReply (b c q r : List ℕ) : Type 0 where
  pub answer : answered b q r ≡ answered c q r
  pub reply : reply_after b q r ≡ reply_after c q r

-- Secrets stay in: neither answer nor reply tells the write enabler or the leases, beyond whether an enabler fits and
-- whether there is room (D5).
pub record Secrets (b c q r : List ℕ) : Type 0 where
  -- a read gets the same answer and reply bytes in both containers
  pub of_read : SamePublic b c → kind_of q ≡ 5 → SameReply b c q r
  -- so does a test-and-write whose enabler fits both or neither and that meets 'no room' in neither
  pub of_write : SamePublic b c → kind_of q ≡ 1 →
      same (take secret_size (drop secret_at q)) (enabler_of b) ≡ same (take secret_size (drop secret_at q)) (enabler_of c) →
      ((answered b q r).number ≡ 11 → ⊥) → ((answered c q r).number ≡ 11 → ⊥) → SameReply b c q r

-- The conditions of a read, each by itself, beside a reply space of n bytes (D6).
pub record AcceptsRead (c q : List ℕ) (n : ℕ) : Type 0 where
  pub reads : List Read
  -- container and request are well formed
  pub formed : well_formed c ≡ true
  pub format : request_of q ≡ some (read reads)
  -- no offset reaches before byte 0
  pub offsets : Each (λ x. NotBefore x.offset (length (data_of c))) reads
  -- the reply fits, each piece as short as the data leaves it
  pub reply_fits : length (reply_of (map (read_piece (data_of c)) reads)) ≤ n

-- What is then done (D6).
pub record Returns (c q r : List ℕ) (a : AcceptsRead c q (length r)) : Type 0 where
  -- the reply holds the piece of every read
  pub reported : Reported c q r (reply_of (map (read_piece (data_of c)) a.reads))
  -- a container made of bytes stays as it was
  pub kept : Octets c → container_after c q r ≡ c

-- Short reads, of any bytes as container, request of kind 5 and reply space (D6).
pub record ShortReads (c q r : List ℕ) : Type 0 where
  -- a read is done exactly when the conditions hold
  pub exactly : kind_of q ≡ 5 → ((answered c q r).number ≡ 0) ↔ AcceptsRead c q (length r)
  -- and then returns what they name
  pub returns : (a : AcceptsRead c q (length r)) → Returns c q r a
  -- on a good container a good request is refused with 4 exactly when some offset reaches before byte 0
  pub before_start : (rs : List Read) → well_formed c ≡ true → request_of q ≡ some (read rs) →
      ((answered c q r).number ≡ 4) ↔ (Each (λ x. NotBefore x.offset (length (data_of c))) rs → ⊥)
  -- and where none does, with 7 exactly when the pieces that exist do not fit
  pub no_space : (rs : List Read) → well_formed c ≡ true → request_of q ≡ some (read rs) →
      Each (λ x. NotBefore x.offset (length (data_of c))) rs →
      ((answered c q r).number ≡ 7) ↔ (length r < length (reply_of (map (read_piece (data_of c)) rs)))

-- What a read returns of any data d: the part that exists (T2, T6, D6).
pub record ShortPiece (d : List ℕ) (x : Read) : Type 0 where
  -- it stands in the data at the position o that its offset names, before what is not asked for
  pub part : (o : ℕ) → resolve x.offset (length d) ≡ some o →
      take o d ++ (read_piece d x ++ drop (o + x.count) d) ≡ d
  -- inside the data: as many bytes as asked for
  pub inside : (o : ℕ) → resolve x.offset (length d) ≡ some o → o + x.count ≤ length d →
      length (read_piece d x) ≡ x.count
  -- up to the end or across it: the data from o on
  pub across : (o : ℕ) → resolve x.offset (length d) ≡ some o → length d ≤ o + x.count → read_piece d x ≡ drop o d
  -- at the end or past it: nothing
  pub past : (o : ℕ) → resolve x.offset (length d) ≡ some o → length d ≤ o → read_piece d x ≡ []
  -- a test that asks alike looks at the same piece
  pub alike : (t : Test) → t.offset ≡ x.offset → t.count ≡ x.count → test_piece d t ≡ read_piece d x
