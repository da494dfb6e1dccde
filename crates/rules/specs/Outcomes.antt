-- Outcomes (docs/RULES.md, O0 to O27): the table, the answer record, and what becomes of container and reply space.
use Rattle.std.specs.Prelude.{ℕ, ◌+◌, ◌-◌, Bool, true, cond, not, ◌&&◌, List, [], ◌∷◌, ◌++◌, map, length, take, replicate, eqb, leb, ltb}
use Rattle.std.proofs.Math.Option.{Option, none, some}
use Rattle.octets.specs.Strings.{same}
use Rattle.octets.specs.Moves.{put}
use Rattle.format.specs.Layout.{magic, renewal_of, node_size, lease_limit, secret_size, node_at, data_at, moved_count}
use Rattle.format.specs.Container.{length_allowed, container_rows}
use Rattle.format.specs.Parts.{Parts, count_in, used, parts_of, encode, fresh}
use Rattle.rules.specs.Requests.{Request, test_write, add, renew, cancel, read, request_of}
use Rattle.rules.specs.Testing.{resolves, test_piece, read_piece, holds, reply_of}
use Rattle.octets.specs.Lists.{every, maybe}
use Rattle.rules.specs.Writing.{writes_resolve, rewritten}
use Rattle.rules.specs.Leasing.{renewed_by, cancelled_by, added, renewed, cancelled, knows, present}
use Rattle.octets.specs.Rows.{Row, first_row, row}
use Rattle.rules.specs.declared.Answer.{Answer}

-- What a request, if it is done, makes of the parts. With other data the count stands at the larger of its old place
-- and the data's new end, and what lies between is slack; with other leases it stays (W8, G3, G13).
unfoldable pub with_bytes : Parts → List ℕ → Parts
with_bytes p d = record {
  room = p.room;
  node = p.node;
  enabler = p.enabler;
  bytes = d;
  slack = moved_count (count_in p) (length d) - (data_at + length d);
  leases = p.leases;
}

unfoldable pub with_leases : Parts → List (List ℕ) → Parts
with_leases p ls = record {
  room = p.room;
  node = p.node;
  enabler = p.enabler;
  bytes = p.bytes;
  slack = p.slack;
  leases = ls;
}

unfoldable pub after : Parts → Request → Parts
after p (test_write k ts ws cut) = with_bytes p (rewritten ws cut p.bytes)
after p (add r) = with_leases p (added r p.leases)
after p (renew t x) = with_leases p (renewed t x p.leases)
after p (cancel t) = with_leases p (cancelled t p.leases)
after p (read rs) = p

-- Its reply: the pieces as they are before any write (R2 to R4).
unfoldable pub reply_to : Parts → Request → List ℕ
reply_to p (test_write k ts ws cut) = reply_of (map (test_piece p.bytes) ts)
reply_to p (add r) = []
reply_to p (renew t x) = []
reply_to p (cancel t) = []
reply_to p (read rs) = reply_of (map (read_piece p.bytes) rs)

-- Rows 4 and 5, for each kind those that it can meet: an offset before byte 0, another write enabler (O4, O5).
unfoldable pub admit_rows : Parts → Request → List Row
admit_rows p (test_write k ts ws cut) =
    row 4 (not (every (λ t. resolves t.offset (length p.bytes)) ts && writes_resolve ws (length p.bytes)))
    ∷ row 5 (not (same k p.enabler))
    ∷ []
admit_rows p (add r) = []
admit_rows p (renew t x) = []
admit_rows p (cancel t) = []
admit_rows p (read rs) = row 4 (not (every (λ r. resolves r.offset (length p.bytes)) rs)) ∷ []

-- Rows 7 to 10: what it finds in the data, in a reply space of n bytes and among the leases (O7 to O10).
unfoldable pub find_rows : Parts → Request → ℕ → List Row
find_rows p (test_write k ts ws cut) n =
    row 7 (ltb n (length (reply_to p (test_write k ts ws cut)))) ∷ row 8 (not (every (holds p.bytes) ts)) ∷ []
find_rows p (add r) n =
    row 10 (leb lease_limit (present p.leases) && not (knows (renewed_by (renewal_of r)) p.leases)) ∷ []
find_rows p (renew t x) n = row 9 (not (knows (renewed_by t) p.leases)) ∷ []
find_rows p (cancel t) n = row 9 (not (knows (cancelled_by t) p.leases)) ∷ []
find_rows p (read rs) n = row 7 (ltb n (length (reply_to p (read rs)))) ∷ []

-- Row 11: the used length after the request would exceed the buffer (O11, W7).
unfoldable pub room_rows : Parts → Request → List Row
room_rows p (test_write k ts ws cut) = row 11 (ltb p.room (used (after p (test_write k ts ws cut)))) ∷ []
room_rows p (add r) = row 11 (ltb p.room (used (after p (add r)))) ∷ []
room_rows p (renew t x) = []
room_rows p (cancel t) = []
room_rows p (read rs) = []

-- Rows 4 to 10, in the order in which they are judged (O20).
unfoldable pub rows : Parts → Request → ℕ → List Row
rows p r n = admit_rows p r ++ find_rows p r n

-- The rows of a request, if it is one: 3, or 4 to 10 and then 11 (O3, X18).
unfoldable pub request_rows : Parts → Option Request → ℕ → List Row
request_rows p none n = row 3 true ∷ []
request_rows p (some r) n = rows p r n ++ room_rows p r

-- The outcome's number for a container, a request and a reply space of n bytes (O20).
unfoldable pub outcome : List ℕ → List ℕ → ℕ → ℕ
outcome c q n = first_row (container_rows c ++ request_rows (parts_of c) (request_of q) n)

-- The reply is written on 0 and 8 only (O26, R5).
unfoldable pub replies : ℕ → Bool
replies n = cond (eqb n 0) true (eqb n 8)

-- What the answer counts: reply bytes for kinds 1 and 5, leases present after the request for kinds 2 to 4 (O25).
unfoldable pub counted : Parts → Request → ℕ
counted p (test_write k ts ws cut) = length (reply_to p (test_write k ts ws cut))
counted p (add r) = present (after p (add r)).leases
counted p (renew t x) = present (after p (renew t x)).leases
counted p (cancel t) = present (after p (cancel t)).leases
counted p (read rs) = length (reply_to p (read rs))

abbrev pub answer_of : ℕ → List ℕ → ℕ → Answer
answer_of n node count = record { number = n; node = node; count = count }

abbrev pub no_node : List ℕ
no_node = replicate node_size 0

-- The answer to a request with outcome n: the container's node id on 5, the count on 0 and 8 (O23 to O25).
unfoldable pub answer_to : ℕ → Parts → Option Request → Answer
answer_to n p none = answer_of n no_node 0
answer_to n p (some r) = answer_of n (cond (eqb n 5) p.node no_node) (cond (replies n) (counted p r) 0)

-- The parts and the reply of what may be no request: unchanged, and empty.
unfoldable pub after_of : Parts → Option Request → Parts
after_of p r = maybe p (after p) r

unfoldable pub reply_bytes : Parts → Option Request → List ℕ
reply_bytes p r = maybe [] (reply_to p) r

-- The answer record (O23).
unfoldable pub answered : List ℕ → List ℕ → List ℕ → Answer
answered c q r = answer_to (outcome c q (length r)) (parts_of c) (request_of q)

-- The container changes on 0 only (O27).
unfoldable pub container_after : List ℕ → List ℕ → List ℕ → List ℕ
container_after c q r = cond (eqb (outcome c q (length r)) 0) (encode (after_of (parts_of c) (request_of q))) c

-- The reply is written on 0 and 8 only, to the front of the reply space (O26, R5).
unfoldable pub reply_after : List ℕ → List ℕ → List ℕ → List ℕ
reply_after c q r = cond (replies (outcome c q (length r))) (put 0 (reply_bytes (parts_of c) (request_of q)) r) r

-- Create: rows 1, 3 and 12; a fresh container on 0 (M1 to M4).
unfoldable pub create_outcome : List ℕ → List ℕ → List ℕ → ℕ
create_outcome c node enabler = first_row
    (row 1 (not (length_allowed c))
    ∷ row 3 (not (eqb (length node) node_size && eqb (length enabler) secret_size))
    ∷ row 12 (same (take node_at c) magic) ∷ [])

unfoldable pub create_answer : List ℕ → List ℕ → List ℕ → Answer
create_answer c node enabler = answer_of (create_outcome c node enabler) no_node 0

unfoldable pub created_container : List ℕ → List ℕ → List ℕ → List ℕ
created_container c node enabler = cond (eqb (create_outcome c node enabler) 0) (encode (fresh (length c) node enabler)) c
