-- Outcomes beside a never-written list, and what becomes of container, list and reply space (docs/RULES.md, N9, N13,
-- N14, O13, O16).
use Rattle.std.specs.Prelude.{ℕ, cond, not, List, [], ◌∷◌, ◌++◌, length, eqb, ltb}
use Rattle.std.proofs.Math.Option.{Option, none, some}
use Rattle.octets.specs.Moves.{put}
use Rattle.octets.specs.Rows.{Row, row, first_row}
use Rattle.format.specs.Layout.{data_of}
use Rattle.format.specs.Container.{container_rows}
use Rattle.format.specs.Parts.{Parts, parts_of, encode}
use Rattle.rules.specs.Requests.{Request, test_write, add, renew, cancel, read, request_of}
use Rattle.rules.specs.Changes.{changes_of}
use Rattle.rules.specs.Outcomes.{request_rows, replies, answer_to, after_of, reply_bytes}
use Rattle.rules.specs.declared.Answer.{Answer}
use Rattle.stretches.specs.Stretches.{Stretch, stretches_after}
use Rattle.stretches.specs.List.{row_limit, stretches_of, list_bytes, list_ok}

-- The stretches after a request that is done: its writes, resolved, then its cut (N9).
unfoldable pub next_stretches : Parts → Option Request → List Stretch → List Stretch
next_stretches p r rs = stretches_after (changes_of r (length p.bytes)) (length p.bytes) rs

-- Row 16: the list is not good beside the data (O16).
abbrev pub list_rows : List ℕ → List ℕ → List Row
list_rows l d = row 16 (not (list_ok l d)) ∷ []

-- Row 13: more than 256 rows would result (O13, N13).
abbrev pub many_rows : Parts → Option Request → List Stretch → List Row
many_rows p r rs = row 13 (ltb row_limit (length (next_stretches p r rs))) ∷ []

-- The outcome's number: 1 and 2, then 16, then the request's own, then 13 (N14).
unfoldable pub outcome_beside : List ℕ → List ℕ → List ℕ → ℕ → ℕ
outcome_beside c l q n = first_row
    (container_rows c
    ++ (list_rows l (data_of c)
    ++ (request_rows (parts_of c) (request_of q) n ++ many_rows (parts_of c) (request_of q) (stretches_of l))))

-- The list after a request that is done: a test-and-write moves it, no other request does (N9).
unfoldable pub list_to : Parts → Option Request → List ℕ → List ℕ
list_to p none l = l
list_to p (some (test_write k ts ws cut)) l = list_bytes (next_stretches p (some (test_write k ts ws cut)) (stretches_of l))
list_to p (some (add r)) l = l
list_to p (some (renew t x)) l = l
list_to p (some (cancel t)) l = l
list_to p (some (read rs)) l = l

-- The answer record; on 13 and 16 it has no node id and counts nothing (N14, O23 to O25).
unfoldable pub answered_beside : List ℕ → List ℕ → List ℕ → List ℕ → Answer
answered_beside c l q r = answer_to (outcome_beside c l q (length r)) (parts_of c) (request_of q)

-- Container and list change on 0 only, the reply is written on 0 and 8 only (N14, O26, O27).
unfoldable pub container_beside : List ℕ → List ℕ → List ℕ → List ℕ → List ℕ
container_beside c l q r =
    cond (eqb (outcome_beside c l q (length r)) 0) (encode (after_of (parts_of c) (request_of q))) c

unfoldable pub list_after : List ℕ → List ℕ → List ℕ → List ℕ → List ℕ
list_after c l q r = cond (eqb (outcome_beside c l q (length r)) 0) (list_to (parts_of c) (request_of q) l) l

unfoldable pub reply_beside : List ℕ → List ℕ → List ℕ → List ℕ → List ℕ
reply_beside c l q r =
    cond (replies (outcome_beside c l q (length r))) (put 0 (reply_bytes (parts_of c) (request_of q)) r) r
