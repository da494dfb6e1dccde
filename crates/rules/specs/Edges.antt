-- Numbers at the edges (docs/RULES.md, P1 to P10, P12 to P20, P30 to P44), as tables: what create and then a few
-- requests give, what reads return, which bytes a test-and-write changes, what slack allows, what the longest buffer
-- holds, and what offsets from the end name.
use Rattle.std.specs.Prelude.{ℕ, zero, suc, ◌-◌, ◌≡◌, Bool, false, cond, List, [], ◌∷◌, ◌++◌, map, length, take, replicate, eqb}
use Rattle.octets.specs.Numbers.{digits}
use Rattle.octets.specs.Strings.{same, join}
use Rattle.octets.specs.Moves.{put}
use Rattle.format.specs.Layout.{magic, node_at, size_width, size_at, offset_at, fixed_places, data_of, slack_of, used_end}
use Rattle.format.specs.Parts.{encode, fresh, no_lease}
use Rattle.rules.specs.Requests.{secret_at}
use Rattle.rules.specs.Outcomes.{outcome, answer_of, no_node, answered, container_after, reply_after, create_outcome}
use Rattle.rules.specs.Outcomes.{created_container}
use Rattle.rules.specs.Stretch.{in_fields, in_written, stretch_from, stretch_to}

-- The enabler of every case, EE 32 times.
abbrev pub enabler : List ℕ
enabler = replicate 32 238

-- The node id of every case.
abbrev pub node : List ℕ
node = replicate 20 7

-- A reply space that is long enough.
abbrev pub space : List ℕ
space = replicate 8 0

-- The offset -k as its field has it, in two's complement.
abbrev pub back : ℕ → ℕ
back k = 4294967296 - k

-- A write: where, and its bytes.
pub record Put : Type 0 where
  pub at : ℕ
  pub bytes : List ℕ

-- A test: where, length, opcode, specimen.
pub record Check : Type 0 where
  pub at : ℕ
  pub count : ℕ
  pub opcode : ℕ
  pub specimen : List ℕ

-- A test's entry of 12 and a write's entry of 8.
abbrev pub test_entry : Check → List ℕ
test_entry t = digits 4 t.at ++ (digits 4 t.count ++ (t.opcode ∷ 0 ∷ digits 2 (length t.specimen)))

abbrev pub write_entry : Put → List ℕ
write_entry w = digits 4 w.at ++ digits 4 (length w.bytes)

-- A test-and-write as bytes: its tests, its writes, the cut flag and the new length.
abbrev pub test_and_write : List Check → List Put → ℕ → ℕ → List ℕ
test_and_write ts ws flag new =
    (1 ∷ length ts ∷ length ws ∷ flag ∷ [])
    ++ (digits 4 new
    ++ (enabler
    ++ (join (map test_entry ts)
    ++ (join (map write_entry ws)
    ++ (join (map (λ t. t.specimen) ts) ++ join (map (λ w. w.bytes) ws))))))

-- Short names: a write, a test, and a request that only writes.
abbrev pub bytes_at : ℕ → List ℕ → Put
bytes_at at bs = record { at = at; bytes = bs }

abbrev pub check : ℕ → ℕ → ℕ → List ℕ → Check
check at n op s = record { at = at; count = n; opcode = op; specimen = s }

abbrev pub write : List Put → List ℕ
write ws = test_and_write [] ws 0 0

-- A lease record of owner k, expiry 7, with tokens of 32 bytes k; and an add of it as bytes.
abbrev pub lease_of : ℕ → List ℕ
lease_of k = digits 4 k ++ (digits 4 7 ++ (replicate 64 k ++ node))

abbrev pub add_lease : ℕ → List ℕ
add_lease k = 2 ∷ lease_of k

-- A case: a buffer to create in, then requests one after the other.
pub record Case : Type 0 where
  pub buffer : List ℕ
  pub requests : List (List ℕ)

-- Requests in a buffer of n zeros.
abbrev pub given : ℕ → List (List ℕ) → Case
given n qs = record { buffer = replicate n 0; requests = qs }

-- The numbers of the requests, each on the container that the one before left, and the container in the end.
unfoldable pub numbers : List (List ℕ) → List ℕ → List ℕ
numbers [] c = []
numbers (q ∷ qs) c = outcome c q (length space) ∷ numbers qs (container_after c q space)

unfoldable pub finally : List (List ℕ) → List ℕ → List ℕ
finally [] c = c
finally (q ∷ qs) c = finally qs (container_after c q space)

-- The used lengths before the requests and after each of them.
unfoldable pub used_lengths : List (List ℕ) → List ℕ → List ℕ
used_lengths [] c = used_end c ∷ []
used_lengths (q ∷ qs) c = used_end c ∷ used_lengths qs (container_after c q space)

-- What a case gives: create's number, the requests' numbers, the data in the end, and the used lengths after create and
-- each request; none where create refused.
pub record Outcome : Type 0 where
  pub created : ℕ
  pub answers : List ℕ
  pub bytes : List ℕ
  pub used : List ℕ

-- A case carried out.
unfoldable pub result : Case → Outcome
result x =
    let n : ℕ = create_outcome x.buffer node enabler in
    let c : List ℕ = created_container x.buffer node enabler in
    let qs : List (List ℕ) = x.requests in
    cond (eqb n 0)
    (record { created = n; answers = numbers qs c; bytes = data_of (finally qs c); used = used_lengths qs c })
    (record { created = n; answers = []; bytes = []; used = [] })

-- A row of results: create's number, the answers, the data, the used lengths.
abbrev pub gives : ℕ → List ℕ → List ℕ → List ℕ → Outcome
gives n ns d u = record { created = n; answers = ns; bytes = d; used = u }

-- The table: P1 (three cases), P2 (three), P3, P4, P5 (two), P6 (two), P7 (two), P8 (two), P9, P10. `long` stands for
-- any buffer of 16,777,217 bytes.
abbrev pub cases : List ℕ → List Case
cases long =
    given 472 []
    ∷ given 471 []
    ∷ record { buffer = long; requests = [] }
    ∷ given 472 (write (bytes_at 0 (1 ∷ []) ∷ []) ∷ [])
    ∷ given 473 (write (bytes_at 0 (1 ∷ []) ∷ []) ∷ [])
    ∷ given 473 (write (bytes_at 0 (1 ∷ 2 ∷ []) ∷ []) ∷ [])
    ∷ given 500 (write (bytes_at 3 (65 ∷ 66 ∷ []) ∷ []) ∷ [])
    ∷ given 500 (write (bytes_at 3 (65 ∷ 66 ∷ []) ∷ []) ∷ test_and_write [] [] 1 2 ∷ write (bytes_at 4 (90 ∷ []) ∷ []) ∷ [])
    ∷ given 500 (write (bytes_at 0 (65 ∷ 65 ∷ 65 ∷ 65 ∷ []) ∷ bytes_at 2 (66 ∷ 66 ∷ []) ∷ []) ∷ [])
    ∷ given 500 (write (bytes_at 2 (66 ∷ 66 ∷ []) ∷ bytes_at 0 (65 ∷ 65 ∷ 65 ∷ 65 ∷ []) ∷ []) ∷ [])
    ∷ given 482 (test_and_write [] (bytes_at 2147483647 (65 ∷ []) ∷ []) 1 10 ∷ [])
    ∷ given 481 (test_and_write [] (bytes_at 2147483647 (65 ∷ []) ∷ []) 1 10 ∷ [])
    ∷ given 563 (add_lease 1 ∷ add_lease 2 ∷ add_lease 3 ∷ add_lease 4 ∷ add_lease 5 ∷ [])
    ∷ given 564 (add_lease 1 ∷ add_lease 2 ∷ add_lease 3 ∷ add_lease 4 ∷ add_lease 5 ∷ [])
    ∷ given 500 (write (bytes_at 0 (65 ∷ []) ∷ []) ∷ test_and_write (check 0 1 1 (65 ∷ 66 ∷ []) ∷ []) [] 0 0 ∷ [])
    ∷ given 500 (test_and_write (check 0 4 3 [] ∷ []) [] 0 0 ∷ [])
    ∷ given 472 (test_and_write (check 0 1 3 (9 ∷ []) ∷ []) (bytes_at 0 (1 ∷ []) ∷ []) 0 0 ∷ [])
    ∷ given 500 ((4 ∷ replicate 32 0) ∷ [])
    ∷ []

-- What each case gives, in the same order.
abbrev pub results : List Outcome
results =
    gives 0 [] [] (472 ∷ [])
    ∷ gives 1 [] [] []
    ∷ gives 1 [] [] []
    ∷ gives 0 (11 ∷ []) [] (472 ∷ 472 ∷ [])
    ∷ gives 0 (0 ∷ []) (1 ∷ []) (472 ∷ 473 ∷ [])
    ∷ gives 0 (11 ∷ []) [] (472 ∷ 472 ∷ [])
    ∷ gives 0 (0 ∷ []) (0 ∷ 0 ∷ 0 ∷ 65 ∷ 66 ∷ []) (472 ∷ 477 ∷ [])
    ∷ gives 0 (0 ∷ 0 ∷ 0 ∷ []) (0 ∷ 0 ∷ 0 ∷ 0 ∷ 90 ∷ []) (472 ∷ 477 ∷ 477 ∷ 477 ∷ [])
    ∷ gives 0 (0 ∷ []) (65 ∷ 65 ∷ 66 ∷ 66 ∷ []) (472 ∷ 476 ∷ [])
    ∷ gives 0 (0 ∷ []) (65 ∷ 65 ∷ 65 ∷ 65 ∷ []) (472 ∷ 476 ∷ [])
    ∷ gives 0 (0 ∷ []) (replicate 10 0) (472 ∷ 482 ∷ [])
    ∷ gives 0 (11 ∷ []) [] (472 ∷ 472 ∷ [])
    ∷ gives 0 (0 ∷ 0 ∷ 0 ∷ 0 ∷ 11 ∷ []) [] (replicate 6 472)
    ∷ gives 0 (0 ∷ 0 ∷ 0 ∷ 0 ∷ 0 ∷ []) [] (replicate 5 472 ++ (564 ∷ []))
    ∷ gives 0 (0 ∷ 0 ∷ []) (65 ∷ []) (472 ∷ 473 ∷ 473 ∷ [])
    ∷ gives 0 (0 ∷ []) [] (472 ∷ 472 ∷ [])
    ∷ gives 0 (8 ∷ []) [] (472 ∷ 472 ∷ [])
    ∷ gives 0 (9 ∷ []) [] (472 ∷ 472 ∷ [])
    ∷ []

-- The whole request of 62 bytes, enabler EE 32 times (P12).
abbrev pub request62 : List ℕ
request62 =
    (1 ∷ 1 ∷ 1 ∷ 0 ∷ 0 ∷ 0 ∷ 0 ∷ 0 ∷ [])
    ++ (enabler
    ++ ((0 ∷ 0 ∷ 0 ∷ 0 ∷ 0 ∷ 0 ∷ 0 ∷ 1 ∷ 3 ∷ 0 ∷ 0 ∷ 0 ∷ [])
    ++ (0 ∷ 0 ∷ 0 ∷ 3 ∷ 0 ∷ 0 ∷ 0 ∷ 2 ∷ 65 ∷ 66 ∷ [])))

-- A fresh container of 500 bytes.
abbrev pub empty : List ℕ
empty = encode (fresh 500 node enabler)

-- A reply space of six bytes 9.
abbrev pub nines : List ℕ
nines = replicate 6 9

-- A read's entry of 8: where, and how many bytes.
abbrev pub read_entry : ℕ → ℕ → List ℕ
read_entry at n = digits 4 at ++ digits 4 n

-- A read as bytes, of its entries.
abbrev pub reading : List (List ℕ) → List ℕ
reading es = (5 ∷ length es ∷ 0 ∷ 0 ∷ []) ++ join es

-- A container of n bytes with d as data, k bytes of slack and lease places ls.
abbrev pub slackened : ℕ → List ℕ → ℕ → List (List ℕ) → List ℕ
slackened n d k ls =
    encode (record { room = n; node = node; enabler = enabler; bytes = d; slack = k; leases = ls })

-- The same with no lease.
abbrev pub spare : ℕ → List ℕ → ℕ → List ℕ
spare n d k = slackened n d k (replicate fixed_places no_lease)

-- ABCDE, and a container of 500 bytes with it as data.
abbrev pub letters : List ℕ
letters = 65 ∷ 66 ∷ 67 ∷ 68 ∷ 69 ∷ []

abbrev pub lettered : List ℕ
lettered = spare 500 letters 0

-- A read or a test-and-write on it, beside a reply space of so many bytes 9.
pub record Look : Type 0 where
  pub request : List ℕ
  pub space : ℕ

-- What it gives: the number, the count and the whole reply space.
pub record Seen : Type 0 where
  pub number : ℕ
  pub count : ℕ
  pub reply : List ℕ

unfoldable pub seen : Look → Seen
seen x =
    let r : List ℕ = replicate x.space 9 in
    record {
      number = (answered lettered x.request r).number;
      count = (answered lettered x.request r).count;
      reply = reply_after lettered x.request r;
    }

-- Short names: one read or several, or a test-and-write, beside so many bytes, and a row of what they give.
abbrev pub looks : List (List ℕ) → ℕ → Look
looks es n = record { request = reading es; space = n }

abbrev pub look : ℕ → ℕ → ℕ → Look
look at count n = looks (read_entry at count ∷ []) n

abbrev pub tried : List Check → List Put → ℕ → Look
tried ts ws n = record { request = test_and_write ts ws 0 0; space = n }

abbrev pub shows : ℕ → ℕ → List ℕ → Seen
shows n count r = record { number = n; count = count; reply = r }

-- The table of reads: P13 (across the end, by a read, by a read that stops there and by a test; at the end; past it; of
-- length 0 at the end and past it), P14 (the greatest length at 0, the greatest offset, both), P15 (short pieces in a
-- space that holds them exactly, and in one byte less), P16 (an offset that reaches before byte 0, alone and behind
-- another read, and without any space).
abbrev pub reads : List Look
reads =
    look 3 4 6
    ∷ look 3 2 6
    ∷ tried (check 3 4 3 (68 ∷ 69 ∷ []) ∷ []) [] 6
    ∷ look 5 1 6
    ∷ look 6 1 6
    ∷ look 5 0 6
    ∷ look 6 0 6
    ∷ look 0 4294967295 9
    ∷ look 2147483647 1 4
    ∷ look 2147483647 4294967295 4
    ∷ looks (read_entry 3 4 ∷ read_entry 9 9 ∷ read_entry 0 2 ∷ []) 16
    ∷ looks (read_entry 3 4 ∷ read_entry 9 9 ∷ read_entry 0 2 ∷ []) 15
    ∷ look (back 7) 1 6
    ∷ looks (read_entry 0 1 ∷ read_entry (back 7) 1 ∷ []) 10
    ∷ looks (read_entry 0 1 ∷ read_entry (back 7) 1 ∷ []) 0
    ∷ []

-- What each gives, in the same order.
abbrev pub returned : List Seen
returned =
    shows 0 6 (0 ∷ 0 ∷ 0 ∷ 2 ∷ 68 ∷ 69 ∷ [])
    ∷ shows 0 6 (0 ∷ 0 ∷ 0 ∷ 2 ∷ 68 ∷ 69 ∷ [])
    ∷ shows 0 6 (0 ∷ 0 ∷ 0 ∷ 2 ∷ 68 ∷ 69 ∷ [])
    ∷ shows 0 4 (0 ∷ 0 ∷ 0 ∷ 0 ∷ 9 ∷ 9 ∷ [])
    ∷ shows 0 4 (0 ∷ 0 ∷ 0 ∷ 0 ∷ 9 ∷ 9 ∷ [])
    ∷ shows 0 4 (0 ∷ 0 ∷ 0 ∷ 0 ∷ 9 ∷ 9 ∷ [])
    ∷ shows 0 4 (0 ∷ 0 ∷ 0 ∷ 0 ∷ 9 ∷ 9 ∷ [])
    ∷ shows 0 9 (0 ∷ 0 ∷ 0 ∷ 5 ∷ 65 ∷ 66 ∷ 67 ∷ 68 ∷ 69 ∷ [])
    ∷ shows 0 4 (0 ∷ 0 ∷ 0 ∷ 0 ∷ [])
    ∷ shows 0 4 (0 ∷ 0 ∷ 0 ∷ 0 ∷ [])
    ∷ shows 0 16 (0 ∷ 0 ∷ 0 ∷ 2 ∷ 0 ∷ 0 ∷ 0 ∷ 0 ∷ 0 ∷ 0 ∷ 0 ∷ 2 ∷ 68 ∷ 69 ∷ 65 ∷ 66 ∷ [])
    ∷ shows 7 0 (replicate 15 9)
    ∷ shows 4 0 nines
    ∷ shows 4 0 (replicate 10 9)
    ∷ shows 4 0 []
    ∷ []

-- ABCDE and five leases with k bytes of slack, in n bytes.
abbrev pub leased_with : ℕ → ℕ → List ℕ
leased_with n k = slackened n letters k (map lease_of (1 ∷ 2 ∷ 3 ∷ 4 ∷ 5 ∷ []))

-- A container of 571 bytes with ABCDE as data and five leases, one of them extra: its used length is 569.
abbrev pub leased : List ℕ
leased = leased_with 571 0

-- The positions from i on, n of them, that pass a test; and those from i on at which two buffers differ.
unfoldable pub passing : (ℕ → Bool) → ℕ → ℕ → List ℕ
passing test zero i = []
passing test (suc n) i = cond (test i) (i ∷ passing test n (suc i)) (passing test n (suc i))

unfoldable pub differences : ℕ → List ℕ → List ℕ → List ℕ
differences i [] ys = []
differences i (x ∷ xs) [] = []
differences i (x ∷ xs) (y ∷ ys) =
    cond (eqb x y) (differences (suc i) xs ys) (i ∷ differences (suc i) xs ys)

-- What a request on a container touches: its number, the stretch, the positions of the buffer that count as written,
-- and those at which it differs afterwards.
pub record Touch : Type 0 where
  pub number : ℕ
  pub from : ℕ
  pub to : ℕ
  pub written : List ℕ
  pub changed : List ℕ

-- A request carried out.
unfoldable pub touch : List ℕ → List ℕ → Touch
touch c q =
    let e : List ℕ = container_after c q space in
    record {
      number = (answered c q space).number;
      from = stretch_from c e;
      to = stretch_to c e;
      written = passing (in_written c q e) (length c) 0;
      changed = differences 0 c e;
    }

-- A row of the table: number, stretch, written, changed.
abbrev pub touches : ℕ → ℕ → ℕ → List ℕ → List ℕ → Touch
touches n a b is js = record { number = n; from = a; to = b; written = is; changed = js }

-- The table of what is touched: P17 (a write inside the data; up to the end; two at 0 and 2; of the bytes that are
-- there), P18 (a write at the end; from before it; past it; past it and then at it), P19 (a cut by one byte; to
-- nothing; to the size), P20 (a write over the end and a cut inside it; a write past the end and a cut to the size; a
-- byte more than the room).
abbrev pub rewrites : List (List ℕ)
rewrites =
    write (bytes_at 1 (88 ∷ 89 ∷ []) ∷ [])
    ∷ write (bytes_at 3 (88 ∷ 89 ∷ []) ∷ [])
    ∷ write (bytes_at 0 (88 ∷ []) ∷ bytes_at 2 (89 ∷ []) ∷ [])
    ∷ write (bytes_at 1 (66 ∷ 67 ∷ []) ∷ [])
    ∷ write (bytes_at 5 (70 ∷ []) ∷ [])
    ∷ write (bytes_at 4 (88 ∷ 70 ∷ []) ∷ [])
    ∷ write (bytes_at 6 (71 ∷ []) ∷ [])
    ∷ write (bytes_at 6 (71 ∷ []) ∷ bytes_at 5 (70 ∷ []) ∷ [])
    ∷ test_and_write [] [] 1 4
    ∷ test_and_write [] [] 1 0
    ∷ test_and_write [] [] 1 5
    ∷ test_and_write [] (bytes_at 2 (88 ∷ 89 ∷ 90 ∷ 91 ∷ []) ∷ []) 1 4
    ∷ test_and_write [] (bytes_at 9 (88 ∷ []) ∷ []) 1 5
    ∷ write (bytes_at 7 (71 ∷ []) ∷ [])
    ∷ []

-- What each touches, in the same order.
abbrev pub touched : List Touch
touched =
    touches 0 473 569 (469 ∷ 470 ∷ []) (469 ∷ 470 ∷ [])
    ∷ touches 0 473 569 (471 ∷ 472 ∷ []) (471 ∷ 472 ∷ [])
    ∷ touches 0 473 569 (468 ∷ 470 ∷ []) (468 ∷ 470 ∷ [])
    ∷ touches 0 473 569 (469 ∷ 470 ∷ []) []
    ∷ touches 0 473 570 (473 ∷ []) (91 ∷ 99 ∷ 473 ∷ 476 ∷ 477 ∷ 480 ∷ 481 ∷ 484 ∷ 485 ∷ 549 ∷ 569 ∷ [])
    ∷ touches 0 473 570 (472 ∷ 473 ∷ [])
    (91 ∷ 99 ∷ 472 ∷ 473 ∷ 476 ∷ 477 ∷ 480 ∷ 481 ∷ 484 ∷ 485 ∷ 549 ∷ 569 ∷ [])
    ∷ touches 0 473 571 (474 ∷ [])
    (91 ∷ 99 ∷ 474 ∷ 476 ∷ 478 ∷ 480 ∷ 482 ∷ 484 ∷ 485 ∷ 486 ∷ 549 ∷ 550 ∷ 569 ∷ 570 ∷ [])
    ∷ touches 0 473 571 (473 ∷ 474 ∷ [])
    (91 ∷ 99 ∷ 473 ∷ 474 ∷ 476 ∷ 478 ∷ 480 ∷ 482 ∷ 484 ∷ 485 ∷ 486 ∷ 549 ∷ 550 ∷ 569 ∷ 570 ∷ [])
    ∷ touches 0 472 569 [] (91 ∷ 472 ∷ [])
    ∷ touches 0 468 569 [] (91 ∷ 468 ∷ 469 ∷ 470 ∷ 471 ∷ 472 ∷ [])
    ∷ touches 0 473 569 [] []
    ∷ touches 0 472 569 (470 ∷ 471 ∷ []) (91 ∷ 470 ∷ 471 ∷ 472 ∷ [])
    ∷ touches 0 473 569 [] []
    ∷ touches 11 473 569 [] []
    ∷ []

-- ABCDE with 8 bytes of slack, in so many bytes: the data ends at 473, the count stands at 481, the used bytes end at
-- 485.
abbrev pub roomy : ℕ → List ℕ
roomy n = spare n letters 8

-- A cancel of the lease of owner k, as bytes.
abbrev pub cancel_lease : ℕ → List ℕ
cancel_lease k = 4 ∷ replicate 32 k

-- Requests one after the other on a container, and what they end in: the answers, the data and the slack in the end,
-- and the used lengths before them and after each.
pub record Start : Type 0 where
  pub container : List ℕ
  pub requests : List (List ℕ)

pub record Ending : Type 0 where
  pub answers : List ℕ
  pub bytes : List ℕ
  pub slack : ℕ
  pub used : List ℕ

unfoldable pub ending : Start → Ending
ending x =
    let e : List ℕ = finally x.requests x.container in
    record {
      answers = numbers x.requests x.container;
      bytes = data_of e;
      slack = slack_of e;
      used = used_lengths x.requests x.container;
    }

-- Short names: a case, and a row of what it ends in.
abbrev pub starting : List ℕ → List (List ℕ) → Start
starting c qs = record { container = c; requests = qs }

abbrev pub ends : List ℕ → List ℕ → ℕ → List ℕ → Ending
ends ns d k us = record { answers = ns; bytes = d; slack = k; used = us }

-- The table of slack: P30 (a write into the slack; into it with a gap; exactly to its end; across its end, with no room
-- and with room; past its end), P31 (a cut and a write again; a cut to the size and a request that asks for nothing; a
-- write past the slack and a cut inside it, so that a size past the room exists on the way), P32 (a fifth lease on
-- empty data with 8 bytes of slack, with a byte too little and with room, and then a write into the slack and its
-- cancel).
abbrev pub spared : List Start
spared =
    starting (roomy 485) (write (bytes_at 5 (70 ∷ 71 ∷ []) ∷ []) ∷ [])
    ∷ starting (roomy 485) (write (bytes_at 6 (71 ∷ []) ∷ []) ∷ [])
    ∷ starting (roomy 485) (write (bytes_at 5 (replicate 8 70) ∷ []) ∷ [])
    ∷ starting (roomy 485) (write (bytes_at 5 (replicate 9 70) ∷ []) ∷ [])
    ∷ starting (roomy 486) (write (bytes_at 5 (replicate 9 70) ∷ []) ∷ [])
    ∷ starting (roomy 486) (write (bytes_at 13 (78 ∷ []) ∷ []) ∷ [])
    ∷ starting (roomy 485) (test_and_write [] [] 1 2 ∷ write (bytes_at 4 (90 ∷ []) ∷ []) ∷ [])
    ∷ starting (roomy 485) (test_and_write [] [] 1 5 ∷ write [] ∷ [])
    ∷ starting (roomy 485) (test_and_write [] (bytes_at 99 (88 ∷ []) ∷ []) 1 6 ∷ [])
    ∷ starting (spare 571 [] 8) (add_lease 1 ∷ add_lease 2 ∷ add_lease 3 ∷ add_lease 4 ∷ add_lease 5 ∷ [])
    ∷ starting (spare 572 [] 8)
    (add_lease 1 ∷ add_lease 2 ∷ add_lease 3 ∷ add_lease 4 ∷ add_lease 5 ∷ write (bytes_at 0 (65 ∷ 66 ∷ []) ∷ [])
    ∷ cancel_lease 5 ∷ [])
    ∷ []

-- What each ends in, in the same order.
abbrev pub endings : List Ending
endings =
    ends (0 ∷ []) (65 ∷ 66 ∷ 67 ∷ 68 ∷ 69 ∷ 70 ∷ 71 ∷ []) 6 (485 ∷ 485 ∷ [])
    ∷ ends (0 ∷ []) (65 ∷ 66 ∷ 67 ∷ 68 ∷ 69 ∷ 0 ∷ 71 ∷ []) 6 (485 ∷ 485 ∷ [])
    ∷ ends (0 ∷ []) (letters ++ replicate 8 70) 0 (485 ∷ 485 ∷ [])
    ∷ ends (11 ∷ []) letters 8 (485 ∷ 485 ∷ [])
    ∷ ends (0 ∷ []) (letters ++ replicate 9 70) 0 (485 ∷ 486 ∷ [])
    ∷ ends (0 ∷ []) (letters ++ (replicate 8 0 ++ (78 ∷ []))) 0 (485 ∷ 486 ∷ [])
    ∷ ends (0 ∷ 0 ∷ []) (65 ∷ 66 ∷ 0 ∷ 0 ∷ 90 ∷ []) 8 (485 ∷ 485 ∷ 485 ∷ [])
    ∷ ends (0 ∷ 0 ∷ []) letters 8 (485 ∷ 485 ∷ 485 ∷ [])
    ∷ ends (0 ∷ []) (65 ∷ 66 ∷ 67 ∷ 68 ∷ 69 ∷ 0 ∷ []) 7 (485 ∷ 485 ∷ [])
    ∷ ends (0 ∷ 0 ∷ 0 ∷ 0 ∷ 11 ∷ []) [] 8 (replicate 6 480)
    ∷ ends (0 ∷ 0 ∷ 0 ∷ 0 ∷ 0 ∷ 0 ∷ 0 ∷ []) (65 ∷ 66 ∷ []) 6 (replicate 5 480 ++ (572 ∷ 572 ∷ 480 ∷ []))
    ∷ []

-- What a read of nothing is answered on a container.
unfoldable pub judged : List ℕ → ℕ
judged c = outcome c (reading []) 0

-- The table of offset fields and slack bytes: P33 (on ABCDE in 500 bytes, the offset field 468 + s - 1; 468 + s;
-- 468 + s + 1; the last place where the count fits; one past it; 2^64 - 4; 2^64 - 1; a size field of 2^64 - 468; beside
-- one extra lease the last place where it fits; one past it; with 8 bytes of slack, none of them changed; the first,
-- one in the middle and the last of them not zero).
abbrev pub shifted : List (List ℕ)
shifted =
    put offset_at (digits size_width 472) lettered
    ∷ put offset_at (digits size_width 473) lettered
    ∷ put offset_at (digits size_width 474) lettered
    ∷ put offset_at (digits size_width 496) lettered
    ∷ put offset_at (digits size_width 497) lettered
    ∷ put offset_at (digits size_width 18446744073709551612) lettered
    ∷ put offset_at (digits size_width 18446744073709551615) lettered
    ∷ put size_at (digits size_width 18446744073709551148) lettered
    ∷ leased_with 571 2
    ∷ take 571 (leased_with 572 3)
    ∷ roomy 500
    ∷ put 473 (1 ∷ []) (roomy 500)
    ∷ put 477 (1 ∷ []) (roomy 500)
    ∷ put 480 (1 ∷ []) (roomy 500)
    ∷ []

-- What each is answered, in the same order.
abbrev pub judgements : List ℕ
judgements = 2 ∷ 0 ∷ 0 ∷ 0 ∷ 2 ∷ 2 ∷ 2 ∷ 2 ∷ 0 ∷ 2 ∷ 0 ∷ 2 ∷ 2 ∷ 2 ∷ []

-- The table of what is touched beside two bytes of slack, with the used end at 571 of 573: P34 (a write of one byte
-- into the slack; at its last byte; to its end; across it; past it; a byte more than the room; a cut by one byte; to
-- nothing; a write past the slack and a cut inside it; the same and a cut to the size).
abbrev pub fills : List (List ℕ)
fills =
    write (bytes_at 5 (70 ∷ []) ∷ [])
    ∷ write (bytes_at 6 (71 ∷ []) ∷ [])
    ∷ write (bytes_at 5 (70 ∷ 71 ∷ []) ∷ [])
    ∷ write (bytes_at 5 (70 ∷ 71 ∷ 72 ∷ []) ∷ [])
    ∷ write (bytes_at 7 (72 ∷ []) ∷ [])
    ∷ write (bytes_at 9 (74 ∷ []) ∷ [])
    ∷ test_and_write [] [] 1 4
    ∷ test_and_write [] [] 1 0
    ∷ test_and_write [] (bytes_at 9 (88 ∷ []) ∷ []) 1 6
    ∷ test_and_write [] (bytes_at 9 (88 ∷ []) ∷ []) 1 5
    ∷ []

-- What each touches, in the same order.
abbrev pub filled : List Touch
filled =
    touches 0 473 571 (473 ∷ []) (91 ∷ 473 ∷ [])
    ∷ touches 0 473 571 (474 ∷ []) (91 ∷ 474 ∷ [])
    ∷ touches 0 473 571 (473 ∷ 474 ∷ []) (91 ∷ 473 ∷ 474 ∷ [])
    ∷ touches 0 473 572 (473 ∷ 474 ∷ 475 ∷ [])
    (91 ∷ 99 ∷ 473 ∷ 474 ∷ 475 ∷ 478 ∷ 479 ∷ 482 ∷ 483 ∷ 486 ∷ 487 ∷ 551 ∷ 571 ∷ [])
    ∷ touches 0 473 572 (475 ∷ []) (91 ∷ 99 ∷ 475 ∷ 478 ∷ 479 ∷ 482 ∷ 483 ∷ 486 ∷ 487 ∷ 551 ∷ 571 ∷ [])
    ∷ touches 11 473 571 [] []
    ∷ touches 0 472 571 [] (91 ∷ 472 ∷ [])
    ∷ touches 0 468 571 [] (91 ∷ 468 ∷ 469 ∷ 470 ∷ 471 ∷ 472 ∷ [])
    ∷ touches 0 473 571 [] (91 ∷ [])
    ∷ touches 0 473 571 [] []
    ∷ []

-- A buffer of n bytes that does not begin with the magic.
pub record Blank (n : ℕ) (c : List ℕ) : Type 0 where
  pub size : length c ≡ n
  pub no_magic : same (take node_at c) magic ≡ false

-- Data of which nobody wrote the first n bytes.
unfoldable pub behind_zeros : ℕ → List ℕ → List ℕ
behind_zeros n bs = replicate n 0 ++ bs

-- Five leases and then a request.
abbrev pub five_and : List ℕ → List (List ℕ)
five_and q = add_lease 1 ∷ add_lease 2 ∷ add_lease 3 ∷ add_lease 4 ∷ add_lease 5 ∷ q ∷ []

-- A test-and-write of 48 bytes and then these, which it writes at 0.
abbrev pub write_of : List ℕ → List ℕ
write_of bs = write (bytes_at 0 bs ∷ [])

-- The table of long buffers: P35 (create in 65,537 bytes; in 16,777,216), P36 (in the latter a byte at the last place
-- that there is; at the next), P37 (the same two beside five leases, one of them extra), P38 (a request of 65,536
-- bytes; of 65,537). `middle` and `long` stand for any buffers of those two lengths that do not begin with the magic,
-- bs for any 65,488 bytes, q for any 65,537.
abbrev pub long_cases : List ℕ → List ℕ → List ℕ → List ℕ → List Case
long_cases middle long bs q =
    record { buffer = middle; requests = [] }
    ∷ record { buffer = long; requests = [] }
    ∷ record { buffer = long; requests = write (bytes_at 16776743 (65 ∷ []) ∷ []) ∷ [] }
    ∷ record { buffer = long; requests = write (bytes_at 16776744 (65 ∷ []) ∷ []) ∷ [] }
    ∷ record { buffer = long; requests = five_and (write (bytes_at 16776651 (65 ∷ []) ∷ [])) }
    ∷ record { buffer = long; requests = five_and (write (bytes_at 16776652 (65 ∷ []) ∷ [])) }
    ∷ record { buffer = long; requests = write_of bs ∷ [] }
    ∷ record { buffer = long; requests = q ∷ [] }
    ∷ []

-- What each case gives, in the same order.
abbrev pub long_results : List ℕ → List Outcome
long_results bs =
    gives 0 [] [] (472 ∷ [])
    ∷ gives 0 [] [] (472 ∷ [])
    ∷ gives 0 (0 ∷ []) (behind_zeros 16776743 (65 ∷ [])) (472 ∷ 16777216 ∷ [])
    ∷ gives 0 (11 ∷ []) [] (472 ∷ 472 ∷ [])
    ∷ gives 0 (replicate 6 0) (behind_zeros 16776651 (65 ∷ [])) (replicate 5 472 ++ (564 ∷ 16777216 ∷ []))
    ∷ gives 0 (replicate 5 0 ++ (11 ∷ [])) [] (replicate 5 472 ++ (564 ∷ 564 ∷ []))
    ∷ gives 0 (0 ∷ []) bs (472 ∷ 65960 ∷ [])
    ∷ gives 0 (3 ∷ []) [] (472 ∷ 472 ∷ [])
    ∷ []

-- The table of offsets from the end on ABCDE: P39 (a read at the end; of ten bytes across the end from its fourth last
-- byte; from byte 0; from before it, and of no bytes; at the lowest offset; a test at the end of no bytes, and of five;
-- from byte 0; from before it; from byte 0 beside a write at the end; from before it beside such a write), P44 (an
-- offset before byte 0 beside another enabler; beside too little space; beside a false test; beside too little room,
-- where byte 0 itself gives 11; in a request that breaks its format; one that reaches byte 0 only on the size that the
-- write before it gives).
abbrev pub from_end : List Look
from_end =
    look (back 1) 10 6
    ∷ look (back 5) 10 8
    ∷ look (back 6) 10 9
    ∷ look (back 7) 10 9
    ∷ look (back 7) 0 9
    ∷ look (back 2147483648) 1 9
    ∷ tried (check (back 1) 0 3 [] ∷ []) [] 4
    ∷ tried (check (back 1) 5 3 [] ∷ []) [] 4
    ∷ tried (check (back 6) 5 3 letters ∷ []) [] 9
    ∷ tried (check (back 7) 0 3 [] ∷ []) [] 4
    ∷ tried (check (back 6) 5 3 letters ∷ []) (bytes_at (back 1) (88 ∷ []) ∷ []) 9
    ∷ tried (check (back 7) 0 3 [] ∷ []) (bytes_at (back 1) (88 ∷ []) ∷ []) 4
    ∷ record { request = put secret_at (replicate 32 1) (write (bytes_at (back 7) (88 ∷ []) ∷ [])); space = 4 }
    ∷ tried (check (back 7) 5 3 letters ∷ []) [] 0
    ∷ tried (check 0 1 3 [] ∷ []) (bytes_at (back 7) (88 ∷ []) ∷ []) 5
    ∷ tried [] (bytes_at 5 (replicate 24 70) ∷ bytes_at (back 31) [] ∷ []) 4
    ∷ tried [] (bytes_at 5 (replicate 24 70) ∷ bytes_at (back 30) [] ∷ []) 4
    ∷ tried (check (back 7) 0 7 [] ∷ []) [] 4
    ∷ tried [] (bytes_at 5 (70 ∷ []) ∷ bytes_at (back 7) (88 ∷ []) ∷ []) 4
    ∷ []

-- What each gives, in the same order.
abbrev pub from_end_seen : List Seen
from_end_seen =
    shows 0 4 (0 ∷ 0 ∷ 0 ∷ 0 ∷ 9 ∷ 9 ∷ [])
    ∷ shows 0 8 (0 ∷ 0 ∷ 0 ∷ 4 ∷ 66 ∷ 67 ∷ 68 ∷ 69 ∷ [])
    ∷ shows 0 9 (0 ∷ 0 ∷ 0 ∷ 5 ∷ letters)
    ∷ shows 4 0 (replicate 9 9)
    ∷ shows 4 0 (replicate 9 9)
    ∷ shows 4 0 (replicate 9 9)
    ∷ shows 0 4 (0 ∷ 0 ∷ 0 ∷ 0 ∷ [])
    ∷ shows 0 4 (0 ∷ 0 ∷ 0 ∷ 0 ∷ [])
    ∷ shows 0 9 (0 ∷ 0 ∷ 0 ∷ 5 ∷ letters)
    ∷ shows 4 0 (replicate 4 9)
    ∷ shows 0 9 (0 ∷ 0 ∷ 0 ∷ 5 ∷ letters)
    ∷ shows 4 0 (replicate 4 9)
    ∷ shows 4 0 (replicate 4 9)
    ∷ shows 4 0 []
    ∷ shows 4 0 (replicate 5 9)
    ∷ shows 4 0 (replicate 4 9)
    ∷ shows 11 0 (replicate 4 9)
    ∷ shows 3 0 (replicate 4 9)
    ∷ shows 0 0 (replicate 4 9)
    ∷ []

-- ABCDE behind the data, as a request.
abbrev pub append_letters : List ℕ
append_letters = write (bytes_at (back 1) letters ∷ [])

-- A far write of `A`, writes behind it, and a cut to 10, as a request.
abbrev pub far_and : ℕ → List Put → List ℕ
far_and at ws = test_and_write [] (bytes_at at (65 ∷ []) ∷ ws) 1 10

-- The lowest offset, -2,147,483,648.
abbrev pub lowest : ℕ
lowest = back 2147483648

-- The table of writes from the end: P40 (an append on empty data; two in one request; two in two; one and a write over
-- its last byte; a write a byte before byte 0 of empty data; an empty write there; an empty write at the end; an append
-- behind an empty write past the end; behind a gap; over byte 0 behind a gap; before byte 0 there; on ABCDE an append
-- and then a write over byte 0, by the size that the append gives), P41 (an append of the last byte that has room; of
-- one more; after a cut in a request before; before a cut in the same request; a write over byte 1 before that cut, by
-- the size before it), P42 (an append behind a far write and a cut to 10, with room for ten bytes and with one byte
-- less), P43 (the lowest offset behind far writes and before a cut to 10, on the sizes 2^31 - 1, 2^31 and 2^31 - 2; on
-- 2^31 behind an empty write there; behind an empty write at 2^31 - 1, which gives no size).
abbrev pub appends : List Case
appends =
    given 500 (write (bytes_at (back 1) (65 ∷ 66 ∷ []) ∷ []) ∷ [])
    ∷ given 500 (write (bytes_at (back 1) (65 ∷ 66 ∷ []) ∷ bytes_at (back 1) (67 ∷ 68 ∷ []) ∷ []) ∷ [])
    ∷ given 500
    (write (bytes_at (back 1) (65 ∷ 66 ∷ []) ∷ []) ∷ write (bytes_at (back 1) (67 ∷ 68 ∷ []) ∷ []) ∷ [])
    ∷ given 500 (write (bytes_at (back 1) (65 ∷ 66 ∷ []) ∷ bytes_at (back 2) (67 ∷ []) ∷ []) ∷ [])
    ∷ given 500 (write (bytes_at (back 2) (88 ∷ []) ∷ []) ∷ [])
    ∷ given 500 (write (bytes_at (back 2) [] ∷ []) ∷ [])
    ∷ given 500 (write (bytes_at (back 1) [] ∷ []) ∷ [])
    ∷ given 500 (write (bytes_at 9 [] ∷ bytes_at (back 1) (65 ∷ []) ∷ []) ∷ [])
    ∷ given 500 (write (bytes_at 3 (65 ∷ []) ∷ bytes_at (back 1) (66 ∷ []) ∷ []) ∷ [])
    ∷ given 500 (write (bytes_at 3 (65 ∷ []) ∷ bytes_at (back 5) (66 ∷ []) ∷ []) ∷ [])
    ∷ given 500 (write (bytes_at 3 (65 ∷ []) ∷ bytes_at (back 6) (66 ∷ []) ∷ []) ∷ [])
    ∷ given 500 (append_letters ∷ write (bytes_at (back 1) (70 ∷ []) ∷ bytes_at (back 7) (88 ∷ []) ∷ []) ∷ [])
    ∷ given 473 (write (bytes_at (back 1) (65 ∷ []) ∷ []) ∷ [])
    ∷ given 473 (write (bytes_at (back 1) (65 ∷ 66 ∷ []) ∷ []) ∷ [])
    ∷ given 500 (append_letters ∷ test_and_write [] [] 1 2 ∷ write (bytes_at (back 1) (90 ∷ []) ∷ []) ∷ [])
    ∷ given 500 (append_letters ∷ test_and_write [] (bytes_at (back 1) (90 ∷ []) ∷ []) 1 2 ∷ [])
    ∷ given 500 (append_letters ∷ test_and_write [] (bytes_at (back 5) (90 ∷ []) ∷ []) 1 2 ∷ [])
    ∷ given 482 (far_and 2147483647 (bytes_at (back 1) (66 ∷ []) ∷ []) ∷ [])
    ∷ given 481 (far_and 2147483647 (bytes_at (back 1) (66 ∷ []) ∷ []) ∷ [])
    ∷ given 482 (far_and 2147483646 (bytes_at lowest (66 ∷ []) ∷ []) ∷ [])
    ∷ given 482 (far_and 2147483647 (bytes_at lowest (66 ∷ []) ∷ []) ∷ [])
    ∷ given 482 (far_and 2147483645 (bytes_at lowest (66 ∷ []) ∷ []) ∷ [])
    ∷ given 482 (far_and 2147483647 (bytes_at lowest [] ∷ bytes_at lowest (66 ∷ []) ∷ []) ∷ [])
    ∷ given 482 (test_and_write [] (bytes_at 2147483647 [] ∷ bytes_at lowest (66 ∷ []) ∷ []) 1 10 ∷ [])
    ∷ []

-- What each case gives, in the same order.
abbrev pub appended : List Outcome
appended =
    gives 0 (0 ∷ []) (65 ∷ 66 ∷ []) (472 ∷ 474 ∷ [])
    ∷ gives 0 (0 ∷ []) (65 ∷ 66 ∷ 67 ∷ 68 ∷ []) (472 ∷ 476 ∷ [])
    ∷ gives 0 (0 ∷ 0 ∷ []) (65 ∷ 66 ∷ 67 ∷ 68 ∷ []) (472 ∷ 474 ∷ 476 ∷ [])
    ∷ gives 0 (0 ∷ []) (65 ∷ 67 ∷ []) (472 ∷ 474 ∷ [])
    ∷ gives 0 (4 ∷ []) [] (472 ∷ 472 ∷ [])
    ∷ gives 0 (4 ∷ []) [] (472 ∷ 472 ∷ [])
    ∷ gives 0 (0 ∷ []) [] (472 ∷ 472 ∷ [])
    ∷ gives 0 (0 ∷ []) (65 ∷ []) (472 ∷ 473 ∷ [])
    ∷ gives 0 (0 ∷ []) (0 ∷ 0 ∷ 0 ∷ 65 ∷ 66 ∷ []) (472 ∷ 477 ∷ [])
    ∷ gives 0 (0 ∷ []) (66 ∷ 0 ∷ 0 ∷ 65 ∷ []) (472 ∷ 476 ∷ [])
    ∷ gives 0 (4 ∷ []) [] (472 ∷ 472 ∷ [])
    ∷ gives 0 (0 ∷ 0 ∷ []) (88 ∷ 66 ∷ 67 ∷ 68 ∷ 69 ∷ 70 ∷ []) (472 ∷ 477 ∷ 478 ∷ [])
    ∷ gives 0 (0 ∷ []) (65 ∷ []) (472 ∷ 473 ∷ [])
    ∷ gives 0 (11 ∷ []) [] (472 ∷ 472 ∷ [])
    ∷ gives 0 (0 ∷ 0 ∷ 0 ∷ []) (65 ∷ 66 ∷ 90 ∷ []) (472 ∷ 477 ∷ 477 ∷ 477 ∷ [])
    ∷ gives 0 (0 ∷ 0 ∷ []) (65 ∷ 66 ∷ []) (472 ∷ 477 ∷ 477 ∷ [])
    ∷ gives 0 (0 ∷ 0 ∷ []) (65 ∷ 90 ∷ []) (472 ∷ 477 ∷ 477 ∷ [])
    ∷ gives 0 (0 ∷ []) (replicate 10 0) (472 ∷ 482 ∷ [])
    ∷ gives 0 (11 ∷ []) [] (472 ∷ 472 ∷ [])
    ∷ gives 0 (0 ∷ []) (66 ∷ replicate 9 0) (472 ∷ 482 ∷ [])
    ∷ gives 0 (0 ∷ []) (0 ∷ 66 ∷ replicate 8 0) (472 ∷ 482 ∷ [])
    ∷ gives 0 (4 ∷ []) [] (472 ∷ 472 ∷ [])
    ∷ gives 0 (0 ∷ []) (0 ∷ 66 ∷ replicate 8 0) (472 ∷ 482 ∷ [])
    ∷ gives 0 (4 ∷ []) [] (472 ∷ 472 ∷ [])
    ∷ []

-- The claim of the tables.
pub record EdgesHold : Type 0 where
  -- every case gives its result
  pub table : (long : List ℕ) → length long ≡ 16777217 → map result (cases long) ≡ results
  -- the whole request on empty data is done, with four bytes of reply
  pub whole_size : length request62 ≡ 62
  pub whole_answer : answered empty request62 nines ≡ answer_of 0 no_node 4
  -- the reply is 00 00 00 00, and the bytes after it stay
  pub whole_reply : reply_after empty request62 nines ≡ 0 ∷ 0 ∷ 0 ∷ 0 ∷ 9 ∷ 9 ∷ []
  -- its write is made
  pub whole_data : data_of (container_after empty request62 nines) ≡ 0 ∷ 0 ∷ 0 ∷ 65 ∷ 66 ∷ []
  -- every row of the table of reads gives what stands beside it
  pub short : map seen reads ≡ returned
  -- the two fields are the bytes from 84 up to 100
  pub fields : passing in_fields (length leased) 0
      ≡ 84 ∷ 85 ∷ 86 ∷ 87 ∷ 88 ∷ 89 ∷ 90 ∷ 91 ∷ 92 ∷ 93 ∷ 94 ∷ 95 ∷ 96 ∷ 97 ∷ 98 ∷ 99 ∷ []
  -- every row of the table of what is touched touches what stands beside it
  pub stretches : map (touch leased) rewrites ≡ touched
  -- every row of the table of slack ends in what stands beside it
  pub slack : map ending spared ≡ endings
  -- every row of the table of offset fields and slack bytes is answered with the number beside it
  pub places : map judged shifted ≡ judgements
  -- every row of the table of what is touched beside slack touches what stands beside it
  pub stretches_in_slack : map (touch (leased_with 573 2)) fills ≡ filled
  -- every case of a long buffer gives its result
  pub long_table : (middle long bs q : List ℕ) → Blank 65537 middle → Blank 16777216 long → length bs ≡ 65488 →
      length q ≡ 65537 → map result (long_cases middle long bs q) ≡ long_results bs
  -- its request that writes bs has 65,536 bytes
  pub long_request : (bs : List ℕ) → length bs ≡ 65488 → length (write_of bs) ≡ 65536
  -- every row of the table of offsets from the end gives what stands beside it
  pub from_end_holds : map seen from_end ≡ from_end_seen
  -- every case of writes from the end gives its result
  pub append_table : map result appends ≡ appended
