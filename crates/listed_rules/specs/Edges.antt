-- Numbers at the edges of the list (docs/RULES.md, P58 to P63), as tables: which lists are refused, what writes and cuts
-- make of a list, and when it has too many rows. Proved in proofs/EdgeTable.antt.
use Rattle.std.specs.Prelude.{ℕ, zero, suc, ◌+◌, ◌≡◌, List, [], ◌∷◌, ◌++◌, map, length, take, replicate}
use Rattle.octets.specs.Numbers.{digits}
use Rattle.octets.specs.Strings.{join}
use Rattle.format.specs.Layout.{data_of}
use Rattle.rules.specs.Outcomes.{created_container}
use Rattle.rules.specs.Edges.{enabler, node, space, back, bytes_at, check, write, test_and_write, add_lease, read_entry}
use Rattle.rules.specs.Edges.{reading, spare}
use Rattle.stretches.specs.Stretches.{Stretch, stretch}
use Rattle.stretches.specs.List.{list_length, stretches_of, row_bytes, list_bytes, fresh_list}
use Rattle.listed_rules.specs.Outcomes.{outcome_beside, container_beside, list_after}
use Rattle.listed_rules.specs.Runs.{Slot}

-- ---- lists that are refused
-- A list whose count is n, whatever rows follow it, with zeros to the end.
abbrev pub said : ℕ → List Stretch → List ℕ
said n rs = take list_length (digits 4 n ++ (join (map row_bytes rs) ++ replicate list_length 0))

-- Ten bytes of data, of which the fifth is not zero, with three bytes of slack in 500.
abbrev pub fifth : List ℕ
fifth = spare 500 (0 ∷ 0 ∷ 0 ∷ 0 ∷ 5 ∷ 0 ∷ 0 ∷ 0 ∷ 0 ∷ 0 ∷ []) 3

-- n rows of one position each, every second from p on.
unfoldable pub dotted : ℕ → ℕ → List Stretch
dotted zero p = []
dotted (suc n) p = stretch p 1 ∷ dotted n (p + 2)

-- A list of 256 rows, the first of three positions, beside 514 zeros.
abbrev pub full : Slot
full = record { container = spare 1100 (replicate 514 0) 0; list = list_bytes (stretch 0 3 ∷ dotted 255 4) }

-- The list of no rows with a byte at its end.
abbrev pub trailing : List ℕ
trailing = take 2051 fresh_list ++ (1 ∷ [])

-- A container beside a list, and a request; the number that it gets, beside eight bytes of reply space.
pub record Beside : Type 0 where
  pub container : List ℕ
  pub list : List ℕ
  pub request : List ℕ

abbrev pub asks : List ℕ → List ℕ → List ℕ → Beside
asks c l q = record { container = c; list = l; request = q }

unfoldable pub number_of : Beside → ℕ
number_of x = outcome_beside x.container x.list x.request (length space)

-- A write of `X` at 0 under another enabler.
abbrev pub foreign : List ℕ
foreign = (1 ∷ 0 ∷ 1 ∷ 0 ∷ []) ++ (digits 4 0 ++ (replicate 32 1 ++ (digits 4 0 ++ (digits 4 1 ++ (88 ∷ [])))))

-- P58, each beside the empty request: lists of 2,051 bytes, of 2,053 and of none; a count of 257 before 256 rows that are
-- good beside 514 zeros; a row of length 0; rows that touch, that overlap, that fall; a row that ends behind the data, also
-- in the slack; one over a byte that is not zero, at its end and at its start; a byte at the list's end, a row behind the
-- last; one whose end is 2^32 or more. Then lists that are good: no rows, up to the data's end, the two stretches of
-- zeros, fewer than there could be.
abbrev pub refusals : List Beside
refusals =
    asks fifth (take 2051 fresh_list) []
    ∷ asks fifth (fresh_list ++ (0 ∷ [])) []
    ∷ asks fifth [] []
    ∷ asks full.container (said 257 (stretch 0 3 ∷ dotted 255 4)) []
    ∷ asks fifth (said 1 (stretch 2 0 ∷ [])) []
    ∷ asks fifth (said 2 (stretch 0 1 ∷ stretch 1 1 ∷ [])) []
    ∷ asks fifth (said 2 (stretch 0 3 ∷ stretch 2 2 ∷ [])) []
    ∷ asks fifth (said 2 (stretch 5 1 ∷ stretch 0 1 ∷ [])) []
    ∷ asks fifth (said 1 (stretch 8 3 ∷ [])) []
    ∷ asks fifth (said 1 (stretch 10 1 ∷ [])) []
    ∷ asks fifth (said 1 (stretch 3 2 ∷ [])) []
    ∷ asks fifth (said 1 (stretch 4 2 ∷ [])) []
    ∷ asks fifth trailing []
    ∷ asks fifth (said 0 (stretch 0 1 ∷ [])) []
    ∷ asks fifth (said 1 (stretch 1 4294967295 ∷ [])) []
    ∷ asks fifth fresh_list []
    ∷ asks fifth (said 1 (stretch 8 2 ∷ [])) []
    ∷ asks fifth (said 2 (stretch 0 4 ∷ stretch 5 5 ∷ [])) []
    ∷ asks fifth (said 1 (stretch 1 2 ∷ [])) []
    -- P59, beside a bad list: 471 bytes; a buffer of zeros; a read, an add, a write under another enabler, one before
    -- byte 0; then the last two beside a good list
    ∷ asks (replicate 471 0) [] []
    ∷ asks (replicate 500 0) [] []
    ∷ asks fifth [] (reading (read_entry 0 4 ∷ []))
    ∷ asks fifth [] (add_lease 1)
    ∷ asks fifth [] foreign
    ∷ asks fifth [] (write (bytes_at (back 12) (88 ∷ []) ∷ []))
    ∷ asks fifth fresh_list foreign
    ∷ asks fifth fresh_list (write (bytes_at (back 12) (88 ∷ []) ∷ []))
    ∷ []

abbrev pub refused : List ℕ
refused =
    16 ∷ 16 ∷ 16 ∷ 16 ∷ 16 ∷ 16 ∷ 16 ∷ 16 ∷ 16 ∷ 16 ∷ 16 ∷ 16 ∷ 16 ∷ 16 ∷ 16 ∷ 3 ∷ 3 ∷ 3 ∷ 3
    ∷ 1 ∷ 2 ∷ 16 ∷ 16 ∷ 16 ∷ 16 ∷ 5 ∷ 4 ∷ []

-- ---- what writes and cuts make of a list
-- The numbers of requests, each on the slot that the one before left, and the slot in the end.
unfoldable pub numbers_in : List (List ℕ) → Slot → List ℕ
numbers_in [] s = []
numbers_in (q ∷ qs) s =
    outcome_beside s.container s.list q (length space)
    ∷ numbers_in qs (record {
      container = container_beside s.container s.list q space;
      list = list_after s.container s.list q space;
    })

unfoldable pub finally_in : List (List ℕ) → Slot → Slot
finally_in [] s = s
finally_in (q ∷ qs) s = finally_in qs (record {
  container = container_beside s.container s.list q space;
  list = list_after s.container s.list q space;
})

-- What requests give: their numbers, the data and the stretches in the end.
pub record Listing : Type 0 where
  pub answers : List ℕ
  pub bytes : List ℕ
  pub stretches : List Stretch

unfoldable pub listing : Slot → List (List ℕ) → Listing
listing s qs = record {
  answers = numbers_in qs s;
  bytes = data_of (finally_in qs s).container;
  stretches = stretches_of (finally_in qs s).list;
}

abbrev pub lists : List ℕ → List ℕ → List Stretch → Listing
lists ns d rs = record { answers = ns; bytes = d; stretches = rs }

-- A fresh container in 520 bytes, beside a list of zeros.
abbrev pub freshly : Slot
freshly = record { container = created_container (replicate 520 0) node enabler; list = fresh_list }

-- `AB` at 4, one byte at p, and a request that only cuts.
abbrev pub gap_of_four : List ℕ
gap_of_four = write (bytes_at 4 (65 ∷ 66 ∷ []) ∷ [])

abbrev pub one : ℕ → ℕ → List ℕ
one p b = write (bytes_at p (b ∷ []) ∷ [])

abbrev pub cut : ℕ → List ℕ
cut m = test_and_write [] [] 1 m

-- P60: a gap of four; filled at its left, at its right, in its middle, exactly, across its right end; zeros written into
-- it; an empty write behind the end; appends behind a gap; two gaps in one request; a gap split in the request that
-- makes it, and filled there from the end; a write across a gap's left end; one over a row and a part of the next; a
-- false test, then a read and a lease beside it.
-- P61: cuts to 2, 4, 0 and 5 of what stands behind a gap of four; to 2, and then `Z` at 4; the same where all was
-- written; a write at 6 and a cut to 3 in one request; a cut above the size.
abbrev pub gaps : List (List (List ℕ))
gaps =
    (gap_of_four ∷ [])
    ∷ (gap_of_four ∷ one 0 67 ∷ [])
    ∷ (gap_of_four ∷ one 3 67 ∷ [])
    ∷ (gap_of_four ∷ one 1 67 ∷ [])
    ∷ (gap_of_four ∷ write (bytes_at 0 (67 ∷ 68 ∷ 69 ∷ 70 ∷ []) ∷ []) ∷ [])
    ∷ (gap_of_four ∷ write (bytes_at 3 (67 ∷ 68 ∷ 69 ∷ []) ∷ []) ∷ [])
    ∷ (gap_of_four ∷ write (bytes_at 1 (0 ∷ 0 ∷ []) ∷ []) ∷ [])
    ∷ (write (bytes_at 9 [] ∷ []) ∷ [])
    ∷ (one 2 65 ∷ one (back 1) 66 ∷ one 7 67 ∷ [])
    ∷ (write (bytes_at 1 (65 ∷ []) ∷ bytes_at 4 (66 ∷ []) ∷ []) ∷ [])
    ∷ (write (bytes_at 5 (65 ∷ []) ∷ bytes_at 2 (66 ∷ []) ∷ []) ∷ [])
    ∷ (write (bytes_at 3 (65 ∷ []) ∷ bytes_at (back 5) (66 ∷ []) ∷ []) ∷ [])
    ∷ (one 0 65 ∷ one 4 66 ∷ write (bytes_at 0 (67 ∷ 68 ∷ []) ∷ []) ∷ [])
    ∷ (gap_of_four ∷ one 1 67 ∷ write (bytes_at 0 (68 ∷ 69 ∷ 70 ∷ []) ∷ []) ∷ [])
    ∷ (gap_of_four
    ∷ test_and_write (check 0 1 3 (88 ∷ []) ∷ []) (bytes_at 0 (67 ∷ []) ∷ []) 0 0
    ∷ reading (read_entry 0 4 ∷ [])
    ∷ add_lease 1
    ∷ [])
    ∷ (gap_of_four ∷ cut 2 ∷ [])
    ∷ (gap_of_four ∷ cut 4 ∷ [])
    ∷ (gap_of_four ∷ cut 0 ∷ [])
    ∷ (gap_of_four ∷ cut 5 ∷ [])
    ∷ (gap_of_four ∷ cut 2 ∷ one 4 90 ∷ [])
    ∷ (write (bytes_at 0 (65 ∷ 66 ∷ 67 ∷ 68 ∷ 69 ∷ 70 ∷ []) ∷ []) ∷ cut 2 ∷ one 4 90 ∷ [])
    ∷ (test_and_write [] (bytes_at 6 (65 ∷ []) ∷ []) 1 3 ∷ [])
    ∷ (gap_of_four ∷ cut 9 ∷ [])
    ∷ []

abbrev pub gapped : List Listing
gapped =
    lists (0 ∷ []) (0 ∷ 0 ∷ 0 ∷ 0 ∷ 65 ∷ 66 ∷ []) (stretch 0 4 ∷ [])
    ∷ lists (0 ∷ 0 ∷ []) (67 ∷ 0 ∷ 0 ∷ 0 ∷ 65 ∷ 66 ∷ []) (stretch 1 3 ∷ [])
    ∷ lists (0 ∷ 0 ∷ []) (0 ∷ 0 ∷ 0 ∷ 67 ∷ 65 ∷ 66 ∷ []) (stretch 0 3 ∷ [])
    ∷ lists (0 ∷ 0 ∷ []) (0 ∷ 67 ∷ 0 ∷ 0 ∷ 65 ∷ 66 ∷ []) (stretch 0 1 ∷ stretch 2 2 ∷ [])
    ∷ lists (0 ∷ 0 ∷ []) (67 ∷ 68 ∷ 69 ∷ 70 ∷ 65 ∷ 66 ∷ []) []
    ∷ lists (0 ∷ 0 ∷ []) (0 ∷ 0 ∷ 0 ∷ 67 ∷ 68 ∷ 69 ∷ []) (stretch 0 3 ∷ [])
    ∷ lists (0 ∷ 0 ∷ []) (0 ∷ 0 ∷ 0 ∷ 0 ∷ 65 ∷ 66 ∷ []) (stretch 0 1 ∷ stretch 3 1 ∷ [])
    ∷ lists (0 ∷ []) [] []
    ∷ lists (0 ∷ 0 ∷ 0 ∷ []) (0 ∷ 0 ∷ 65 ∷ 66 ∷ 0 ∷ 0 ∷ 0 ∷ 67 ∷ []) (stretch 0 2 ∷ stretch 4 3 ∷ [])
    ∷ lists (0 ∷ []) (0 ∷ 65 ∷ 0 ∷ 0 ∷ 66 ∷ []) (stretch 0 1 ∷ stretch 2 2 ∷ [])
    ∷ lists (0 ∷ []) (0 ∷ 0 ∷ 66 ∷ 0 ∷ 0 ∷ 65 ∷ []) (stretch 0 2 ∷ stretch 3 2 ∷ [])
    ∷ lists (0 ∷ []) (66 ∷ 0 ∷ 0 ∷ 65 ∷ []) (stretch 1 2 ∷ [])
    ∷ lists (0 ∷ 0 ∷ 0 ∷ []) (67 ∷ 68 ∷ 0 ∷ 0 ∷ 66 ∷ []) (stretch 2 2 ∷ [])
    ∷ lists (0 ∷ 0 ∷ 0 ∷ []) (68 ∷ 69 ∷ 70 ∷ 0 ∷ 65 ∷ 66 ∷ []) (stretch 3 1 ∷ [])
    ∷ lists (0 ∷ 8 ∷ 0 ∷ 0 ∷ []) (0 ∷ 0 ∷ 0 ∷ 0 ∷ 65 ∷ 66 ∷ []) (stretch 0 4 ∷ [])
    ∷ lists (0 ∷ 0 ∷ []) (0 ∷ 0 ∷ []) (stretch 0 2 ∷ [])
    ∷ lists (0 ∷ 0 ∷ []) (0 ∷ 0 ∷ 0 ∷ 0 ∷ []) (stretch 0 4 ∷ [])
    ∷ lists (0 ∷ 0 ∷ []) [] []
    ∷ lists (0 ∷ 0 ∷ []) (0 ∷ 0 ∷ 0 ∷ 0 ∷ 65 ∷ []) (stretch 0 4 ∷ [])
    ∷ lists (0 ∷ 0 ∷ 0 ∷ []) (0 ∷ 0 ∷ 0 ∷ 0 ∷ 90 ∷ []) (stretch 0 4 ∷ [])
    ∷ lists (0 ∷ 0 ∷ 0 ∷ []) (65 ∷ 66 ∷ 0 ∷ 0 ∷ 90 ∷ []) (stretch 2 2 ∷ [])
    ∷ lists (0 ∷ []) (0 ∷ 0 ∷ 0 ∷ []) (stretch 0 3 ∷ [])
    ∷ lists (0 ∷ 0 ∷ []) (0 ∷ 0 ∷ 0 ∷ 0 ∷ 65 ∷ 66 ∷ []) (stretch 0 4 ∷ [])
    ∷ []

-- P62: one byte at 2,147,483,647 and a cut to 10, in a container of 482 bytes and in one of 481.
abbrev pub far_cut : List ℕ
far_cut = test_and_write [] (bytes_at 2147483647 (65 ∷ []) ∷ []) 1 10

abbrev pub fresh_in : ℕ → Slot
fresh_in n = record { container = created_container (replicate n 0) node enabler; list = fresh_list }

-- ---- when there are too many rows
-- What one request on it gives: its number, how many rows there are then, and the first of them.
pub record Counted : Type 0 where
  pub number : ℕ
  pub rows : ℕ
  pub first : List Stretch

unfoldable pub counting : List ℕ → Counted
counting q =
    let rs : List Stretch = stretches_of (list_after full.container full.list q space) in
    record {
      number = outcome_beside full.container full.list q (length space);
      rows = length rs;
      first = take 2 rs;
    }

abbrev pub counts : ℕ → ℕ → List Stretch → Counted
counts n k rs = record { number = n; rows = k; first = rs }

-- P63: a byte into the first row's middle, which splits it; a byte behind the end, which makes a gap; the first with a
-- byte before it that takes the split's left half away, and with a cut that takes the last row away: 257 rows on the
-- way, 256 in the end; a byte at the first row's start; over the last row; a read; the split with a false test; a byte
-- behind the end for which there is no room, and at the last place for which there is.
abbrev pub crowded : List (List ℕ)
crowded =
    one 1 88
    ∷ one 520 88
    ∷ write (bytes_at 1 (88 ∷ []) ∷ bytes_at 0 (89 ∷ []) ∷ [])
    ∷ test_and_write [] (bytes_at 1 (88 ∷ []) ∷ []) 1 512
    ∷ one 0 88
    ∷ one 512 88
    ∷ reading (read_entry 0 1 ∷ [])
    ∷ test_and_write (check 0 1 3 (88 ∷ []) ∷ []) (bytes_at 1 (88 ∷ []) ∷ []) 0 0
    ∷ one 628 88
    ∷ one 627 88
    ∷ []

abbrev pub counted : List Counted
counted =
    counts 13 256 (stretch 0 3 ∷ stretch 4 1 ∷ [])
    ∷ counts 13 256 (stretch 0 3 ∷ stretch 4 1 ∷ [])
    ∷ counts 0 256 (stretch 2 1 ∷ stretch 4 1 ∷ [])
    ∷ counts 0 256 (stretch 0 1 ∷ stretch 2 1 ∷ [])
    ∷ counts 0 256 (stretch 1 2 ∷ stretch 4 1 ∷ [])
    ∷ counts 0 255 (stretch 0 3 ∷ stretch 4 1 ∷ [])
    ∷ counts 0 256 (stretch 0 3 ∷ stretch 4 1 ∷ [])
    ∷ counts 8 256 (stretch 0 3 ∷ stretch 4 1 ∷ [])
    ∷ counts 11 256 (stretch 0 3 ∷ stretch 4 1 ∷ [])
    ∷ counts 13 256 (stretch 0 3 ∷ stretch 4 1 ∷ [])
    ∷ []

-- All of them.
pub record ListEdgesHold : Type 0 where
  -- every container with its list and request gets the number beside it
  pub refusing : map number_of refusals ≡ refused
  -- every row of requests on a fresh slot gives what stands beside it
  pub listings : map (listing freshly) gaps ≡ gapped
  -- P6's write lists its ten zeros, and with a byte less of buffer is refused
  pub far : listing (fresh_in 482) (far_cut ∷ []) ≡ lists (0 ∷ []) (replicate 10 0) (stretch 0 10 ∷ [])
  pub far_refused : listing (fresh_in 481) (far_cut ∷ []) ≡ lists (11 ∷ []) [] []
  -- every request on the slot with 256 rows gives what stands beside it
  pub crowding : map counting crowded ≡ counted
  -- the bytes of a list
  pub bytes : list_bytes (stretch 1 2 ∷ stretch 260 4 ∷ [])
      ≡ (0 ∷ 0 ∷ 0 ∷ 2 ∷ 0 ∷ 0 ∷ 0 ∷ 1 ∷ 0 ∷ 0 ∷ 0 ∷ 2 ∷ 0 ∷ 0 ∷ 1 ∷ 4 ∷ 0 ∷ 0 ∷ 0 ∷ 4 ∷ []) ++ replicate 2032 0
