-- Requests (docs/RULES.md, Q1 to Q31): a table of contents first, then the bodies. `request_of` reads bytes into a
-- request, and gives none where they break the format (X1 to X17).
use Rattle.std.specs.Prelude.{ℕ, zero, suc, ◌+◌, ◌*◌, Bool, true, cond, ◌&&◌, List, [], ◌∷◌, length, take, drop, get_or, eqb, leb, ℤ}
use Rattle.std.proofs.Math.Option.{Option, none, some}
use Rattle.octets.specs.Numbers.{number_at, signed}
use Rattle.format.specs.Container.{held}
use Rattle.format.specs.Layout.{record_size, secret_size}

-- A test: offset, length, opcode, specimen. A read: offset, length. A write: offset, new bytes (Q14 to Q20, Q31).
pub record Test : Type 0 where
  pub offset : ℤ
  pub count : ℕ
  pub opcode : ℕ
  pub specimen : List ℕ

pub record Read : Type 0 where
  pub offset : ℤ
  pub count : ℕ

pub record Write : Type 0 where
  pub offset : ℤ
  pub bytes : List ℕ

-- The five kinds. A test-and-write holds its enabler, tests, writes, and its cut, if any, to a new length (Q1).
pub data Request : Type 0 where
  test_write : List ℕ → List Test → List Write → Option ℕ → Request
  add : List ℕ → Request
  renew : List ℕ → ℕ → Request
  cancel : List ℕ → Request
  read : List Read → Request

-- A request is at most 65,536 bytes; a table has at most 16 entries (Q1, Q5, Q6, Q29).
abbrev pub request_limit : ℕ
request_limit = 65536

abbrev pub entry_limit : ℕ
entry_limit = 16

-- An entry is offset 4, length 4; a test's entry goes on with opcode 1, a zero byte, specimen length 2 (Q14 to Q20).
abbrev pub entry_size : ℕ
entry_size = 8

abbrev pub padding_at : ℕ
padding_at = entry_size + 1

abbrev pub test_size : ℕ
test_size = padding_at + 3

-- The entry at p of a table: its offset is signed, its length unsigned (B2, Q14 to Q20).
unfoldable pub entry_offset : ℕ → List ℕ → ℤ
entry_offset p q = signed (number_at 4 p q)

unfoldable pub entry_count : ℕ → List ℕ → ℕ
entry_count p q = number_at 4 (p + 4) q

unfoldable pub entry_opcode : ℕ → List ℕ → ℕ
entry_opcode p q = get_or q (p + entry_size) 0

unfoldable pub entry_specimen : ℕ → List ℕ → ℕ
entry_specimen p q = number_at 2 (p + (padding_at + 1)) q

-- A test's opcode is 1 to 6, and a zero byte follows it (Q16, Q17).
abbrev pub entry_ok : ℕ → ℕ → Bool
entry_ok opcode padding = leb 1 opcode && (leb opcode 6 && eqb padding 0)

unfoldable pub test_entry_ok : List ℕ → ℕ → Bool
test_entry_ok q p = entry_ok (entry_opcode p q) (get_or q (p + padding_at) 0)

-- Over n entries of a table, each `stride` bytes after the one before: do all pass; the sum of what they give.
unfoldable pub all_from : (ℕ → Bool) → ℕ → ℕ → ℕ → Bool
all_from test stride zero p = true
all_from test stride (suc n) p = test p && all_from test stride n (p + stride)

unfoldable pub sum_from : (ℕ → ℕ) → ℕ → ℕ → ℕ → ℕ
sum_from f stride zero p = 0
sum_from f stride (suc n) p = f p + sum_from f stride n (p + stride)

-- The n entries from p, whose bodies stand one after the other from b (Q10 to Q13, Q31).
unfoldable pub tests_from : ℕ → ℕ → ℕ → List ℕ → List Test
tests_from zero p b q = []
tests_from (suc n) p b q =
    record {
      offset = entry_offset p q;
      count = entry_count p q;
      opcode = entry_opcode p q;
      specimen = take (entry_specimen p q) (drop b q);
    }
    ∷ tests_from n (p + test_size) (b + entry_specimen p q) q

unfoldable pub writes_from : ℕ → ℕ → ℕ → List ℕ → List Write
writes_from zero p b q = []
writes_from (suc n) p b q =
    record { offset = entry_offset p q; bytes = take (entry_count p q) (drop b q) }
    ∷ writes_from n (p + entry_size) (b + entry_count p q) q

unfoldable pub reads_from : ℕ → ℕ → List ℕ → List Read
reads_from zero p q = []
reads_from (suc n) p q = record { offset = entry_offset p q; count = entry_count p q } ∷ reads_from n (p + entry_size) q

-- Kind 1 (Q4 to Q13): 01, T, V, cut flag, new length 4, enabler 32; T entries of 12, V of 8; specimens; new data.
unfoldable pub test_count : List ℕ → ℕ
test_count q = get_or q 1 0

unfoldable pub write_count : List ℕ → ℕ
write_count q = get_or q 2 0

unfoldable pub cut_flag : List ℕ → ℕ
cut_flag q = get_or q 3 0

unfoldable pub new_length : List ℕ → ℕ
new_length q = number_at 4 4 q

abbrev pub secret_at : ℕ
secret_at = 8

abbrev pub tests_at : ℕ
tests_at = secret_at + secret_size

unfoldable pub writes_at : List ℕ → ℕ
writes_at q = tests_at + test_size * test_count q

unfoldable pub specimens_at : List ℕ → ℕ
specimens_at q = writes_at q + entry_size * write_count q

unfoldable pub new_data_at : List ℕ → ℕ
new_data_at q = specimens_at q + sum_from (λ p. entry_specimen p q) test_size (test_count q) tests_at

-- Where its last body ends (Q13, X10).
unfoldable pub test_write_end : List ℕ → ℕ
test_write_end q = new_data_at q + sum_from (λ p. entry_count p q) entry_size (write_count q) (writes_at q)

-- The new length is 0 when the flag is 0 (Q7, Q8).
unfoldable pub cut_ok : ℕ → ℕ → Bool
cut_ok flag new = leb flag 1 && cond (eqb flag 0) (eqb new 0) true

-- The format holds (X4 to X10).
unfoldable pub test_write_ok : List ℕ → Bool
test_write_ok q =
    leb (test_count q) entry_limit && (leb (write_count q) entry_limit && (cut_ok (cut_flag q) (new_length q)
    && (eqb (test_write_end q) (length q) && all_from (test_entry_ok q) test_size (test_count q) tests_at)))

unfoldable pub cut_of : ℕ → ℕ → Option ℕ
cut_of flag new = cond (eqb flag 0) none (some new)

-- What it asks (Q9 to Q13).
unfoldable pub test_write_of : List ℕ → Request
test_write_of q =
    test_write (take secret_size (drop secret_at q)) (tests_from (test_count q) tests_at (specimens_at q) q)
    (writes_from (write_count q) (writes_at q) (new_data_at q) q) (cut_of (cut_flag q) (new_length q))

-- Kind 2: 02 and a 92-byte record with owner not 0 (Q21, Q22).
unfoldable pub add_ok : List ℕ → Bool
add_ok q = eqb (length q) (1 + record_size) && held (drop 1 q)

-- Kind 3: 03, token 32, expiry 4. Kind 4: 04, token 32 (Q23 to Q27).
unfoldable pub renew_ok : List ℕ → Bool
renew_ok q = eqb (length q) (1 + secret_size + 4)

unfoldable pub cancel_ok : List ℕ → Bool
cancel_ok q = eqb (length q) (1 + secret_size)

-- Kind 5: 05, R, two zero bytes, R entries of 8 (Q28 to Q31).
unfoldable pub read_count : List ℕ → ℕ
read_count q = get_or q 1 0

abbrev pub reads_at : ℕ
reads_at = 4

unfoldable pub read_ok : List ℕ → Bool
read_ok q =
    leb (read_count q) entry_limit && (eqb (get_or q 2 0) 0 && (eqb (get_or q 3 0) 0
    && eqb (reads_at + entry_size * read_count q) (length q)))

-- By the first byte; any other kind, and the empty request, breaks the format (Q1, X2, X3).
unfoldable pub kind_of : List ℕ → ℕ
kind_of q = get_or q 0 0

unfoldable pub by_kind : ℕ → List ℕ → Option Request
by_kind k q =
    cond (eqb k 1) (cond (test_write_ok q) (some (test_write_of q)) none)
    (cond (eqb k 2) (cond (add_ok q) (some (add (drop 1 q))) none)
    (cond (eqb k 3) (cond (renew_ok q) (some (renew (take secret_size (drop 1 q)) (number_at 4 (1 + secret_size) q))) none)
    (cond (eqb k 4) (cond (cancel_ok q) (some (cancel (drop 1 q))) none)
    (cond (eqb k 5) (cond (read_ok q) (some (read (reads_from (read_count q) reads_at q))) none)
    none))))

unfoldable pub request_of : List ℕ → Option Request
request_of q = cond (leb (length q) request_limit) (by_kind (kind_of q) q) none
