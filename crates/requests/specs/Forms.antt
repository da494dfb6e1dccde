-- What taking a request apart answers: the request that each form stands for, and that what it names lies inside the
-- bytes.
use Rattle.std.specs.Prelude.{ℕ, ◌+◌, ◌*◌, ◌≤◌, ◌≡◌, true, cond, not, List, eqb, length}
use Rattle.std.specs.Prelude.{Option as Maybe, Some, None}
use Rattle.std.proofs.Math.Option.{Option, none, some}
use Rattle.std.specs.Bool.{then_some}
use Rattle.octets.specs.Lists.{is_some}
use Rattle.format.specs.Layout.{record_size, secret_size, expiry_of, renewal_of}
use Rattle.format.specs.Container.{held}
use Rattle.rules.specs.Requests.{Test, Write, Request, test_write, add, renew, cancel, read, request_limit}
use Rattle.rules.specs.Requests.{entry_limit, entry_size, test_size, entry_count, entry_specimen, test_entry_ok, all_from}
use Rattle.rules.specs.Requests.{sum_from, tests_from, writes_from, reads_from, request_of}
use Rattle.requests.specs.Cursors.{bytes_from}
use Rattle.requests.specs.declared.cursors.Cursor.{Cursor}
use Rattle.requests.specs.declared.cursors.Next.{Next}
use Rattle.requests.specs.declared.cursors.Record.{Record}
use Rattle.requests.specs.declared.cursors.Header.{Header}
use Rattle.requests.specs.declared.forms.Table.{Table}
use Rattle.requests.specs.declared.forms.Parted.{Parted}
use Rattle.requests.specs.declared.forms.Form.{Form}
use Rattle.requests.specs.declared.forms.Form.TheVariants.{TestWrite, Add, Renew, Cancel}
use Rattle.requests.specs.declared.forms.Form.TheVariants.{Read as ReadForm}

-- ---- what each form stands for (docs/RULES.md, Q3)
-- The outcome's number for each case: 3 for a request that breaks its format, and so has no form, 0 for every other.
abbrev pub form_number : Maybe Form → ℕ
form_number None = 3
form_number (Some f) = 0

-- The form of a table of reads.
abbrev pub form_of_read : Maybe Table → Maybe Form
form_of_read None = None
form_of_read (Some t) = Some (ReadForm t)

-- The parts of a test-and-write, and the reads of a table.
abbrev pub tests_in : Parted → List ℕ → List Test
tests_in t q = tests_from t.tests.count t.tests.first.at t.specimens.at q

abbrev pub writes_in : Parted → List ℕ → List Write
writes_in t q = writes_from t.writes.count t.writes.first.at t.bodies.at q

-- The cut to a new length, if there is one.
abbrev pub cut_in : Maybe ℕ → Option ℕ
cut_in None = none
cut_in (Some n) = some n

abbrev pub write_in : Parted → List ℕ → Request
write_in t q = test_write (bytes_from t.enabler secret_size q) (tests_in t q) (writes_in t q) (cut_in t.cut)

abbrev pub read_in : Table → List ℕ → Request
read_in t q = read (reads_from t.count t.first.at q)

-- The request that a form of the bytes q stands for; none where there is no form.
abbrev pub asked_by : List ℕ → Form → Request
asked_by q (TestWrite t) = write_in t q
asked_by q (Add r) = add (bytes_from r.whole record_size q)
asked_by q (Renew k x) = renew (bytes_from k secret_size q) x
asked_by q (Cancel k) = cancel (bytes_from k secret_size q)
asked_by q (ReadForm t) = read_in t q

abbrev pub asked : List ℕ → Maybe Form → Option Request
asked q None = none
asked q (Some f) = some (asked_by q f)

-- ---- inside the request
-- The n bytes from a cursor on.
abbrev pub BytesIn : List ℕ → Cursor → ℕ → Type 0
BytesIn q k n = k.at + n ≤ length q

-- A table of tests, writes or reads.
pub record TableIn (q : List ℕ) (t : Table) : Type 0 where
  pub wide : entry_size ≤ t.stride
  pub narrow : t.stride ≤ test_size
  pub few : t.count ≤ entry_limit
  pub inside : t.first.at + t.stride * t.count ≤ length q

-- A test-and-write's parts.
pub record PartedIn (q : List ℕ) (t : Parted) : Type 0 where
  pub short : length q ≤ request_limit
  pub enabler : BytesIn q t.enabler secret_size
  pub tests : TableIn q t.tests
  pub tests_stride : t.tests.stride ≡ test_size
  pub writes : TableIn q t.writes
  pub writes_stride : t.writes.stride ≡ entry_size
  pub specimens :
      t.specimens.at + sum_from (λ p. entry_specimen p q) test_size t.tests.count t.tests.first.at ≤ length q
  pub bodies :
      t.bodies.at + sum_from (λ p. entry_count p q) entry_size t.writes.count t.writes.first.at ≤ length q

-- A lease record that has an owner, and its fields.
pub record RecordIn (q : List ℕ) (r : Record) : Type 0 where
  pub whole : BytesIn q r.whole record_size
  pub renewal : BytesIn q r.renewal secret_size
  pub owned : held (bytes_from r.whole record_size q) ≡ true
  pub renewal_is : bytes_from r.renewal secret_size q ≡ renewal_of (bytes_from r.whole record_size q)
  pub expiry_is : r.expiry ≡ expiry_of (bytes_from r.whole record_size q)

-- What a form names lies inside the request.
abbrev pub FormIn : List ℕ → Form → Type 0
FormIn q (TestWrite t) = PartedIn q t
FormIn q (Add r) = RecordIn q r
FormIn q (Renew k x) = BytesIn q k secret_size
FormIn q (Cancel k) = BytesIn q k secret_size
FormIn q (ReadForm t) = TableIn q t × (t.stride ≡ entry_size)

abbrev pub Inside : List ℕ → Maybe Form → Type 0
Inside q None = Unit {0}
Inside q (Some f) = FormIn q f

-- The form r of the bytes q, if any, stands for the request w, if any (docs/RULES.md, Q3).
pub record Takes (q : List ℕ) (w : Option Request) (r : Maybe Form) : Type 0 where
  pub number : form_number r ≡ cond (is_some w) 0 3
  pub asks : asked q r ≡ w
  pub inside : Inside q r

-- A test-and-write and a read whose form is known, for whoever carries them out.
pub record WriteRequest (q : List ℕ) (t : Parted) : Type 0 where
  pub parted : PartedIn q t
  pub is : request_of q ≡ some (write_in t q)

pub record ReadRequest (q : List ℕ) (t : Table) : Type 0 where
  pub table : TableIn q t
  pub stride : t.stride ≡ entry_size
  pub is : request_of q ≡ some (read_in t q)

-- ---- steps on the way
-- What passing over n entries from p on finds: the lengths added up, of tests if every entry is good, and the place after.
abbrev pub tests_passed : ℕ → ℕ → List ℕ → Next (Maybe ℕ)
tests_passed p n q = record {
  value = then_some (all_from (test_entry_ok q) test_size n p) (sum_from (λ i. entry_specimen i q) test_size n p);
  next = record { at = p + test_size * n };
}

abbrev pub writes_passed : ℕ → ℕ → List ℕ → Next ℕ
writes_passed p n q =
    record { value = sum_from (λ i. entry_count i q) entry_size n p; next = record { at = p + entry_size * n } }

-- The form of parts that have been found: the enabler stands behind the header.
abbrev pub parted_as : Header → Cursor → Cursor → Cursor → Cursor → Form
parted_as h ts ws ss bs = TestWrite (record {
  enabler = h.next;
  tests = record { first = ts; count = h.tests; stride = test_size };
  writes = record { first = ws; count = h.writes; stride = entry_size };
  specimens = ss;
  bodies = bs;
  cut = then_some (not (eqb h.flag 0)) h.new;
})
