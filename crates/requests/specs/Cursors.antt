-- What a cursor's methods read at p, and the place after it.
use Rattle.std.specs.Prelude.{ℕ, ◌+◌, ◌-◌, List, get_or, take, drop}
use Rattle.octets.specs.Numbers.{number_at}
use Rattle.format.specs.Layout.{expiry_at, renewal_at, record_size}
use Rattle.rules.specs.Requests.{padding_at, test_size, entry_offset, entry_count, entry_opcode, entry_specimen}
use Rattle.rules.specs.Requests.{secret_at, reads_at}
use Rattle.requests.specs.declared.cursors.Cursor.{Cursor}
use Rattle.requests.specs.declared.cursors.Next.{Next}
use Rattle.requests.specs.declared.cursors.Body.{Body}
use Rattle.requests.specs.declared.cursors.Record.{Record}
use Rattle.requests.specs.declared.cursors.Entry.{Entry}
use Rattle.requests.specs.declared.cursors.TestEntry.{TestEntry}
use Rattle.requests.specs.declared.cursors.Header.{Header}
use Rattle.requests.specs.declared.cursors.ReadHeader.{ReadHeader}

abbrev pub byte_at : ℕ → List ℕ → Next ℕ
byte_at p q = record { value = get_or q p 0; next = record { at = p + 1 } }

abbrev pub number_in : ℕ → List ℕ → Next ℕ
number_in p q = record { value = number_at 4 p q; next = record { at = p + 4 } }

abbrev pub body_at : ℕ → ℕ → Body
body_at p n = record { from = p; to = p + n; next = record { at = p + n } }

-- The bytes of a body.
abbrev pub body_of : Body → List ℕ → List ℕ
body_of b q = take (b.to - b.from) (drop b.from q)

-- The n bytes from a cursor on.
abbrev pub bytes_from : Cursor → ℕ → List ℕ → List ℕ
bytes_from k n q = take n (drop k.at q)

-- A lease record: owner, expiry, and where renewal token and the record as a whole stand.
abbrev pub record_at : ℕ → List ℕ → Record
record_at p q = record {
  owner = number_at 4 p q;
  expiry = number_at 4 (p + expiry_at) q;
  renewal = record { at = p + renewal_at };
  whole = record { at = p };
  next = record { at = p + record_size };
}

abbrev pub entry_at : ℕ → ℕ → List ℕ → Entry
entry_at p stride q = record { offset = entry_offset p q; count = entry_count p q; next = record { at = p + stride } }

abbrev pub test_at : ℕ → List ℕ → TestEntry
test_at p q = record {
  entry = entry_at p test_size q;
  opcode = entry_opcode p q;
  padding = get_or q (p + padding_at) 0;
  specimen = entry_specimen p q;
  next = record { at = p + test_size };
}

-- How much follows the kind: of a test-and-write up to its enabler, of a read up to its table.
abbrev pub header_size : ℕ
header_size = secret_at - 1

abbrev pub read_header_size : ℕ
read_header_size = reads_at - 1

abbrev pub header_at : ℕ → List ℕ → Header
header_at p q = record {
  tests = get_or q p 0;
  writes = get_or q (p + 1) 0;
  flag = get_or q (p + 2) 0;
  new = number_at 4 (p + 3) q;
  next = record { at = p + header_size };
}

abbrev pub read_header_at : ℕ → List ℕ → ReadHeader
read_header_at p q = record {
  reads = get_or q p 0;
  first = get_or q (p + 1) 0;
  second = get_or q (p + 2) 0;
  next = record { at = p + read_header_size };
}
