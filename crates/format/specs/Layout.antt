-- The layout of a container (docs/RULES.md, C1 to C19, C22): a table of fields in one buffer, numbers big-endian.
-- Every definition is total: of bytes that are no container it says something, and `well_formed` says that they are
-- none.
use Rattle.std.specs.Prelude.{ℕ, zero, suc, ◌+◌, ◌-◌, ◌*◌, max, List, [], ◌∷◌, ◌++◌, take, drop}
use Rattle.octets.specs.Numbers.{number_at}

-- "tahoe mutable container v1", then 0A 75 09 44 03 8E (C1, C11).
abbrev pub magic : List ℕ
magic =
    116 ∷ 97 ∷ 104 ∷ 111 ∷ 101 ∷ 32 ∷ 109 ∷ 117 ∷ 116 ∷ 97 ∷ 98 ∷ 108 ∷ 101 ∷ 32 ∷ 99 ∷ 111 ∷ 110 ∷ 116 ∷ 97 ∷ 105
    ∷ 110 ∷ 101 ∷ 114 ∷ 32 ∷ 118 ∷ 49 ∷ 10 ∷ 117 ∷ 9 ∷ 68 ∷ 3 ∷ 142 ∷ []

-- The sizes of the fields (C2 to C8): node id, a secret (enabler or token), data size and offset, extra-lease count.
abbrev pub node_size : ℕ
node_size = 20

abbrev pub secret_size : ℕ
secret_size = 32

abbrev pub size_width : ℕ
size_width = 8

abbrev pub count_size : ℕ
count_size = 4

-- The lease record: owner 4 (0 = none), expiry 4, renewal token 32, cancel token 32, node id 20 (C15 to C19).
abbrev pub expiry_at : ℕ
expiry_at = 4

abbrev pub renewal_at : ℕ
renewal_at = expiry_at + 4

abbrev pub cancel_at : ℕ
cancel_at = renewal_at + secret_size

abbrev pub lease_node_at : ℕ
lease_node_at = cancel_at + secret_size

abbrev pub record_size : ℕ
record_size = cancel_at + secret_size + node_size

-- How many lease places are fixed, how many extra leases there may be, and how many leases in all (C6, F4, O10).
abbrev pub fixed_places : ℕ
fixed_places = 4

abbrev pub extra_limit : ℕ
extra_limit = 60

abbrev pub lease_limit : ℕ
lease_limit = fixed_places + extra_limit

-- The table: where each field begins, after the 32 bytes of the magic (C2 to C7).
abbrev pub node_at : ℕ
node_at = 32

abbrev pub enabler_at : ℕ
enabler_at = node_at + node_size

abbrev pub size_at : ℕ
size_at = enabler_at + secret_size

abbrev pub offset_at : ℕ
offset_at = size_at + size_width

abbrev pub leases_at : ℕ
leases_at = offset_at + size_width

abbrev pub data_at : ℕ
data_at = leases_at + fixed_places * record_size

-- Where the extra leases begin, behind a count at o (C9).
abbrev pub extras_at : ℕ → ℕ
extras_at o = o + count_size

-- The used length with the count at o and e extra leases (C12).
unfoldable pub used_length : ℕ → ℕ → ℕ
used_length o e = extras_at o + record_size * e

-- Where a count that stood at o stands beside s bytes of data: there, or at their end where that is higher (W8).
unfoldable pub moved_count : ℕ → ℕ → ℕ
moved_count o s = max o (data_at + s)

-- The shortest buffer holds the fields, no data and no extra lease; the longest (F1).
abbrev pub least : ℕ
least = data_at + count_size

abbrev pub limit : ℕ
limit = 16777216

-- The fields: node id, write enabler, data size s, data, the count's place, extra-lease count e (C2 to C8).
unfoldable pub node_of : List ℕ → List ℕ
node_of c = take node_size (drop node_at c)

unfoldable pub enabler_of : List ℕ → List ℕ
enabler_of c = take secret_size (drop enabler_at c)

unfoldable pub size_of : List ℕ → ℕ
size_of c = number_at size_width size_at c

unfoldable pub data_of : List ℕ → List ℕ
data_of c = take (size_of c) (drop data_at c)

unfoldable pub count_at : List ℕ → ℕ
count_at c = number_at size_width offset_at c

unfoldable pub extras_of : List ℕ → ℕ
extras_of c = number_at count_size (count_at c) c

-- Where the data of a container ends, and where its used bytes end (C12, C13).
abbrev pub data_end : List ℕ → ℕ
data_end c = data_at + size_of c

abbrev pub used_end : List ℕ → ℕ
used_end c = used_length (count_at c) (extras_of c)

-- How many bytes of slack there are: those between data and count (C22).
unfoldable pub slack_of : List ℕ → ℕ
slack_of c = count_at c - data_end c

-- The n lease records from p on (C6, C9).
unfoldable pub records : ℕ → ℕ → List ℕ → List (List ℕ)
records zero p c = []
records (suc n) p c = take record_size (drop p c) ∷ records n (p + record_size) c

-- The lease places: the four, then the extras (C14).
unfoldable pub leases_of : List ℕ → List (List ℕ)
leases_of c = records fixed_places leases_at c ++ records (extras_of c) (extras_at (count_at c)) c

-- The fields of a lease record (C15 to C19).
unfoldable pub owner_of : List ℕ → ℕ
owner_of r = number_at 4 0 r

unfoldable pub expiry_of : List ℕ → ℕ
expiry_of r = number_at 4 expiry_at r

unfoldable pub renewal_of : List ℕ → List ℕ
renewal_of r = take secret_size (drop renewal_at r)

unfoldable pub cancel_of : List ℕ → List ℕ
cancel_of r = take secret_size (drop cancel_at r)

unfoldable pub lease_node_of : List ℕ → List ℕ
lease_node_of r = take node_size (drop lease_node_at r)
