-- A container as parts (docs/RULES.md, E1 to E4): what reading it gives, and the bytes that the parts determine.
use Rattle.std.specs.Prelude.{ℕ, ◌+◌, ◌-◌, List, [], ◌++◌, length, take, drop, replicate}
use Rattle.octets.specs.Numbers.{digits}
use Rattle.octets.specs.Strings.{join}
use Rattle.format.specs.Layout.{magic, size_width, count_size, record_size, fixed_places, data_at, used_length}
use Rattle.format.specs.Layout.{node_of, enabler_of, data_of, slack_of, leases_of}

-- Buffer length, node id, enabler, data bytes, how many bytes of slack; the four lease places and then the extra ones,
-- empty ones included (E1).
pub record Parts : Type 0 where
  pub room : ℕ
  pub node : List ℕ
  pub enabler : List ℕ
  pub bytes : List ℕ
  pub slack : ℕ
  pub leases : List (List ℕ)

-- How many of the places are extras (E3).
unfoldable pub extras : List (List ℕ) → ℕ
extras ls = length ls - fixed_places

-- Where the count stands, behind data and slack, and the used length (C8, C12).
unfoldable pub count_in : Parts → ℕ
count_in p = data_at + length p.bytes + p.slack

unfoldable pub used : Parts → ℕ
used p = used_length (count_in p) (extras p.leases)

-- Reading a container into its parts (E1).
unfoldable pub parts_of : List ℕ → Parts
parts_of c = record {
  room = length c;
  node = node_of c;
  enabler = enabler_of c;
  bytes = data_of c;
  slack = slack_of c;
  leases = leases_of c;
}

-- What stands before the leases; the head, which ends with the four places; the tail, count and extra leases (E2).
unfoldable pub front_of : Parts → List ℕ
front_of p =
    magic ++ (p.node ++ (p.enabler
    ++ (digits size_width (length p.bytes) ++ digits size_width (count_in p))))

unfoldable pub head_of : Parts → List ℕ
head_of p = front_of p ++ join (take fixed_places p.leases)

unfoldable pub tail_of : Parts → List ℕ
tail_of p = digits count_size (extras p.leases) ++ join (drop fixed_places p.leases)

-- Writing the parts out: head, data, zeros as slack, tail, then zeros (E2).
unfoldable pub encode : Parts → List ℕ
encode p =
    head_of p ++ (p.bytes ++ (replicate p.slack 0 ++ (tail_of p ++ replicate (p.room - used p) 0)))

-- The parts of a fresh container: no data, no slack, four empty places (M1).
unfoldable pub no_lease : List ℕ
no_lease = replicate record_size 0

unfoldable pub fresh : ℕ → List ℕ → List ℕ → Parts
fresh n node enabler =
    record { room = n; node = node; enabler = enabler; bytes = []; slack = 0; leases = replicate fixed_places no_lease }
