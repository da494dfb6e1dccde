-- Rows 26 to 29, for both editions (docs/RULES.md, S26 to S29, S55 to S57). Numbers do not wrap.
use Rattle.std.specs.Prelude.{ℕ, ◌+◌, ◌-◌, ◌*◌, ◌/◌, Bool, true, false, cond, not, ◌&&◌, List, [], ◌∷◌, length, eqb}
use Rattle.octets.specs.Rows.{Row, row}
use Rattle.share_format.specs.Header.{Edition, hash_size, salt_size}
use Rattle.share_contents.specs.Nodes.{depth, power, chain_entry_size, nodes_from, nodes_ok}

-- Row 26: the chain has an entry for each level of the tree over n shares, with node numbers of that tree.
unfoldable pub chain_ok : ℕ → List ℕ → Bool
chain_ok n chain =
    eqb (length chain) (chain_entry_size * depth n)
    && nodes_ok (2 * power (depth n) - 1) (nodes_from (depth n) 0 chain)

-- n / k rounded up, and how many segments there are: none without data (S55).
unfoldable pub rounded_up : ℕ → ℕ → ℕ
rounded_up n k = (n + (k - 1)) / k

unfoldable pub segments : (data_length segment : ℕ) → ℕ
segments data_length segment = cond (eqb data_length 0) 0 (rounded_up data_length segment)

-- The bytes of a full tree of hashes over n leaves; none over none (S56).
unfoldable pub tree_size : ℕ → ℕ
tree_size n = cond (eqb n 0) 0 (hash_size * (2 * power (depth n) - 1))

-- Row 27. SDMF: one hash; for data length 0, one or none. MDMF: the tree over the segments.
unfoldable pub tree_ok : Edition → (segment data_length : ℕ) (tree : List ℕ) → Bool
tree_ok false segment data_length tree = cond (eqb (length tree) hash_size) true (eqb data_length 0 && eqb (length tree) 0)
tree_ok true segment data_length tree = eqb (length tree) (tree_size (segments data_length segment))

-- The bytes of n blocks with a salt before each: what they hold of the data is its k-th part, rounded up (S57).
unfoldable pub blocks_size : (n k data_length : ℕ) → ℕ
blocks_size n k data_length = salt_size * n + rounded_up data_length k

-- Row 28. SDMF: one block, of a segment that k shares hold. MDMF: a salt and a block for each segment.
unfoldable pub blocks_ok : Edition → (segment k data_length : ℕ) (share_data : List ℕ) → Bool
blocks_ok false segment k data_length share_data = eqb (length share_data) (segment / k)
blocks_ok true segment k data_length share_data =
    eqb (length share_data) (blocks_size (segments data_length segment) k data_length)

-- Row 29: no sequence number can follow it.
abbrev pub last_sequence : ℕ
last_sequence = 18446744073709551615

-- Rows 26 to 29, of the numbers and parts that they ask for.
unfoldable pub content_rows :
    Edition → (sequence k n segment data_length : ℕ) (chain tree share_data : List ℕ) → List Row
content_rows e sequence k n segment data_length chain tree share_data =
    row 26 (not (chain_ok n chain))
    ∷ row 27 (not (tree_ok e segment data_length tree))
    ∷ row 28 (not (blocks_ok e segment k data_length share_data))
    ∷ row 29 (eqb sequence last_sequence) ∷ []
