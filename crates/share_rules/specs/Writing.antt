-- What the share writers answer, and what they leave in the lent space (docs/RULES.md, S40, S42 to S44, S53, S58).
-- Numbers do not wrap.
use Rattle.std.specs.Prelude.{ℕ, ◌+◌, Bool, cond, not, ◌&&◌, List, ◌∷◌, map, length, eqb, ltb}
use Rattle.octets.specs.Lists.{sum}
use Rattle.octets.specs.Moves.{put}
use Rattle.octets.specs.Numbers.{fits}
use Rattle.octets.specs.Rows.{Row, row, first_row}
use Rattle.share_format.specs.Bounds.{packed}
use Rattle.share_format.specs.Header.{Edition, hash_size, iv_size, number_size, header_size, offsets_fit}
use Rattle.share_format.specs.Parts.{Share, sdmf, mdmf, edition_in, sequence_in, root_in, iv_in, required_in, total_in}
use Rattle.share_format.specs.Parts.{segment_in, length_in, chain_in, tree_in, share_data_in, part_list, share_length, encode}
use Rattle.share_numbers.specs.Coding.{coding_ok, segment_ok}
use Rattle.share_numbers.specs.Order.{placed_ok}
use Rattle.share_contents.specs.Contents.{content_rows}
use Rattle.share_rules.specs.declared.Written.{Written}

-- The share that the arguments of the SDMF writer name (S40).
abbrev pub sdmf_with :
    (sequence : ℕ) (root iv : List ℕ) (required total data_length : ℕ)
    (key signature chain tree share_data private_key : List ℕ) → Share
sdmf_with sequence root iv required total data_length key signature chain tree share_data private_key =
    sdmf (record {
      sequence = sequence;
      root = root;
      iv = iv;
      required = required;
      total = total;
      data_length = data_length;
      key = key;
      signature = signature;
      chain = chain;
      tree = tree;
      share_data = share_data;
      private_key = private_key;
    })

-- Those of the MDMF writer: no IV, but the segment size and the spare bytes (S53).
abbrev pub mdmf_with :
    (sequence : ℕ) (root : List ℕ) (required total segment_size data_length : ℕ)
    (private_key chain signature key spare share_data tree : List ℕ) → Share
mdmf_with sequence root required total segment_size data_length private_key chain signature key spare share_data tree =
    mdmf (record {
      sequence = sequence;
      root = root;
      required = required;
      total = total;
      segment_size = segment_size;
      data_length = data_length;
      private_key = private_key;
      chain = chain;
      signature = signature;
      key = key;
      spare = spare;
      share_data = share_data;
      tree = tree;
    })

-- Row 3: R and IV have their sizes.
unfoldable pub sizes_ok : Edition → List ℕ → List ℕ → Bool
sizes_ok e root iv = eqb (length root) hash_size && eqb (length iv) (iv_size e)

-- Row 24: as the checker's, and the segment size fits its field.
unfoldable pub segment_fits : Edition → (segment k data_length : ℕ) → Bool
segment_fits e segment k data_length = fits number_size segment && segment_ok e segment k data_length

-- Row 25: as the checker's, of the boundaries that the parts get, and each offset fits its field.
unfoldable pub bounds_fit : Edition → List ℕ → Bool
bounds_fit e bounds = placed_ok e bounds && offsets_fit e bounds

-- The rows of numbers, the sizes of the parts, the three parts that they look into, and a space of so many bytes, in
-- rising order; 26 to 29 are the checker's (S42, S58).
unfoldable pub rows_of :
    Edition → (sequence : ℕ) (root iv : List ℕ) (k n segment data_length : ℕ) (sizes chain tree share_data : List ℕ)
    (space : ℕ) → List Row
rows_of e sequence root iv k n segment data_length sizes chain tree share_data space =
    row 3 (not (sizes_ok e root iv))
    ∷ row 7 (ltb space (header_size e + sum sizes))
    ∷ row 23 (not (coding_ok k n))
    ∷ row 24 (not (segment_fits e segment k data_length))
    ∷ row 25 (not (bounds_fit e (packed (header_size e) sizes)))
    ∷ content_rows e sequence k n segment data_length chain tree share_data

-- Those of a share (S42, S58).
unfoldable pub write_rows : Share → ℕ → List Row
write_rows x space =
    rows_of (edition_in x) (sequence_in x) (root_in x) (iv_in x) (required_in x) (total_in x) (segment_in x) (length_in x)
    (map length (part_list x)) (chain_in x) (tree_in x) (share_data_in x) space

-- The lowest number that applies (S42).
unfoldable pub write_outcome : Share → ℕ → ℕ
write_outcome x n = first_row (write_rows x n)

-- The answer: the number, and on 0 the share's length (S43).
unfoldable pub written_answer : Share → ℕ → Written
written_answer x n =
    record { number = write_outcome x n; length = cond (eqb (write_outcome x n) 0) (share_length x) 0 }

-- The space afterwards: on 0 the share at its front, and what was there behind it; else as it was (S44).
unfoldable pub space_after : Share → List ℕ → List ℕ
space_after x d = cond (eqb (write_outcome x (length d)) 0) (put 0 (encode x) d) d
