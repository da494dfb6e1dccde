-- The code's editions, numbers and parts in the words of the rules (docs/RULES.md, S2 to S8, S34, S45 to S51).
use Rattle.std.specs.Prelude.{ℕ, Bool, true, false, List}
use Rattle.share_format.specs.Header.{sequence, required, total, segment_size, data_length}
use Rattle.share_format.specs.Parts.{key_part, signature_part, chain_part, tree_part, share_data_part}
use Rattle.share_format.specs.Parts.{private_key_part, spare_part}
use Rattle.share_format.specs.declared.header.Edition.{Edition}
use Rattle.share_format.specs.declared.header.Edition.TheVariants.{Sdmf, Mdmf}
use Rattle.share_format.specs.declared.header.Numbers.{Numbers}
use Rattle.share_format.specs.declared.parts.Part.{Part}
use Rattle.share_format.specs.declared.parts.Part.TheVariants.{Key, Signature, Chain, Tree, ShareData, PrivateKey, Spare}

-- The definitions take MDMF as true.
abbrev pub is_mdmf : Edition → Bool
is_mdmf Sdmf = false
is_mdmf Mdmf = true

-- The numbers that the header of a share of this edition has.
abbrev pub numbers_of : Bool → List ℕ → Numbers
numbers_of e s =
    record {
      sequence = sequence s;
      required = required e s;
      total = total e s;
      segment_size = segment_size e s;
      data_length = data_length e s;
    }

-- The number of each part among the seven.
abbrev pub part_number : Part → Bool → ℕ
part_number Key e = key_part e
part_number Signature e = signature_part e
part_number Chain e = chain_part e
part_number Tree e = tree_part e
part_number ShareData e = share_data_part e
part_number PrivateKey e = private_key_part e
part_number Spare e = spare_part e
