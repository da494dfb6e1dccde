-- Facts that functions of this crate hand to each other.
use Rattle.std.specs.Prelude.{◌≡◌, false, ℕ, ◌≤◌, List, [], length, get_or, map, Result, Ok, Err, IfOk}
use Rattle.std.specs.Borrow.{Bor}
use Rattle.octets.specs.Rows.{first_row}
use Rattle.share_format.specs.Bounds.{packed}
use Rattle.share_storing.specs.Facts.{NarrowOffsets}
use Rattle.share_format.specs.Header.{Edition, by_edition, hash_size, iv_size, header_size}
use Rattle.share_format.specs.Parts.{least_multiple}
use Rattle.share_rules.specs.Writing.{rows_of}
use Rattle.share_contents.specs.Faults.{number_of}
use Rattle.share_format.specs.Editions.{part_number}
use Rattle.share_format.specs.declared.header.Numbers.{Numbers}
use Rattle.share_format.specs.declared.parts.Part.{Part}
use Rattle.share_format.specs.declared.parts.Part.TheVariants.{Chain, Tree, ShareData}
use Rattle.share_writing.specs.declared.Refusal.{Refusal}
use Rattle.share_writing.specs.declared.Refusal.TheVariants.{Fields, Space, Share}
use Rattle.share_writing.specs.declared.Verdict.{Verdict}

-- The strings that references lend, and their sizes.
abbrev pub strings : List (Bor (List ℕ)) → List (List ℕ)
strings ps = map (λ p. p.now) ps

abbrev pub sizes_of : List (Bor (List ℕ)) → List ℕ
sizes_of ps = map length (strings ps)

-- The part of that name among the seven.
abbrev pub part_in : Part → Edition → List (List ℕ) → List ℕ
part_in p e ps = get_or ps (part_number p e) []

-- The number of each refusal, and the outcome: 0 where there is none.
abbrev pub refusal_number : Refusal → ℕ
refusal_number Fields = 3
refusal_number Space = 7
refusal_number (Share f) = number_of f

abbrev pub outcome_of : Result Verdict Refusal → ℕ
outcome_of (Ok v) = 0
outcome_of (Err f) = refusal_number f

-- The segment size: MDMF's is given, SDMF's follows.
abbrev pub segment_for : Edition → (given k data_length : ℕ) → ℕ
segment_for e given k data_length = by_edition e (least_multiple k data_length) given

-- What a header asks for: R and IV have their sizes, the space has room for it, SDMF's narrow offsets fit.
pub record HeaderFits (e : Edition) (root iv bounds : List ℕ) (space : ℕ) : Type 0 where
  pub root_size : length root ≡ hash_size
  pub iv_size_holds : length iv ≡ iv_size e
  pub room : header_size e ≤ space
  pub narrow : e ≡ false → NarrowOffsets bounds

-- The numbers of a share to be written, by those that are given.
abbrev pub completed : Edition → Numbers → Numbers
completed e m =
    record {
      sequence = m.sequence;
      required = m.required;
      total = m.total;
      segment_size = segment_for e m.segment_size m.required m.data_length;
      data_length = m.data_length;
    }

-- A verdict is the outcome, and on 0 the numbers with the segment size and the boundaries.
pub record Judges (e : Edition) (m : Numbers) (root iv : List ℕ) (parts : List (List ℕ)) (space : ℕ) (r : Result Verdict Refusal) :
    Type 0 where
  pub number :
      outcome_of r
      ≡ first_row
      (rows_of e m.sequence root iv m.required m.total (segment_for e m.segment_size m.required m.data_length) m.data_length
      (map length parts) (part_in Chain e parts) (part_in Tree e parts) (part_in ShareData e parts) space)
  pub numbers : IfOk r (λ v. v.numbers ≡ completed e m)
  pub bounds : IfOk r (λ v. v.bounds ≡ packed (header_size e) (map length parts))
