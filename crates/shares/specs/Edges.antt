-- Numbers at the edges of the share check (docs/RULES.md, P55 to P57): lengths and versions, MDMF's offsets, and bytes
-- of one edition with the other's version.
use Rattle.std.specs.Prelude.{ℕ, ◌+◌, ◌*◌, ◌≡◌, List, [], ◌∷◌, ◌++◌, map, replicate, take, true}
use Rattle.octets.specs.Moves.{put}
use Rattle.octets.specs.Numbers.{digits}
use Rattle.share_format.specs.Header.{far_offset_size, offsets_at}
use Rattle.share_rules.specs.Edges.{bytes, mdmf_bytes}
use Rattle.shares.specs.Share.{checked_of}

-- What is answered: the number, and the edition.
pub record Answer : Type 0 where
  pub number : ℕ
  pub edition : ℕ

abbrev pub answer : ℕ → ℕ → Answer
answer number edition = record { number = number; edition = edition }

abbrev pub answer_to : List ℕ → Answer
answer_to s = record { number = (checked_of s).number; edition = (checked_of s).edition }

-- So many bytes, the first a version, the others 0.
abbrev pub versioned : ℕ → ℕ → List ℕ
versioned n version = take n (version ∷ replicate n 0)

-- P45's share with another offset i, counted from 0.
abbrev pub offset_is : ℕ → ℕ → List ℕ
offset_is i v = put (offsets_at true + far_offset_size * i) (digits far_offset_size v) mdmf_bytes

abbrev pub checked_cases : List (List ℕ)
checked_cases =
    -- P55: no bytes; 106 bytes of version 0, 1, 2; 107; 122 of 1 and 2; 123
    []
    ∷ versioned 106 0
    ∷ versioned 106 1
    ∷ versioned 106 2
    ∷ versioned 107 0
    ∷ versioned 107 1
    ∷ versioned 107 2
    ∷ versioned 122 1
    ∷ versioned 122 2
    ∷ versioned 123 1
    ∷ versioned 123 2
    ∷ versioned 123 255
    -- P56: P45's share; private key 122 and 124; chain 123, where the private key is; signature 127, before the chain;
    -- key 264, where the signature is; the key's end 268, where the key is; share data 270; tree 272; end 404, 406 and
    -- 2^64 - 1; a byte behind the end
    ∷ mdmf_bytes
    ∷ offset_is 0 122
    ∷ offset_is 0 124
    ∷ offset_is 1 123
    ∷ offset_is 2 127
    ∷ offset_is 3 264
    ∷ offset_is 4 268
    ∷ offset_is 5 270
    ∷ offset_is 6 272
    ∷ offset_is 7 404
    ∷ offset_is 7 406
    ∷ offset_is 7 18446744073709551615
    ∷ (mdmf_bytes ++ (0 ∷ []))
    -- P57: P11's share; with version 1; P45's with version 0, and with 2
    ∷ bytes
    ∷ put 0 (1 ∷ []) bytes
    ∷ put 0 (0 ∷ []) mdmf_bytes
    ∷ put 0 (2 ∷ []) mdmf_bytes ∷ []

abbrev pub checked_results : List Answer
checked_results =
    answer 21 0 ∷ answer 21 0 ∷ answer 21 1 ∷ answer 21 0
    ∷ answer 23 0 ∷ answer 21 1 ∷ answer 22 0 ∷ answer 21 1 ∷ answer 22 0 ∷ answer 23 1 ∷ answer 22 0 ∷ answer 22 0
    ∷ answer 0 1 ∷ answer 25 1 ∷ answer 25 1 ∷ answer 25 1 ∷ answer 25 1 ∷ answer 25 1 ∷ answer 25 1 ∷ answer 25 1
    ∷ answer 25 1 ∷ answer 25 1 ∷ answer 25 1 ∷ answer 25 1 ∷ answer 25 1
    ∷ answer 0 0 ∷ answer 25 1 ∷ answer 23 0 ∷ answer 22 0 ∷ []

pub record CheckEdgesHold : Type 0 where
  -- P55 to P57
  pub table : map answer_to checked_cases ≡ checked_results
  -- P56, P57: the boundaries of P45's share, and of P11's
  pub mdmf_bounds :
      (checked_of mdmf_bytes).bounds ≡ 123 ∷ 128 ∷ 264 ∷ 268 ∷ 271 ∷ 273 ∷ 309 ∷ 405 ∷ []
  pub sdmf_bounds : (checked_of bytes).bounds ≡ 107 ∷ 399 ∷ 655 ∷ 791 ∷ 823 ∷ 827 ∷ 2043 ∷ 2043 ∷ []
