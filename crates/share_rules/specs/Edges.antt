-- Numbers at the edges of the share writers (docs/RULES.md, P21 to P29 of SDMF, P45 to P54 of MDMF): a table of what
-- each answers, and what one share is written as.
use Rattle.std.specs.Prelude.{ℕ, ◌≤◌, ◌≡◌, true, List, [], ◌∷◌, ◌++◌, map, length, replicate}
use Rattle.octets.specs.Facts.{Fits64}
use Rattle.octets.specs.Numbers.{digits}
use Rattle.octets.specs.Strings.{join}
use Rattle.share_format.specs.Header.{hash_size, salt_size}
use Rattle.share_format.specs.Parts.{Sdmf, Share, sdmf, least_multiple, share_length}
use Rattle.share_numbers.specs.Coding.{coding_ok}
use Rattle.share_rules.specs.Writing.{sdmf_with, mdmf_with, written_answer, space_after}

-- A chain with these node numbers.
abbrev pub chain_with : List ℕ → List ℕ
chain_with nodes = join (map (λ v. digits 2 v ++ replicate 32 4) nodes)

-- An SDMF share by the lengths of R and IV, sequence number, k, N, data length, the lengths of key and signature, the
-- node numbers, the lengths of tree, share data and private key.
abbrev pub share_by :
    (root iv sequence required total data_length key signature : ℕ) (nodes : List ℕ) (tree share_data private_key : ℕ)
    → Share
share_by root iv sequence required total data_length key signature nodes tree share_data private_key =
    sdmf_with sequence (replicate root 1) (replicate iv 2) required total data_length (replicate key 3)
    (replicate signature 5) (chain_with nodes) (replicate tree 6) (replicate share_data 7) (replicate private_key 8)

-- The node numbers of P11.
abbrev pub nodes : List ℕ
nodes = 2 ∷ 4 ∷ 8 ∷ 16 ∷ []

-- The share of 2,043 bytes (P11) with other lengths of R and IV; with another sequence number, k, data length, key,
-- node numbers, tree and share data; with other lengths of key, signature and private key.
abbrev pub fields_of : (root iv : ℕ) → Share
fields_of root iv = share_by root iv 1 3 10 10 292 256 nodes 32 4 1216

abbrev pub like : (sequence required data_length key : ℕ) (nodes : List ℕ) (tree share_data : ℕ) → Share
like sequence required data_length key nodes tree share_data =
    share_by 32 16 sequence required 10 data_length key 256 nodes tree share_data 1216

abbrev pub keys_of : (key signature private_key : ℕ) → Share
keys_of key signature private_key = share_by 32 16 1 3 10 10 key signature nodes 32 4 private_key

-- A share of k = N = 1 without data, with these node numbers, tree and share data.
abbrev pub least : (nodes : List ℕ) (tree share_data : ℕ) → Share
least nodes tree share_data = share_by 32 16 1 1 1 0 1 1 nodes tree share_data 1

-- An MDMF share by the length of R, sequence number, k, segment size, data length, the length of the private key, the
-- node numbers, the lengths of signature, key, spare bytes, share data and tree; N is 10.
abbrev pub mdmf_by :
    (root sequence required segment data_length private_key : ℕ) (nodes : List ℕ)
    (signature key spare share_data tree : ℕ) → Share
mdmf_by root sequence required segment data_length private_key nodes signature key spare share_data tree =
    mdmf_with sequence (replicate root 1) required 10 segment data_length (replicate private_key 8) (chain_with nodes)
    (replicate signature 5) (replicate key 3) (replicate spare 9) (replicate share_data 7) (replicate tree 6)

-- The MDMF share of 405 bytes (P45): two segments of 6 bytes for 10 bytes of data, k = 3. With other coding and data;
-- with other parts.
abbrev pub segmented : (required segment data_length share_data tree : ℕ) → Share
segmented required segment data_length share_data tree =
    mdmf_by 32 1 required segment data_length 5 nodes 4 3 2 share_data tree

abbrev pub parts_of : (private_key : ℕ) (nodes : List ℕ) (signature key spare share_data tree : ℕ) → Share
parts_of private_key nodes signature key spare share_data tree =
    mdmf_by 32 1 3 6 10 private_key nodes signature key spare share_data tree

abbrev pub base : Share
base = segmented 3 6 10 36 96

-- An MDMF share of k = N = 1 without data and with three parts of a byte.
abbrev pub least_mdmf : (nodes : List ℕ) (spare : ℕ) → Share
least_mdmf nodes spare =
    mdmf_with 1 (replicate 32 1) 1 1 0 0 (replicate 1 8) (chain_with nodes) (replicate 1 5) (replicate 1 3)
    (replicate spare 9) [] []

-- A case: a share, and a space of so many bytes 255.
pub record Case : Type 0 where
  pub share : Share
  pub space : ℕ

abbrev pub into : Share → ℕ → Case
into x n = record { share = x; space = n }

-- What is answered: the number, and the share's length.
pub record Result : Type 0 where
  pub number : ℕ
  pub length : ℕ

abbrev pub done : ℕ → Result
done n = record { number = 0; length = n }

abbrev pub refused : ℕ → Result
refused m = record { number = m; length = 0 }

abbrev pub result_of : Case → Result
result_of c =
    record {
      number = (written_answer c.share c.space).number;
      length = (written_answer c.share c.space).length;
    }

abbrev pub cases : List Case
cases =
    -- P21: just enough space, a byte less; R and IV of other lengths, and no space; k 0, or a byte of share data more,
    -- and a byte too little
    into (keys_of 292 256 1216) 2043
    ∷ into (keys_of 292 256 1216) 2042
    ∷ into (fields_of 31 16) 0
    ∷ into (fields_of 33 16) 0
    ∷ into (fields_of 32 15) 0
    ∷ into (fields_of 32 17) 0
    ∷ into (like 1 0 10 292 nodes 32 4) 2042
    ∷ into (like 1 3 10 292 nodes 32 5) 2043
    -- P22: k 0; k above N; k equal to N, with blocks of that size
    ∷ into (like 1 0 10 292 nodes 32 4) 2043
    ∷ into (like 1 11 10 292 nodes 32 4) 2043
    ∷ into (like 1 10 10 292 nodes 32 1) 2043
    -- P23: a segment size of 2^64; the same and no key; the largest that fits
    ∷ into (like 1 2 18446744073709551615 292 nodes 32 4) 2043
    ∷ into (like 1 2 18446744073709551615 0 nodes 32 4) 2043
    ∷ into (like 1 3 18446744073709551615 292 nodes 32 4) 2043
    -- P24: no key; no signature; no private key; no key and a node number too high
    ∷ into (keys_of 0 256 1216) 2043
    ∷ into (keys_of 292 0 1216) 2043
    ∷ into (keys_of 292 256 0) 2043
    ∷ into (like 1 3 10 0 (2 ∷ 4 ∷ 8 ∷ 31 ∷ []) 32 4) 2043
    -- P25: node number 31; 30; one that repeats; another order; an entry too few; an entry for one share
    ∷ into (like 1 3 10 292 (2 ∷ 4 ∷ 8 ∷ 31 ∷ []) 32 4) 2043
    ∷ into (like 1 3 10 292 (2 ∷ 4 ∷ 8 ∷ 30 ∷ []) 32 4) 2043
    ∷ into (like 1 3 10 292 (2 ∷ 4 ∷ 8 ∷ 2 ∷ []) 32 4) 2043
    ∷ into (like 1 3 10 292 (16 ∷ 8 ∷ 4 ∷ 2 ∷ []) 32 4) 2043
    ∷ into (like 1 3 10 292 (2 ∷ 4 ∷ 8 ∷ []) 32 4) 2043
    ∷ into (least (0 ∷ []) 0 0) 144
    -- P26: no tree; one of 31 bytes; a byte of share data more; the last sequence number and the one before
    ∷ into (like 1 3 10 292 nodes 0 4) 2043
    ∷ into (like 1 3 10 292 nodes 31 4) 2043
    ∷ into (like 1 3 10 292 nodes 32 5) 2044
    ∷ into (like 18446744073709551615 3 10 292 nodes 32 4) 2043
    ∷ into (like 18446744073709551614 3 10 292 nodes 32 4) 2043
    -- P27: no data, without a tree, with one, and with a byte of share data
    ∷ into (least [] 0 0) 110
    ∷ into (least [] 32 0) 142
    ∷ into (least [] 0 1) 111 ∷ []

abbrev pub results : List Result
results =
    done 2043 ∷ refused 7 ∷ refused 3 ∷ refused 3 ∷ refused 3 ∷ refused 3 ∷ refused 7 ∷ refused 7
    ∷ refused 23 ∷ refused 23 ∷ done 2040
    ∷ refused 24 ∷ refused 24 ∷ refused 28
    ∷ refused 25 ∷ refused 25 ∷ refused 25 ∷ refused 25
    ∷ refused 26 ∷ done 2043 ∷ refused 26 ∷ done 2043 ∷ refused 26 ∷ refused 26
    ∷ refused 27 ∷ refused 27 ∷ refused 28 ∷ refused 29 ∷ done 2043
    ∷ done 110 ∷ done 142 ∷ refused 28 ∷ []

-- The bytes of P11's share, from top to bottom: version and sequence number; R and IV; k, N, segment size 12 and data
-- length 10; the offsets 399, 655, 791 and 823, then 827 and 2,043; the parts.
abbrev pub bytes : List ℕ
bytes =
    (0 ∷ 0 ∷ 0 ∷ 0 ∷ 0 ∷ 0 ∷ 0 ∷ 0 ∷ 1 ∷ [])
    ++ (replicate 32 1 ++ (replicate 16 2
    ++ ((3 ∷ 10 ∷ 0 ∷ 0 ∷ 0 ∷ 0 ∷ 0 ∷ 0 ∷ 0 ∷ 12 ∷ 0 ∷ 0 ∷ 0 ∷ 0 ∷ 0 ∷ 0 ∷ 0 ∷ 10 ∷ [])
    ++ ((0 ∷ 0 ∷ 1 ∷ 143 ∷ 0 ∷ 0 ∷ 2 ∷ 143 ∷ 0 ∷ 0 ∷ 3 ∷ 23 ∷ 0 ∷ 0 ∷ 3 ∷ 55 ∷ [])
    ++ ((0 ∷ 0 ∷ 0 ∷ 0 ∷ 0 ∷ 0 ∷ 3 ∷ 59 ∷ 0 ∷ 0 ∷ 0 ∷ 0 ∷ 0 ∷ 0 ∷ 7 ∷ 251 ∷ [])
    ++ (replicate 292 3 ++ (replicate 256 5
    ++ ((0 ∷ 2 ∷ replicate 32 4) ++ ((0 ∷ 4 ∷ replicate 32 4) ++ ((0 ∷ 8 ∷ replicate 32 4) ++ ((0 ∷ 16 ∷ replicate 32 4)
    ++ (replicate 32 6 ++ (replicate 4 7 ++ replicate 1216 8)))))))))))))

abbrev pub mdmf_cases : List Case
mdmf_cases =
    -- P45: just enough space, a byte less; R of other lengths, and no space; k 0, and a byte too little
    into base 405
    ∷ into base 404
    ∷ into (mdmf_by 31 1 3 6 10 5 nodes 4 3 2 36 96) 0
    ∷ into (mdmf_by 33 1 3 6 10 5 nodes 4 3 2 36 96) 0
    ∷ into (segmented 0 6 10 36 96) 404
    -- P46: k 0; k above N; k equal to N, with one segment
    ∷ into (segmented 0 6 10 36 96) 405
    ∷ into (segmented 11 11 10 36 96) 405
    ∷ into (segmented 10 10 10 17 32) 405
    -- P47: a segment size that is no multiple of k, and no key beside it; none, with data; none, and one that is a
    -- multiple and one that is not, without; the largest, of k = 3 and of k = 2
    ∷ into (segmented 3 7 10 36 96) 405
    ∷ into (mdmf_by 32 1 3 7 10 5 nodes 4 0 2 36 96) 405
    ∷ into (segmented 3 0 10 36 96) 405
    ∷ into (segmented 3 0 0 0 0) 405
    ∷ into (segmented 3 6 0 0 0) 405
    ∷ into (segmented 3 7 0 0 0) 405
    ∷ into (segmented 3 18446744073709551615 10 20 32) 405
    ∷ into (segmented 2 18446744073709551615 10 20 32) 405
    -- P48: no private key; no signature; no key, and a node number too high beside it; no spare bytes
    ∷ into (parts_of 0 nodes 4 3 2 36 96) 405
    ∷ into (parts_of 5 nodes 0 3 2 36 96) 405
    ∷ into (parts_of 5 (2 ∷ 4 ∷ 8 ∷ 31 ∷ []) 4 0 2 36 96) 405
    ∷ into (parts_of 5 nodes 4 3 0 36 96) 405
    -- P49: node number 31; 30; one that repeats; an entry too few
    ∷ into (parts_of 5 (2 ∷ 4 ∷ 8 ∷ 31 ∷ []) 4 3 2 36 96) 405
    ∷ into (parts_of 5 (2 ∷ 4 ∷ 8 ∷ 30 ∷ []) 4 3 2 36 96) 405
    ∷ into (parts_of 5 (2 ∷ 4 ∷ 8 ∷ 2 ∷ []) 4 3 2 36 96) 405
    ∷ into (parts_of 5 (2 ∷ 4 ∷ 8 ∷ []) 4 3 2 36 96) 405
    -- P50: trees over no segment, one, two, three, four and five, and sizes beside them
    ∷ into (segmented 3 6 0 0 32) 405
    ∷ into (segmented 3 6 6 18 32) 405
    ∷ into (segmented 3 6 6 18 0) 405
    ∷ into (segmented 3 6 7 35 32) 405
    ∷ into (segmented 3 6 7 35 64) 405
    ∷ into (segmented 3 6 18 54 224) 900
    ∷ into (segmented 3 6 18 54 160) 900
    ∷ into (segmented 3 6 24 72 224) 900
    ∷ into (segmented 3 6 24 72 480) 900
    ∷ into (segmented 3 6 25 89 224) 900
    ∷ into (segmented 3 6 25 89 480) 900
    -- P51: share data of a byte less; more; without salts; with 16 times the sum; data of 1, k - 1, k and k + 1
    -- bytes, and k + 1 with a byte less; of 2^64 - 1 bytes in one segment
    ∷ into (segmented 3 6 10 35 96) 405
    ∷ into (segmented 3 6 10 37 96) 406
    ∷ into (segmented 3 6 10 4 96) 405
    ∷ into (segmented 3 6 10 96 96) 465
    ∷ into (segmented 3 6 1 17 32) 405
    ∷ into (segmented 3 6 2 17 32) 405
    ∷ into (segmented 3 6 3 17 32) 405
    ∷ into (segmented 3 6 4 18 32) 405
    ∷ into (segmented 3 6 4 17 32) 405
    ∷ into (segmented 3 18446744073709551615 18446744073709551615 20 32) 405
    -- P52: the last sequence number and the one before
    ∷ into (mdmf_by 32 18446744073709551615 3 6 10 5 nodes 4 3 2 36 96) 405
    ∷ into (mdmf_by 32 18446744073709551614 3 6 10 5 nodes 4 3 2 36 96) 405
    -- P53: the least share; with a spare byte; with an entry of the chain
    ∷ into (least_mdmf [] 0) 126
    ∷ into (least_mdmf [] 1) 127
    ∷ into (least_mdmf (0 ∷ []) 0) 160 ∷ []

abbrev pub mdmf_results : List Result
mdmf_results =
    done 405 ∷ refused 7 ∷ refused 3 ∷ refused 3 ∷ refused 7
    ∷ refused 23 ∷ refused 23 ∷ done 322
    ∷ refused 24 ∷ refused 24 ∷ refused 24 ∷ done 273 ∷ done 273 ∷ refused 24 ∷ done 325 ∷ refused 24
    ∷ refused 25 ∷ refused 25 ∷ refused 25 ∷ done 403
    ∷ refused 26 ∷ done 405 ∷ refused 26 ∷ refused 26
    ∷ refused 27 ∷ done 323 ∷ refused 27 ∷ refused 27 ∷ refused 27
    ∷ done 551 ∷ refused 27 ∷ done 569 ∷ refused 27 ∷ refused 27 ∷ done 842
    ∷ refused 28 ∷ refused 28 ∷ refused 28 ∷ refused 28
    ∷ done 322 ∷ done 322 ∷ done 322 ∷ done 323 ∷ refused 28 ∷ refused 28
    ∷ refused 29 ∷ done 405
    ∷ done 126 ∷ done 127 ∷ refused 26 ∷ []

-- The bytes of P45's share, from top to bottom: version and sequence number; R; k, N, segment size 6 and data length
-- 10; the offsets 123, 128, 264, 268, 271, 273, 309 and 405; the parts.
abbrev pub mdmf_bytes : List ℕ
mdmf_bytes =
    (1 ∷ 0 ∷ 0 ∷ 0 ∷ 0 ∷ 0 ∷ 0 ∷ 0 ∷ 1 ∷ [])
    ++ (replicate 32 1
    ++ ((3 ∷ 10 ∷ 0 ∷ 0 ∷ 0 ∷ 0 ∷ 0 ∷ 0 ∷ 0 ∷ 6 ∷ 0 ∷ 0 ∷ 0 ∷ 0 ∷ 0 ∷ 0 ∷ 0 ∷ 10 ∷ [])
    ++ ((0 ∷ 0 ∷ 0 ∷ 0 ∷ 0 ∷ 0 ∷ 0 ∷ 123 ∷ 0 ∷ 0 ∷ 0 ∷ 0 ∷ 0 ∷ 0 ∷ 0 ∷ 128 ∷ [])
    ++ ((0 ∷ 0 ∷ 0 ∷ 0 ∷ 0 ∷ 0 ∷ 1 ∷ 8 ∷ 0 ∷ 0 ∷ 0 ∷ 0 ∷ 0 ∷ 0 ∷ 1 ∷ 12 ∷ [])
    ++ ((0 ∷ 0 ∷ 0 ∷ 0 ∷ 0 ∷ 0 ∷ 1 ∷ 15 ∷ 0 ∷ 0 ∷ 0 ∷ 0 ∷ 0 ∷ 0 ∷ 1 ∷ 17 ∷ [])
    ++ ((0 ∷ 0 ∷ 0 ∷ 0 ∷ 0 ∷ 0 ∷ 1 ∷ 53 ∷ 0 ∷ 0 ∷ 0 ∷ 0 ∷ 0 ∷ 0 ∷ 1 ∷ 149 ∷ [])
    ++ (replicate 5 8
    ++ ((0 ∷ 2 ∷ replicate 32 4) ++ ((0 ∷ 4 ∷ replicate 32 4) ++ ((0 ∷ 8 ∷ replicate 32 4) ++ ((0 ∷ 16 ∷ replicate 32 4)
    ++ (replicate 4 5 ++ (replicate 3 3 ++ (replicate 2 9 ++ (replicate 36 7 ++ replicate 96 6)))))))))))))))

pub record WriterEdgesHold : Type 0 where
  -- P21 to P27, P45 to P53
  pub table : map result_of cases ≡ results
  pub mdmf_table : map result_of mdmf_cases ≡ mdmf_results
  -- P51: data of 2^64 - 1 bytes in a third as many segments
  pub many : result_of (into (segmented 3 3 18446744073709551615 20 32) 405) ≡ refused 27
  -- P28: every byte of a space of 2,050 bytes, the last seven as they were
  pub whole : space_after (keys_of 292 256 1216) (replicate 2050 255) ≡ bytes ++ replicate 7 255
  -- P54: every byte of a space of 410 bytes, the last five as they were
  pub mdmf_whole : space_after base (replicate 410 255) ≡ mdmf_bytes ++ replicate 5 255
  -- P29: with a key of 4,294,967,189 bytes or more the signature's offset does not fit its four
  pub far : (x : Sdmf) (n : ℕ) → length x.root ≡ hash_size → length x.iv ≡ salt_size → share_length (sdmf x) ≤ n →
      coding_ok x.required x.total ≡ true → Fits64 (least_multiple x.required x.data_length) →
      4294967189 ≤ length x.key → (written_answer (sdmf x) n).number ≡ 25
