-- A verdict that refuses, and what one that does not lets be laid out. Assumes nothing.
use mathlib.Core.Path.{◌≡◌, refl, sym, ◌∙◌}
use mathlib.Core.Bool.{Bool, true, false}
use mathlib.Core.List.{List, map}
use Prim.Native.Nat.{ℕ, ◌+◌, ◌≤◌, ◌<◌}
use native.Mathlib.Omega.{arith}
use lib.ListN.{length, get_or}
use borrow.Author.Tests.{eq-eqb, ne_eqb}
use Rattle.std.specs.Prelude.{Ok, Err}
use Rattle.std.specs.Borrow.{Bor}
use Rattle.octets.specs.Lists.{sum}
use Rattle.octets.specs.Rows.{first_row}
use Rattle.octets.specs.Strings.{join}
use Rattle.share_format.specs.Bounds.{packed}
use Rattle.share_format.specs.Editions.{part_number}
use Rattle.share_format.specs.Header.{Edition, hash_size, iv_size, header_size}
use Rattle.share_format.specs.Parts as parts
use Rattle.share_format.specs.Parts.{edition_in, root_in, iv_in, part_list, places_of, share_length}
use Rattle.share_format.specs.declared.header.Numbers.{Numbers}
use Rattle.share_format.specs.declared.parts.Part.TheVariants.{Chain, Tree, ShareData}
use Rattle.share_format.proofs.HeaderLaws.{offsets_fit_lem}
use Rattle.share_numbers.specs.Coding.{coding_ok}
use Rattle.share_contents.specs.Contents.{content_rows}
use Rattle.share_contents.specs.Faults.{number_of}
use Rattle.share_contents.specs.declared.faults.Fault.{Fault}
use Rattle.share_contents.specs.declared.faults.Fault.TheVariants.{Coding, SegmentSize, Offsets}
use Rattle.share_contents.proofs.FaultLaws.{number_of-above}
use Rattle.share_storing.proofs.FieldLaws.{narrow_facts}
use Rattle.share_rules.specs.Writing.{sizes_ok, segment_fits, bounds_fit, rows_of, write_outcome}
use Rattle.share_rules.proofs.WritingLaws.{rows_3, rows_7, rows_23, rows_24, rows_25, rows_rest, share_joined, writable}
use Rattle.share_writing.specs.Facts.{strings, part_in, segment_for, refusal_number, completed, HeaderFits, Judges}
use Rattle.share_writing.specs.declared.Refusal.{Refusal}
use Rattle.share_writing.specs.declared.Refusal.TheVariants.{Fields, Space, Share}
use Rattle.share_writing.specs.declared.Verdict.{Verdict}
use Rattle.share_writing.proofs.PartLaws.{blank, named_at}

not_so : (b : Bool) → (b ≡ true → ⊥) → b ≡ false
not_so true h = absurd (h refl)
not_so false h = refl

pub refusal_number-above : (f : Refusal) → 0 < refusal_number f
refusal_number-above Fields = omega arith
refusal_number-above Space = omega arith
refusal_number-above (Share f) = number_of-above f

-- R and IV have their sizes.
pub sized : (e : Edition) (root iv : List ℕ) → length root ≡ hash_size → length iv ≡ iv_size e → sizes_ok e root iv ≡ true
unfolding sizes_ok
sized e root iv h k = rw (eq-eqb _ _ h, eq-eqb _ _ k)

pub missized : (e : Edition) (root iv : List ℕ) → (length root ≡ hash_size → ⊥) → sizes_ok e root iv ≡ false
unfolding sizes_ok
missized e root iv h = rw (ne_eqb _ _ h)

pub missized_iv : (e : Edition) (root iv : List ℕ) → length root ≡ hash_size → (length iv ≡ iv_size e → ⊥)
    → sizes_ok e root iv ≡ false
unfolding sizes_ok
missized_iv e root iv h k = rw (eq-eqb _ _ h, ne_eqb _ _ k)

-- The rows of contents look into three parts by name.
pub content_at : (o : ℕ) (e : Edition) (sequence k n segment m : ℕ) (ps : List (Bor (List ℕ))) (i j l : ℕ)
    → length ps ≡ 7
    → (i ≡ part_number Chain e) × (i < 7)
    → (j ≡ part_number Tree e) × (j < 7)
    → (l ≡ part_number ShareData e) × (l < 7)
    → o
    ≡ first_row
    (content_rows e sequence k n segment m (get_or ps i blank).now (get_or ps j blank).now (get_or ps l blank).now)
    → o
    ≡ first_row
    (content_rows e sequence k n segment m (part_in Chain e (strings ps)) (part_in Tree e (strings ps))
    (part_in ShareData e (strings ps)))
content_at o e sequence k n segment m ps i j l s a b c h =
    rw (
      ← named_at ps i (omega (arith, s, a.1)) Chain e a.0,
      ← named_at ps j (omega (arith, s, b.1)) Tree e b.0,
      ← named_at ps l (omega (arith, s, c.1)) ShareData e c.0,
    ) h

-- Each refusal is the row whose test holds once those before it are known not to.
module _ (e : Edition) (m : Numbers) (root iv : List ℕ) (parts : List (List ℕ)) (space : ℕ) where
  judges_refused : (f : Refusal)
      → first_row (rows_of e m.sequence root iv m.required m.total (segment_for e m.segment_size m.required m.data_length) m.data_length (map length parts) (part_in Chain e parts) (part_in Tree e parts) (part_in ShareData e parts) space)
      ≡ refusal_number f
      → Judges e m root iv parts space (Err f)
  judges_refused f o = record { number = sym o; numbers = tt; bounds = tt }

  pub judges_3 : sizes_ok e root iv ≡ false → Judges e m root iv parts space (Err Fields)
  judges_3 h = judges_refused Fields (rows_3 _ _ _ _ _ _ _ _ _ _ _ _ _ h)

  module _ (fields : sizes_ok e root iv ≡ true) where
    pub judges_7 : space < header_size e + sum (map length parts) → Judges e m root iv parts space (Err Space)
    judges_7 h = judges_refused Space (rows_7 _ _ _ _ _ _ _ _ _ _ _ _ _ fields h)

    module _ (room : header_size e + sum (map length parts) ≤ space) where
      pub judges_23 : coding_ok m.required m.total ≡ false
          → Judges e m root iv parts space (Err (Share Coding))
      judges_23 h = judges_refused (Share Coding) (rows_23 _ _ _ _ _ _ _ _ _ _ _ _ _ fields room h)

      module _ (coding : coding_ok m.required m.total ≡ true) where
        pub judges_24 : (segment_fits e (segment_for e m.segment_size m.required m.data_length) m.required m.data_length ≡ true → ⊥)
            → Judges e m root iv parts space (Err (Share SegmentSize))
        judges_24 h =
            judges_refused (Share SegmentSize) (rows_24 _ _ _ _ _ _ _ _ _ _ _ _ _ fields room coding (not_so _ h))

        module _ (fit : segment_fits e (segment_for e m.segment_size m.required m.data_length) m.required m.data_length ≡ true) where
          pub judges_25 : bounds_fit e (packed (header_size e) (map length parts)) ≡ false
              → Judges e m root iv parts space (Err (Share Offsets))
          judges_25 h = judges_refused (Share Offsets) (rows_25 _ _ _ _ _ _ _ _ _ _ _ _ _ fields room coding fit h)

          module _ (placed : bounds_fit e (packed (header_size e) (map length parts)) ≡ true) where
            pub judges_rest : (f : Fault)
                → number_of f
                ≡ first_row
                (content_rows e m.sequence m.required m.total (segment_for e m.segment_size m.required m.data_length) m.data_length (part_in Chain e parts) (part_in Tree e parts) (part_in ShareData e parts))
                → Judges e m root iv parts space (Err (Share f))
            judges_rest f h =
                judges_refused (Share f) (rows_rest _ _ _ _ _ _ _ _ _ _ _ _ _ fields room coding fit placed ∙ sym h)

            pub judges_none : (v : Verdict)
                → 0
                ≡ first_row
                (content_rows e m.sequence m.required m.total (segment_for e m.segment_size m.required m.data_length) m.data_length (part_in Chain e parts) (part_in Tree e parts) (part_in ShareData e parts))
                → v.numbers ≡ completed e m → v.bounds ≡ packed (header_size e) (map length parts)
                → Judges e m root iv parts space (Ok v)
            judges_none v h n b =
                record {
                  number = h ∙ sym (rows_rest _ _ _ _ _ _ _ _ _ _ _ _ _ fields room coding fit placed);
                  numbers = n;
                  bounds = b;
                }

-- On 0 a header and the parts have room, and what they are asked for.
pub layable : (x : parts.Share) (n : ℕ) (bs : List ℕ) → write_outcome x n ≡ 0 → bs ≡ places_of x
    → HeaderFits (edition_in x) (root_in x) (iv_in x) bs n × (header_size (edition_in x) + length (join (part_list x)) ≤ n)
unfolding share_length
layable x n bs z b =
    let w = writable x n z in
    let fit = offsets_fit_lem (edition_in x) (places_of x) w.offsets in (
      record {
        root_size = w.root_size;
        iv_size_holds = w.iv_size_holds;
        room = omega (arith, w.room);
        narrow = narrow_facts (edition_in x) bs (rw b fit);
      },
      omega (arith, share_joined x, w.room),
    )
