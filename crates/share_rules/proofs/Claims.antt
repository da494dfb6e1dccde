-- Demand 1 of the writers, and when they are done. Assumes nothing.
use mathlib.Core.Path.{◌≡◌, refl, sym, ◌∙◌}
use mathlib.Core.Bool.{Bool, true, false}
use mathlib.Core.List.{List}
use Prim.Native.Nat.{ℕ, ◌+◌, ◌≤◌}
use native.Mathlib.Omega.{arith}
use lib.Dec.{eqb}
use lib.ListN.{length, take, drop}
use lib.Seq.{take_at}
use borrow.Author.Tests.{eqb-true, eqb-false, ne_eqb}
use Rattle.octets.specs.Facts.{Among}
use Rattle.octets.specs.Moves.{put}
use Rattle.octets.proofs.MoveLaws.{put-length, put-beyond}
use Rattle.octets.proofs.RowLaws.{first_among}
use Rattle.share_format.specs.Parts.{Share, share_length, encode}
use Rattle.share_contents.specs.Contents.{content_rows}
use Rattle.share_rules.specs.Writing.{rows_of, write_rows, write_outcome, written_answer, space_after}
use Rattle.share_rules.specs.Claims.{writer_numbers, Demand1Writer, WritesExactly}
use Rattle.share_rules.proofs.WritingLaws.{writable, written}
use Rattle.share_rules.proofs.WrittenBack.{length-encode}

number_among : (x : Share) (n : ℕ) → Among (write_outcome x n) writer_numbers
unfolding write_outcome write_rows rows_of content_rows
number_among x n = first_among (write_rows x n)

-- ---- refused, and done
module _ (x : Share) (d : List ℕ) where
  refused-space : (write_outcome x (length d) ≡ 0 → ⊥) → space_after x d ≡ d
  unfolding space_after
  refused-space h = rw (ne_eqb _ _ h)

  refused-length : (write_outcome x (length d) ≡ 0 → ⊥) → (written_answer x (length d)).length ≡ 0
  unfolding written_answer
  refused-length h = rw (ne_eqb _ _ h)

  module _ (z : write_outcome x (length d) ≡ 0) where
    pub done-space : space_after x d ≡ put 0 (encode x) d
    unfolding space_after
    done-space = rw z

    pub done-length : (written_answer x (length d)).length ≡ share_length x
    unfolding written_answer
    done-length = rw z

    encoded : length (encode x) ≡ share_length x
    encoded = let w = writable x (length d) z in length-encode x w.root_size w.iv_size_holds

    inside : 0 + length (encode x) ≤ length d
    inside = let w = writable x (length d) z in omega (arith, encoded, w.room)

    pub done_share : take (written_answer x (length d)).length (space_after x d) ≡ encode x
    done_share =
        rw (done-length, done-space)
        (take_at (encode x) (drop (0 + length (encode x)) d) (share_length x) encoded)

    done_behind : drop (written_answer x (length d)).length (space_after x d)
        ≡ drop (written_answer x (length d)).length d
    done_behind =
        rw (done-length, done-space)
        (put-beyond 0 (share_length x) (encode x) d (omega arith) (omega (arith, encoded)))

    done-kept : length (space_after x d) ≡ length d
    done-kept = rw done-space (put-length 0 (encode x) d inside)

  behind : drop (written_answer x (length d)).length (space_after x d) ≡ drop (written_answer x (length d)).length d
  behind = go (eqb (write_outcome x (length d)) 0) refl
    where
      go : (t : Bool) → eqb (write_outcome x (length d)) 0 ≡ t
          → drop (written_answer x (length d)).length (space_after x d) ≡ drop (written_answer x (length d)).length d
      go true e = done_behind (eqb-true _ _ e)
      go false e = rw (refused-space (eqb-false _ _ e))

  kept : length (space_after x d) ≡ length d
  kept = go (eqb (write_outcome x (length d)) 0) refl
    where
      go : (t : Bool) → eqb (write_outcome x (length d)) 0 ≡ t → length (space_after x d) ≡ length d
      go true e = done-kept (eqb-true _ _ e)
      go false e = rw (refused-space (eqb-false _ _ e))

pub demand_1_writer : (x : Share) (d : List ℕ) → Demand1Writer x d
unfolding written_answer
demand_1_writer x d =
    record {
      number = number_among x (length d);
      refused = refused-space x d;
      no_length = refused-length x d;
      share = done_share x d;
      share_length_holds = λ z. done-length x d z ∙ sym (encoded x d z);
      behind = behind x d;
      space_length = kept x d;
    }

pub writes_exactly : WritesExactly
unfolding written_answer
writes_exactly x n = (writable x n, written x n)
