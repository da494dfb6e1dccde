-- What the writer writes and what the check hands back, both ways. Assumes nothing.
use mathlib.Core.Path.{◌≡◌, sym, ◌∙◌}
use mathlib.Core.List.{List, ◌++◌}
use Prim.Native.Nat.{ℕ, ◌+◌, ◌≤◌}
use native.Mathlib.Omega.{arith}
use lib.ListN.{length, drop}
use Rattle.octets.specs.Facts.{Octets}
use Rattle.share_format.specs.Parts.{share_of, encode}
use Rattle.share_judging.specs.Judging.{share_outcome}
use Rattle.share_rules.specs.Writing.{write_outcome, written_answer, space_after}
use Rattle.share_rules.proofs.Claims.{done-space, done-length, done_share}
use Rattle.share_rules.proofs.ReadAgain.{read_again, octets_share}
use Rattle.share_rules.proofs.WritingLaws.{writable, written}
use Rattle.share_rules.proofs.WrittenBack.{written_back, octets_encode}
use Rattle.shares.specs.Claims.{ShareRoundTrip}
use Rattle.shares.specs.Share.{checked_of, handed_back}
use Rattle.shares.proofs.ShareLaws.{checked_number, checked_bounds}

-- On 0 the check hands back what the header lays out.
handed_share : (s : List ℕ) → share_outcome s ≡ 0 → handed_back s ≡ share_of s
unfolding handed_back share_of
handed_share s z = rw (checked_bounds s z)

accepted : (s : List ℕ) → (checked_of s).number ≡ 0 → share_outcome s ≡ 0
unfolding checked_of
accepted s z = sym (checked_number 0 s) ∙ z

accepts : (s : List ℕ) → share_outcome s ≡ 0 → (checked_of s).number ≡ 0
unfolding checked_of
accepts s z = checked_number 0 s ∙ z

-- What is accepted is written as it was.
module _ (s d : List ℕ) (o : Octets s) (z : share_outcome s ≡ 0) (h : length s ≤ length d) where
  rewritten : write_outcome (share_of s) (length d) ≡ 0
  rewritten = written (share_of s) (length d) (read_again s (length d) o z h).0

  same_length : (written_answer (share_of s) (length d)).length ≡ length s
  same_length = done-length (share_of s) d rewritten ∙ (read_again s (length d) o z h).2

  same_bytes : space_after (share_of s) d ≡ s ++ drop (length s) d
  same_bytes =
      let e : 0 + length s ≡ length s = omega arith in
      done-space (share_of s) d rewritten ∙ rw ((read_again s (length d) o z h).1, e)

pub share_round_trip : ShareRoundTrip
unfolding written_answer
share_round_trip =
    record {
      written =
          λ x d q z.
          let b = written_back x (length d) (writable x (length d) z) q in
          rw (done_share x d z) (accepts (encode x) b.0, handed_share (encode x) b.0 ∙ b.1);
      again =
          λ s d o z h.
          let a = accepted s z in
          rw (handed_share s a) (rewritten s d o a h, same_length s d o a h, same_bytes s d o a h);
      octets = octets_encode;
      octet_parts = λ s o z. rw (handed_share s (accepted s z)) (octets_share s o);
    }
