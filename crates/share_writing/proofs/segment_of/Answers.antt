-- MDMF's is given and judged; SDMF's is the least multiple, which is right if it fits.
use mathlib.Core.Path.{◌≡◌, refl, sym, ◌∙◌}
use mathlib.Core.Bool.{Bool, true, false, false≢true}
use Prim.Native.Nat.{ℕ}
use native.Mathlib.Omega.{arith}
use borrow.Author.Tests.{eq-eqb}
use Rattle.std.specs.Prelude.{Option, Some, None, SomeIff}
use Rattle.std.specs.Bool.{then_some}
use Rattle.octets.specs.Facts.{Fits64}
use Rattle.octets.specs.Numbers.{fits}
use Rattle.octets.proofs.ListLaws.{and-true, both}
use Rattle.share_format.specs.Header.{number_size}
use Rattle.share_format.specs.Parts.{least_multiple}
use Rattle.share_format.proofs.HeaderLaws.{fits_64, within_64}
use Rattle.share_numbers.specs.Coding.{segment_ok}
use Rattle.share_rules.specs.Writing.{segment_fits}
use Rattle.share_writing.proofs.segment_of.Goals as goal

least-fits : (k m : ℕ) → segment_fits false (least_multiple k m) k m ≡ fits number_size (least_multiple k m)
unfolding segment_fits segment_ok
least-fits k m =
    let l : ℕ = least_multiple k m in
    rw (eq-eqb l l refl) (and-true (fits number_size l))

following : (r : Option ℕ) (k m : ℕ) → SomeIff r (Fits64 (least_multiple k m)) (least_multiple k m)
    → SomeIff r (segment_fits false (least_multiple k m) k m ≡ true) (least_multiple k m)
following None k m h = λ q. h (within_64 _ (sym (least-fits k m) ∙ q))
following (Some x) k m h = (least-fits k m ∙ fits_64 _ h.0, h.1)

given : (b : Bool) (v k m : ℕ) → b ≡ segment_ok true v k m → Fits64 v
    → SomeIff (then_some b v) (segment_fits true v k m ≡ true) v
unfolding segment_fits
given true v k m e f = (rw (fits_64 v f) (sym e), refl)
given false v k m e f = λ q. absurd (false≢true (e ∙ (both (fits number_size v) (segment_ok true v k m) q).1))

pub returns-in-Sdmf : goal.returns-in-Sdmf
returns-in-Sdmf c = let a = c.args in rw c.in-Sdmf.is (following c.least_multiple.result a.k a.data_length c.least_multiple.ensures)

pub returns-in-Mdmf : goal.returns-in-Mdmf
returns-in-Mdmf c =
    let a = c.args in
    let e = rw c.in-Mdmf.is at c.segment_ok.ensures in
    rw (c.in-Mdmf.is, c.then_some.ensures) (given c.segment_ok.result a.given a.k a.data_length e (omega arith))
