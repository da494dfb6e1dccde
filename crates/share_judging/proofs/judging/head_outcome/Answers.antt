-- Each answer is the row whose test holds once those before it are known not to.
use mathlib.Core.Path.{◌≡◌, sym, ◌∙◌}
use mathlib.Core.Bool.{true, false}
use mathlib.Core.List.{List}
use Prim.Native.Nat.{ℕ, ◌≤◌}
use lib.ListN.{length}
use borrow.Author.Tests.{lt-ltb, le-ltb}
use Rattle.octets.specs.Rows.{first_row}
use Rattle.share_format.specs.Header.{Edition, header_size, version, required, total, segment_size, data_length}
use Rattle.share_numbers.specs.Coding.{coding_ok, segment_ok}
use Rattle.share_judging.specs.Judging.{head_rows}
use Rattle.share_numbers.proofs.CodingLaws.{coding_facts}
use Rattle.share_judging.proofs.judging.head_outcome.Goals as goal

module _ (e : Edition) (s : List ℕ) (h : header_size e ≤ length s) where
  head_22 : 2 ≤ version s → first_row (head_rows e s) ≡ 22
  unfolding first_row head_rows
  head_22 v = rw (le-ltb _ _ h, lt-ltb _ _ v)

  module _ (v : version s ≤ 1) where
    head_23 : coding_ok (required e s) (total e s) ≡ false → first_row (head_rows e s) ≡ 23
    unfolding first_row head_rows
    head_23 k = rw (le-ltb _ _ h, le-ltb _ _ v, k)

    module _ (k : coding_ok (required e s) (total e s) ≡ true) where
      head_24 : segment_ok e (segment_size e s) (required e s) (data_length e s) ≡ false → first_row (head_rows e s) ≡ 24
      unfolding first_row head_rows
      head_24 g = rw (le-ltb _ _ h, le-ltb _ _ v, k, g)

      head_none : segment_ok e (segment_size e s) (required e s) (data_length e s) ≡ true → first_row (head_rows e s) ≡ 0
      unfolding first_row head_rows
      head_none g = rw (le-ltb _ _ h, le-ltb _ _ v, k, g)

pub returns-then-s-size : goal.returns-then-s-size
unfolding first_row head_rows
returns-then-s-size c = rw (lt-ltb _ _ (rw c.header_size-size.ensures at c.if-s-size.true))

pub returns-then-version-gt-MDMF_VERSION : goal.returns-then-version-gt-MDMF_VERSION
returns-then-version-gt-MDMF_VERSION c =
    sym (head_22 _ _ (rw c.header_size-size.ensures at c.if-s-size.false) (rw c.version.ensures at c.if-version-gt-MDMF_VERSION.true))

pub returns-then-not-coding_ok : goal.returns-then-not-coding_ok
returns-then-not-coding_ok c =
    let h = rw c.header_size-size.ensures at c.if-s-size.false in
    let v = rw c.version.ensures at c.if-version-gt-MDMF_VERSION.false in
    sym (head_23 _ _ h v (rw c.read-numbers.ensures at (sym c.coding_ok.ensures ∙ c.if-not-coding_ok.true)))

pub segment_ok-requires : goal.segment_ok-requires
segment_ok-requires c = (coding_facts _ _ (sym c.coding_ok.ensures ∙ c.if-not-coding_ok.false)).0

pub returns-then-not-segment_ok : goal.returns-then-not-segment_ok
returns-then-not-segment_ok c =
    let h = rw c.header_size-size.ensures at c.if-s-size.false in
    let v = rw c.version.ensures at c.if-version-gt-MDMF_VERSION.false in
    let m = c.read-numbers.ensures in
    let k = rw m at (sym c.coding_ok.ensures ∙ c.if-not-coding_ok.false) in
    sym (head_24 _ _ h v k (rw m at (sym c.segment_ok.ensures ∙ c.if-not-segment_ok.true)))

pub returns : goal.returns
returns c =
    let h = rw c.header_size-size.ensures at c.if-s-size.false in
    let v = rw c.version.ensures at c.if-version-gt-MDMF_VERSION.false in
    let m = c.read-numbers.ensures in
    let k = rw m at (sym c.coding_ok.ensures ∙ c.if-not-coding_ok.false) in
    sym (head_none _ _ h v k (rw m at (sym c.segment_ok.ensures ∙ c.if-not-segment_ok.false)))
