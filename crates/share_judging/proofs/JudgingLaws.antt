-- The rows of a share: the order of its offsets, the number in two steps. Assumes nothing.
use mathlib.Core.Path.{◌≡◌}
use mathlib.Core.Bool.{true}
use mathlib.Core.List.{List}
use Prim.Native.Nat.{ℕ, ◌≤◌, ◌<◌}
use native.Mathlib.Omega.{arith}
use lib.ListN.{length, get_or}
use borrow.Author.Tests.{eqb-true, ltb-false, not-false}
use Rattle.octets.specs.Facts.{Each}
use Rattle.octets.specs.Rows.{first_row}
use Rattle.octets.proofs.ListLaws.{both}
use Rattle.octets.proofs.RowLaws.{rows_first, rows_second, rows_clear, clear}
use Rattle.share_format.specs.Facts.{PartsInside}
use Rattle.share_format.specs.Header.{Edition, edition_of, header_size, required, total, segment_size, data_length}
use Rattle.share_format.specs.Header.{bounds_of}
use Rattle.share_numbers.specs.Coding.{segment_ok}
use Rattle.share_numbers.specs.Order.{placed_ok}
use Rattle.share_numbers.proofs.CodingLaws.{coding_facts}
use Rattle.share_numbers.proofs.OrderLaws.{placed-inside}
use Rattle.share_judging.specs.Judging.{ordered, head_rows, body_rows, share_outcome}

pub order_facts : (e : Edition) (s : List ℕ) → ordered e s ≡ true
    → (placed_ok e (bounds_of e s) ≡ true) × (get_or (bounds_of e s) 7 0 ≡ length s)
unfolding ordered
order_facts e s h = let p = both _ _ h in (p.0, eqb-true _ _ p.1)

pub bounds_inside : (e : Edition) (s : List ℕ) → ordered e s ≡ true → PartsInside (bounds_of e s) (length s)
bounds_inside e s h = let o = order_facts e s h in placed-inside e (bounds_of e s) s o.0 o.1

-- ---- the numbers
head_numbered : (e : Edition) (s : List ℕ) → Each (λ r. 0 < r.number) (head_rows e s)
unfolding head_rows
head_numbered e s = (omega arith, (omega arith, (omega arith, (omega arith, tt))))

pub outcome-head : (s : List ℕ) → (first_row (head_rows (edition_of s) s) ≡ 0 → ⊥)
    → share_outcome s ≡ first_row (head_rows (edition_of s) s)
unfolding share_outcome
outcome-head s h = rows_first (head_rows (edition_of s) s) _ (head_numbered (edition_of s) s) h

pub outcome_body : (s : List ℕ) → first_row (head_rows (edition_of s) s) ≡ 0
    → share_outcome s ≡ first_row (body_rows (edition_of s) s)
unfolding share_outcome
outcome_body s h = rows_second (head_rows (edition_of s) s) _ (head_numbered (edition_of s) s) h

pub head_facts : (e : Edition) (s : List ℕ) → first_row (head_rows e s) ≡ 0
    → (header_size e ≤ length s) × (0 < required e s)
    × (segment_ok e (segment_size e s) (required e s) (data_length e s) ≡ true)
unfolding head_rows
head_facts e s h =
    let a = clear 21 _ _ (omega arith) h in
    let b = clear 22 _ _ (omega arith) a.1 in
    let c = clear 23 _ _ (omega arith) b.1 in
    let d = clear 24 _ _ (omega arith) c.1 in (
      ltb-false _ _ a.0,
      (coding_facts (required e s) (total e s) (not-false _ c.0)).0,
      not-false _ d.0,
    )

-- A share without an outcome has its offsets in order.
pub outcome-ordered : (s : List ℕ) → share_outcome s ≡ 0
    → (first_row (head_rows (edition_of s) s) ≡ 0) × (ordered (edition_of s) s ≡ true)
unfolding share_outcome body_rows
outcome-ordered s z =
    let r = rows_clear (head_rows (edition_of s) s) _ (head_numbered (edition_of s) s) z in
    (r.0, not-false _ (clear 25 _ _ (omega arith) r.1).0)
