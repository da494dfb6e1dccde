-- Taking sizes off a room one by one. Assumes nothing.
use mathlib.Core.Path.{◌≡◌, refl, ap, ◌∙◌}
use mathlib.Core.Bool.{Bool, true, false}
use mathlib.Core.List.{List}
use Prim.Native.Nat.{ℕ, ◌+◌, ◌-◌, ◌≤◌, ◌<◌}
use native.Mathlib.Omega.{arith}
use lib.Dec.{leb}
use lib.ListN.{length, drop, get_or}
use borrow.Author.Tests.{leb-true, leb-false, le-leb, lt-leb}
use Rattle.std.specs.Borrow.{Bor}
use Rattle.octets.specs.Lists.{sum}
use Rattle.octets.proofs.ListLaws.{sum_drop, sum-none}
use Rattle.share_writing.specs.Facts.{sizes_of}
use Rattle.share_writing.proofs.PartLaws.{blank, count, size_at}

-- What is asked for, less what both sides lose.
leb_less : (h m n : ℕ) → h ≤ n → leb (h + m) n ≡ leb m (n - h)
leb_less h m n k = go (leb m (n - h)) refl
  where
    go : (t : Bool) → leb m (n - h) ≡ t → leb (h + m) n ≡ t
    go true e = le-leb (h + m) n (omega (arith, leb-true m (n - h) e))
    go false e = lt-leb (h + m) n (omega (arith, leb-false m (n - h) e))

module _ (ps : List (Bor (List ℕ))) where
  -- The header is taken off.
  pub room_start : (header space : ℕ) → header ≤ space
      → leb (header + sum (sizes_of ps)) space ≡ leb (sum (drop 0 (sizes_of ps))) (space - header)
  room_start header space h = leb_less header (sum (sizes_of ps)) space h

  pub room_none : (header space : ℕ) → space < header → leb (header + sum (sizes_of ps)) space ≡ false
  room_none header space h = lt-leb (header + sum (sizes_of ps)) space (omega arith)

  -- A part is taken off, or is too much.
  left_of : (i : ℕ) → i < length ps
      → sum (drop i (sizes_of ps)) ≡ length (get_or ps i blank).now + sum (drop (i + 1) (sizes_of ps))
  left_of i h =
      sum_drop (sizes_of ps) i (rw count h) ∙ ap (λ (n : ℕ). n + sum (drop (i + 1) (sizes_of ps))) (size_at ps i h)

  pub room_more : (i left : ℕ) → i < length ps → length (get_or ps i blank).now ≤ left
      → leb (sum (drop i (sizes_of ps))) left
      ≡ leb (sum (drop (i + 1) (sizes_of ps))) (left - length (get_or ps i blank).now)
  room_more i left h k =
      rw (left_of i h) (leb_less (length (get_or ps i blank).now) (sum (drop (i + 1) (sizes_of ps))) left k)

  pub room_short : (i left : ℕ) → i < length ps → left < length (get_or ps i blank).now
      → leb (sum (drop i (sizes_of ps))) left ≡ false
  room_short i left h k = lt-leb (sum (drop i (sizes_of ps))) left (omega (arith, left_of i h))

  pub room_end : (i left : ℕ) → length ps ≤ i → leb (sum (drop i (sizes_of ps))) left ≡ true
  room_end i left h =
      le-leb (sum (drop i (sizes_of ps))) left (rw (sum-none (sizes_of ps) i (rw count h)) (omega arith))
