-- The list's rows taken into a table, and a table's rows written as a list. Assumes nothing.
use mathlib.Core.Path.{◌≡◌, refl, ap, ◌∙◌}
use mathlib.Core.List.{List, ◌++◌, map, append_assoc, append-nil}
use Prim.Native.Nat.{ℕ, ◌+◌, ◌*◌, ◌-◌, ◌≤◌}
use native.Mathlib.Omega.{arith}
use lib.ListN.{length, take, drop, replicate, length-append, length-drop, length-replicate, drop_of_length-le}
use lib.Seq.{take_at, drop_at, take_all, take-append-le, length-take-le}
use Rattle.octets.specs.Facts.{Octets}
use Rattle.octets.specs.Moves.{put}
use Rattle.octets.specs.Numbers.{digits}
use Rattle.octets.specs.Strings.{join}
use Rattle.octets.proofs.MoveLaws.{put-put}
use Rattle.octets.proofs.NumberLaws.{length_digits}
use Rattle.octets.proofs.StringLaws.{tail_is, octets_take, octets_drop}
use Rattle.stretches.specs.List.{list_length, row_limit, rows_at, row_size, row_count, rows_from, stretches_of, row_bytes}
use Rattle.stretches.specs.List.{list_bytes}
use Rattle.stretches.proofs.ByteLaws.{length-rows_from, rows_then}
use Rattle.lists.proofs.JudgeLaws.{rows_by}

-- ---- as many as the table says
pub counted : (n p : ℕ) (l : List ℕ) → length (rows_from n p l) ≡ n
counted n p l = length-rows_from n p l

-- ---- taken into a table
pub load_rows : (l t : List ℕ) → rows_at + row_size * row_count l ≤ length l →
    rows_from (row_count l) 0 (put 0 (take (length l - rows_at) (drop rows_at l)) t) ≡ stretches_of l
unfolding stretches_of
load_rows l t h =
    let n : ℕ = row_count l in
    let rows : List ℕ = drop rows_at l in
    let front : take (row_size * n) (put 0 rows t) ≡ take (row_size * n) rows =
    take-append-le (row_size * n) rows (drop (0 + length rows) t) (rw length-drop (omega arith)) in
    rw (tail_is l rows_at) (rows_by n 0 rows_at (put 0 rows t) l front)

-- ---- written as a list
-- the bytes of rows
rows-bytes : (n : ℕ) (t y : List ℕ) → y ≡ take (row_size * n) t → row_size * n ≤ length t → Octets y →
    y ≡ join (map row_bytes (rows_from n 0 t))
rows-bytes n t y e h o =
    let k : length y ≡ row_size * n = ap length e ∙ length-take-le (row_size * n) t h in
    let same : rows_from n 0 y ≡ rows_from n 0 t =
    rows_by n 0 0 y t (take_all (row_size * n) y (omega arith) ∙ e) in
    rows_then n 0 y (omega arith) o
    ∙ rw (same, drop_of_length-le y {i = 0 + row_size * n} (omega arith))
    (append-nil (join (map row_bytes (rows_from n 0 t))))

-- bytes in place of all
put_whole : (bs s : List ℕ) → length bs ≡ length s → put 0 bs s ≡ bs
put_whole bs s h = rw (drop_of_length-le s {i = 0 + length bs} (omega arith)) (append-nil bs)

-- the number, the rows and the zeros, stored one behind the other
module _ (n k : ℕ) (l t a b c : List ℕ) (long : length l ≡ list_length) (few : n ≤ row_limit)
    (room : row_size * n ≤ length t) (o : Octets c)
    (is-a : a ≡ put 0 (digits 4 n) l) (part : k ≡ row_size * n) (is_b : b ≡ put rows_at (take k t) a)
    (is_c : c ≡ put (rows_at + row_size * n) (replicate (list_length - (rows_at + row_size * n)) 0) b) where
  pub store_list : c ≡ list_bytes (rows_from n 0 t)
  unfolding list_bytes
  store_list =
      let used : ℕ = row_size * n in
      let x : List ℕ = digits 4 n in
      let y : List ℕ = take used t in
      let z : List ℕ = replicate (list_length - (rows_at + used)) 0 in
      let ly : length y ≡ used = length-take-le used t room in
      let lz : length z ≡ list_length - (rows_at + used) = length-replicate (list_length - (rows_at + used)) 0 in
      let whole : length ((x ++ y) ++ z) ≡ length l = simp (length-append, length_digits) (omega arith) in
      let p : rows_at ≡ 0 + length x = rw length_digits in
      let q : rows_at + used ≡ 0 + length (x ++ y) = simp (length-append, length_digits) (omega arith) in
      let m : length (rows_from n 0 t) ≡ n = length-rows_from n 0 t in
      let all : c ≡ x ++ (y ++ z) =
      is_c ∙ rw (
        is_b,
        is-a,
        part,
        put-put 0 rows_at x y l (omega arith) p,
        put-put 0 (rows_at + used) (x ++ y) z l (omega arith) q,
        put_whole ((x ++ y) ++ z) l whole,
      ) (append_assoc x y z) in
      let mid : take used (drop rows_at c) ≡ y =
      rw (all, drop_at x (y ++ z) rows_at (rw length_digits)) (take_at y z used ly) in
      let oy : Octets y = rw mid at (octets_take used (drop rows_at c) (octets_drop rows_at c o)) in
      all ∙ rw (m, ← rows-bytes n t y refl room oy)
