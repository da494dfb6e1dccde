-- The table of writes, an entry at a time, with the rows of the list carried along; then the cut. Assumes nothing.
use mathlib.Core.Path.{◌≡◌, refl, sym, ap, ◌∙◌}
use mathlib.Core.List.{List, [], ◌∷◌}
use mathlib.Core.Option.{none}
use Prim.Native.Nat.{ℕ, suc, ◌+◌, ◌-◌, ◌≤◌, ◌<◌}
use native.Mathlib.Omega.{arith}
use lib.ListN.{length, take, drop}
use Rattle.std.specs.Prelude.{Some}
use Rattle.format.specs.Layout.{limit}
use Rattle.rules.specs.Requests.{Write, request_limit, writes_from}
use Rattle.rules.specs.Writing.{Placed, grow, placed}
use Rattle.rules.specs.Changes.{wrote, cut_at, size_by, cut_change, write_changes}
use Rattle.requests.specs.Forms.{PartedIn, writes_in, cut_in}
use Rattle.requests.specs.declared.cursors.Entry.{Entry}
use Rattle.requests.specs.declared.forms.Parted.{Parted}
use Rattle.writes.proofs.TableLaws.{Rest, rest_start, Taken, most_on_the_way, body_length, entry_rest, entry_small}
use Rattle.writes.proofs.TableLaws.{left, onward, entry_placed}
use Rattle.stretches.specs.Stretches.{Stretch, below, written_over, stretches_by, stretches_after}
use Rattle.stretches.specs.List.{row_limit, rows_at, row_count, stretches_of}
use Rattle.stretches.specs.Claims.{Storable}
use Rattle.stretches.proofs.ShapeLaws.{rising_written, length_written}
use Rattle.stretches.proofs.ByteLaws.{length-rows_from}
use Rattle.lists.specs.Tables.{table_rows, rows_of, Ready}
use Rattle.lists.specs.declared.rows.Rows.{Rows}
use Rattle.listed_slot.specs.Following.{followed_by}

-- ---- one write
module _ {q : List ℕ} {v p b size : ℕ} {e : Entry} {at : ℕ} (K : Taken q v p b size e at) where
  entry_rows : (rs : List Stretch) → followed_by (writes_from v p b q) none size rs
      ≡ followed_by (left K) none (onward K) (written_over size at e.count rs)
  unfolding write_changes stretches_after stretches_by size_by
  entry_rows rs =
      let n : length (take e.count (drop b q)) ≡ e.count = rw K.entry (body_length K) in
      rw (entry_placed K)
      (ap (λ (m : ℕ). stretches_after (write_changes (placed (left K) (onward K)) (cut_change none)) (grow size at m)
      (written_over size at m rs)) n)

-- ---- the loop over the writes
-- The writes that are left make of the rows of the table t, beside data of the size so far, what all of them, ws, make of
-- the rows rs. Each of them has room for one row more.
pub record Following (q : List ℕ) (ws : List Write) (size : ℕ) (rs : List Stretch) (v at : ℕ) (t : Rows)
    (after : ℕ) : Type 0 where
  pub body : ℕ
  pub rest : Rest q v at body
  pub small : after ≤ most_on_the_way size body
  pub ready : Ready t after
  pub room : length (rows_of t) + v < table_rows
  pub rows : followed_by (writes_from v at body q) none after (rows_of t) ≡ followed_by ws none size rs

pub following_start : {q : List ℕ} (t : Parted) (size v : ℕ) (rows : Rows) → PartedIn q t → Storable (rows_of rows) size
    → v ≡ t.writes.count → Following q (writes_in t q) size (rows_of rows) v t.writes.first.at rows size
following_start t size v rows k s n =
    rw n (record {
      body = t.bodies.at;
      rest = rest_start _ t k;
      small = omega arith;
      ready = record { room = omega (arith, s.few); fits = s.fits; rises = s.rises };
      room = omega (arith, s.few, k.writes.few);
      rows = refl;
    })

module _ {q : List ℕ} {ws : List Write} {size : ℕ} {rs : List Stretch} {v at : ℕ} {t : Rows} {after : ℕ}
    (F : Following q ws size rs v at t after) where
  pub following_next : {e : Entry} {p : ℕ} → Taken q v at F.body after e p → length q ≤ request_limit →
      size ≤ limit → (x : Rows) (next w : ℕ) → rows_of x ≡ written_over after p e.count (rows_of t) →
      next ≡ grow after p e.count → suc w ≡ v → Following q ws size rs w e.next.at x next
  following_next {e} {p} K l s x next w h g n =
      let m : w ≡ v - 1 = omega arith in
      let R : Rest q (v - 1) e.next.at (F.body + e.count) = entry_rest K in
      let small : next ≤ most_on_the_way size (F.body + e.count) = rw g (entry_small K size F.small) in
      let few : length (rows_of x) ≤ suc (length (rows_of t)) =
      rw h (length_written after p e.count (rows_of t) F.ready.rises) in
      rw m (record {
        body = F.body + e.count;
        rest = R;
        small = small;
        ready = record {
          room = omega (arith, F.room, K.some, few);
          fits = omega (arith, small, R.bodies);
          rises = rw (h, g) (rising_written after p e.count (rows_of t) F.ready.rises);
        };
        room = omega (arith, F.room, K.some, few);
        rows = rw (h, g) (sym (entry_rows K (rows_of t)) ∙ F.rows);
      })

  pub following_end : v ≤ 0 → rows_of t ≡ followed_by ws none size rs
  unfolding writes_from placed write_changes cut_change stretches_after
  following_end h = let z : v ≡ 0 = omega arith in rw z at F.rows

-- ---- then the cut
after-cut : (ws : List Placed) (m n : ℕ) (rs : List Stretch) →
    stretches_after (write_changes ws (cut_at m ∷ [])) n rs ≡ below m (stretches_after (write_changes ws []) n rs)
unfolding write_changes stretches_after stretches_by
after-cut [] m n rs = refl
after-cut (w ∷ ws) m n rs =
    after-cut ws m (size_by (wrote w.at w.bytes) n) (written_over n w.at (length w.bytes) rs)

-- What the cut to m makes of the rows after the writes.
pub cut-some : (ws : List Write) (m size : ℕ) (rs : List Stretch) →
    below m (followed_by ws none size rs) ≡ followed_by ws (cut_in (Some m)) size rs
unfolding cut_change
cut-some ws m size rs = sym (after-cut (placed ws size) m size rs)

-- ---- a list that can be stored has no more rows than it may have
pub few_listed : (l : List ℕ) {size : ℕ} → Storable (stretches_of l) size → row_count l ≤ row_limit
unfolding stretches_of
few_listed l S = omega (arith, length-rows_from (row_count l) rows_at l, S.few)
