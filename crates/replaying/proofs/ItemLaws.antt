-- Laws about items and the bytes of a line.
use Rattle.std.proofs.Common.{◌≡◌, sym, ap, ◌∙◌, true, false, List, [], ◌++◌, ℕ, zero, suc, ◌+◌, ◌-◌, ◌≤◌, ◌<◌}
use Rattle.std.proofs.Common.{◌⊎◌, inl, inr, Some, None, Ok, Err, length, arith}
use mathlib.Core.List.{append-nil}
use native.Mathlib.Nat.{add-zero, zero-add}
use lib.ListN.{drop_of_length-le, take-append-drop, length-append, length-take, length-drop, length-replicate}
use borrow.Author.Tests.{lt-ltb, le-ltb}
use Rattle.octets.specs.Moves.{put}
use Rattle.octets.proofs.MoveLaws.{put-put, put-length}
use Rattle.octets.proofs.NumberLaws.{length_digits}
use Rattle.replaying.specs.Items.{Lies, bytes_of, size_of, item_at, bytes_then, line_bytes, right_then, line_right}
use Rattle.replaying.specs.Items.{answer_then, line_answer, Went, IsFull, Written}
use Rattle.replaying.specs.declared.items.Fault.{Fault}
use Rattle.replaying.specs.declared.items.Fault.TheVariants.{Room}
use Rattle.replaying.specs.declared.items.Item.{Item}
use Rattle.replaying.specs.declared.items.Item.TheVariants.{Repeat, Number, Text}

-- How many bytes an item has.
pub length-bytes : (s : List ℕ) (item : Item) → Lies (length s) item → length (bytes_of s item) ≡ size_of item
length-bytes s (Repeat b k) h = length-replicate k b
length-bytes s (Number v) h = length_digits 4 v
length-bytes s (Text a e) h = simp (length-take, length-drop) (omega arith)

-- Putting nothing, and putting all.
pub put-nil : (k : ℕ) (d : List ℕ) → put k [] d ≡ d
put-nil k d = rw (append-nil, add-zero) (take-append-drop k d)

pub put-whole : (bs d : List ℕ) → length bs ≡ length d → put 0 bs d ≡ bs
put-whole bs d e = rw (zero-add, drop_of_length-le d {i = length bs} (omega arith)) (append-nil bs)

-- A line by its next item: its bytes, whether it is right and what it is answered.
module _ (s : List ℕ) (at n : ℕ) where
  pub bytes_end : item_at s at ≡ Ok None → line_bytes (suc n) s at ≡ []
  unfolding line_bytes bytes_then
  bytes_end e = rw e

  pub right_end : item_at s at ≡ Ok None → line_right (suc n) s at ≡ true
  unfolding line_right right_then
  right_end e = rw e

  pub answer_end : (room k : ℕ) → item_at s at ≡ Ok None → line_answer (suc n) s at room k ≡ Ok k
  unfolding line_answer answer_then
  answer_end room k e = rw e

  pub bytes_more : (x : Item × ℕ) → item_at s at ≡ Ok (Some x) → line_bytes (suc n) s at ≡ bytes_of s x.0 ++ line_bytes n s x.1
  unfolding line_bytes bytes_then
  bytes_more x e = rw e

  pub right_more : (x : Item × ℕ) → item_at s at ≡ Ok (Some x) → line_right (suc n) s at ≡ line_right n s x.1
  unfolding line_right right_then
  right_more x e = rw e

  pub answer_more : (room k : ℕ) (x : Item × ℕ) → item_at s at ≡ Ok (Some x) → size_of x.0 ≤ room - k
      → line_answer (suc n) s at room k ≡ line_answer n s x.1 room (k + size_of x.0)
  unfolding line_answer answer_then
  answer_more room k x e h = rw (e, le-ltb (room - k) (size_of x.0) h)

  pub answer_full : (room k : ℕ) (x : Item × ℕ) → item_at s at ≡ Ok (Some x) → room - k < size_of x.0
      → line_answer (suc n) s at room k ≡ Err (Room room)
  unfolding line_answer answer_then
  answer_full room k x e h = rw (e, lt-ltb (room - k) (size_of x.0) h)

  pub right_bad : (f : Fault) → item_at s at ≡ Err f → line_right (suc n) s at ≡ false
  unfolding line_right right_then
  right_bad f e = rw e

  pub answer_bad : (room k : ℕ) (f : Fault) → item_at s at ≡ Err f → line_answer (suc n) s at room k ≡ Err f
  unfolding line_answer answer_then
  answer_bad room k f e = rw e

-- What is left of a line, put into the buffer as it is now, is the whole line put into the first buffer.
pub record Putting (s : List ℕ) (at₀ : ℕ) (d₀ : List ℕ) (k₀ at k : ℕ) (d : List ℕ) (left : ℕ) : Type 0 where
  pub in_text : at ≤ length s
  pub enough : length s < at + left
  pub in_room : k ≤ length d
  pub room : length d ≡ length d₀
  pub puts : put k₀ (line_bytes (length s + 1) s at₀) d₀ ≡ put k (line_bytes left s at) d
  pub counts : k₀ + length (line_bytes (length s + 1) s at₀) ≡ k + length (line_bytes left s at)
  pub rights : line_right (length s + 1) s at₀ ≡ line_right left s at
  pub answers : line_answer (length s + 1) s at₀ (length d₀) k₀ ≡ line_answer left s at (length d₀) k

module _ (s : List ℕ) (at₀ : ℕ) (d₀ : List ℕ) (k₀ at k : ℕ) (d : List ℕ) where
  -- An item is put.
  pub turn : (left : ℕ) → Putting s at₀ d₀ k₀ at k d left → (d' : List ℕ) (next m : ℕ) (item : Item)
      → Went s at d k d' next m item → (n : ℕ) × Putting s at₀ d₀ k₀ next m d' n
  turn zero p d' next m item w = absurd (omega arith)
  turn (suc n) p d' next m item w =
      let size = length-bytes s item w.lies in
      let e : length d' ≡ length d = rw w.written (put-length k (bytes_of s item) d (omega arith)) in
      let b = bytes_more s at n (item, next) w.is in (
        n,
        record {
          in_text = w.in_text;
          enough = omega arith;
          in_room = omega arith;
          room = e ∙ p.room;
          puts = p.puts ∙ rw (b, w.written) (sym (put-put k m (bytes_of s item) (line_bytes n s next) d p.in_room
              (omega arith)));
          counts = p.counts ∙ rw (b, length-append) (omega arith);
          rights = p.rights ∙ right_more s at n (item, next) w.is;
          answers = p.answers ∙ answer_more s at n (length d₀) k (item, next) w.is (omega arith)
              ∙ ap (λ (x : ℕ). line_answer n s next (length d₀) x) (sym w.count);
        },
      )

  -- The line is at its end.
  pub done : (left : ℕ) → Putting s at₀ d₀ k₀ at k d left → item_at s at ≡ Ok None
      → Written (line_right (length s + 1) s at₀) (line_bytes (length s + 1) s at₀) d₀ k₀ d (Ok k)
      × (Ok k ≡ line_answer (length s + 1) s at₀ (length d₀) k₀)
  done zero p e = absurd (omega arith)
  done (suc n) p e =
      let b = bytes_end s at n e in (
        (
          p.rights ∙ right_end s at n e,
          omega (arith, ap length b),
          omega arith,
          sym (p.puts ∙ ap (λ (x : List ℕ). put k x d) b ∙ put-nil k d),
        ),
        sym (p.answers ∙ answer_end s at n (length d₀) k e),
      )

  -- The next item is bad, or has no room.
  pub stopped : (left : ℕ) → Putting s at₀ d₀ k₀ at k d left → (d' : List ℕ) (f : Fault)
      → (item_at s at ≡ Err f) ⊎ ((x : Item × ℕ) × IsFull s at (length d) k f x)
      → Written (line_right (length s + 1) s at₀) (line_bytes (length s + 1) s at₀) d₀ k₀ d' (Err f)
      × (Err f ≡ line_answer (length s + 1) s at₀ (length d₀) k₀)
  stopped zero p d' f h = absurd (omega arith)
  stopped (suc n) p d' f (inl e) = (
    inl (p.rights ∙ right_bad s at n f e),
    sym (p.answers ∙ answer_bad s at n (length d₀) k f e),
  )
  stopped (suc n) p d' f (inr (x, w)) =
      let b = bytes_more s at n x w.is in
      let size = length-bytes s x.0 w.lies in
      let c : length (line_bytes (suc n) s at) ≡ length (bytes_of s x.0) + length (line_bytes n s x.1) =
      ap length b ∙ length-append (bytes_of s x.0) (line_bytes n s x.1) in (
        inr (omega arith),
        sym (p.answers ∙ answer_full s at n (length d₀) k x w.is (rw (sym p.room) w.full)
            ∙ rw (w.fault, p.room)),
      )
