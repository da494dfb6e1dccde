-- Bytes written as text. A line is a row of items, spaces between them optional; a comment or the line's end ends it.
use Rattle.std.specs.Prelude.{ℕ, zero, suc, ◌+◌, ◌-◌, ◌%◌, ◌≤◌, ◌<◌, ◌≡◌, Bool, true, false, cond, ◌⊎◌, List, [], ◌++◌, eqb, ltb, length, take, drop, get_or, replicate}
use Rattle.std.specs.Prelude.{Option, Some, None, Result, Ok, Err}
use Rattle.octets.specs.Numbers.{digits}
use Rattle.octets.specs.Moves.{put}
use Rattle.replaying.specs.Scanning.{run}
use Rattle.replaying.specs.Numerals.{decimal_at, pair_at}
use Rattle.replaying.specs.declared.scanning.Sort.TheVariants.{But, Only}
use Rattle.replaying.specs.declared.numerals.NumberFault.{NumberFault}
use Rattle.replaying.specs.declared.numerals.NumberFault.TheVariants.{Missing, TooLarge}
use Rattle.replaying.specs.declared.items.Fault.{Fault}
use Rattle.replaying.specs.declared.items.Fault.TheVariants.{NoNumber, Above, Below, Quote, Room}
use Rattle.replaying.specs.declared.items.Fault.TheVariants.{Item as NoItem}
use Rattle.replaying.specs.declared.items.Item.{Item}
use Rattle.replaying.specs.declared.items.Item.TheVariants.{Repeat, Number, Text}

-- The text of an item lies in the first n bytes of its line.
abbrev pub Lies : ℕ → Item → Type 0
Lies n (Repeat b k) = Unit
Lies n (Number v) = Unit
Lies n (Text a e) = (a ≤ e) × (e ≤ n)

-- An item that begins at a position or behind it, with the position behind the item, lies in the first n bytes.
abbrev pub Inside : ℕ → ℕ → Item × ℕ → Type 0
Inside n at x = Lies n x.0 × (at < x.1) × (x.1 ≤ n)

-- The bytes of an item of a line, and how many they are.
abbrev pub bytes_of : List ℕ → Item → List ℕ
bytes_of s (Repeat b k) = replicate k b
bytes_of s (Number v) = digits 4 v
bytes_of s (Text a e) = take (e - a) (drop a s)

abbrev pub size_of : Item → ℕ
size_of (Repeat b k) = k
size_of (Number v) = 4
size_of (Text a e) = e - a

-- Why there is no number, of one that has a bound above it, or below it.
abbrev pub above_of : NumberFault → Fault
above_of Missing = NoNumber
above_of (TooLarge most) = Above most

abbrev pub below_of : NumberFault → Fault
below_of Missing = NoNumber
below_of (TooLarge most) = Below most

-- 'text': all up to the next quote.
unfoldable pub text_to : List ℕ → ℕ → ℕ → Result (Item × ℕ) Fault
text_to s at e = cond (ltb e (length s)) (Ok (Text at e, e + 1)) (Err Quote)

unfoldable pub text_at : List ℕ → ℕ → Result (Item × ℕ) Fault
text_at s at = text_to s at (at + run (But 39) (drop at s))

-- -v in 32 bits of two's complement.
abbrev pub negated : ℕ → ℕ
negated v = (4294967296 - v) % 4294967296

abbrev pub number_of : Result (ℕ × ℕ) NumberFault → Result (Item × ℕ) Fault
number_of (Ok d) = Ok (Number d.0, d.1)
number_of (Err f) = Err (above_of f)

abbrev pub negative_of : Result (ℕ × ℕ) NumberFault → Result (Item × ℕ) Fault
negative_of (Ok d) = Ok (Number (negated d.0), d.1)
negative_of (Err f) = Err (below_of f)

abbrev pub repeat_of : ℕ → Result (ℕ × ℕ) NumberFault → Result (Item × ℕ) Fault
repeat_of b (Ok d) = Ok (Repeat b d.0, d.1)
repeat_of b (Err f) = Err (above_of f)

-- Whether b stands at a position.
unfoldable pub stands_at : List ℕ → ℕ → ℕ → Bool
stands_at s at b = cond (ltb at (length s)) (eqb (get_or s at 0) b) false

-- =N, with a minus sign or none.
unfoldable pub numeral_at : List ℕ → ℕ → Result (Item × ℕ) Fault
numeral_at s at = cond (stands_at s at 45) (negative_of (decimal_at s (at + 1) 2147483648))
    (number_of (decimal_at s at 4294967295))

-- The largest N of XX*N: enough for a request that is a little too long.
abbrev pub most_repeats : ℕ
most_repeats = 65540

-- XX or XX*N, of which the pair was read.
unfoldable pub repeat_by : List ℕ → ℕ → Option ℕ → Result (Item × ℕ) Fault
repeat_by s at None = Err NoItem
repeat_by s at (Some b) = cond (stands_at s (at + 2) 42) (repeat_of b (decimal_at s (at + 3) most_repeats))
    (Ok (Repeat b 1, at + 2))

unfoldable pub repeat_at : List ℕ → ℕ → Result (Item × ℕ) Fault
repeat_at s at = repeat_by s at (pair_at s at)

-- An item that is there.
abbrev pub some_item : Result (Item × ℕ) Fault → Result (Option (Item × ℕ)) Fault
some_item (Ok x) = Ok (Some x)
some_item (Err f) = Err f

-- The item that begins with the byte at a position: # ends the line, ' begins text, = a number, all else is a pair.
unfoldable pub item_here : List ℕ → ℕ → Result (Option (Item × ℕ)) Fault
item_here s at =
    cond (eqb (get_or s at 0) 35) (Ok None)
    (cond (eqb (get_or s at 0) 39) (some_item (text_at s (at + 1)))
    (cond (eqb (get_or s at 0) 61) (some_item (numeral_at s (at + 1))) (some_item (repeat_at s at))))

unfoldable pub item_from : List ℕ → ℕ → Result (Option (Item × ℕ)) Fault
item_from s p = cond (ltb p (length s)) (item_here s p) (Ok None)

-- The next item with the position behind it, behind spaces.
unfoldable pub item_at : List ℕ → ℕ → Result (Option (Item × ℕ)) Fault
item_at s at = item_from s (at + run (Only 32) (drop at s))

-- The bytes of an item, and then those of the items from its end on.
unfoldable pub bytes_then : List ℕ → Result (Option (Item × ℕ)) Fault → (ℕ → List ℕ) → List ℕ
bytes_then s (Ok None) rest = []
bytes_then s (Ok (Some x)) rest = bytes_of s x.0 ++ rest x.1
bytes_then s (Err f) rest = []

-- The bytes of the first n items of a line from a position on.
unfoldable pub line_bytes : ℕ → List ℕ → ℕ → List ℕ
line_bytes zero s at = []
line_bytes (suc n) s at = bytes_then s (item_at s at) (λ next. line_bytes n s next)

-- No item from a position on is bad: of one item, and then of the items from its end on; of the first n items of a
-- line.
unfoldable pub right_then : Result (Option (Item × ℕ)) Fault → (ℕ → Bool) → Bool
right_then (Ok None) rest = true
right_then (Ok (Some x)) rest = rest x.1
right_then (Err f) rest = false

unfoldable pub line_right : ℕ → List ℕ → ℕ → Bool
line_right zero s at = true
line_right (suc n) s at = right_then (item_at s at) (λ next. line_right n s next)

-- What a line is answered where k bytes of the room are taken: by one item, and then by the items from its end on; by
-- the first n items. Bytes that the room does not hold are refused at the first item that reaches beyond it.
unfoldable pub answer_then : ℕ → ℕ → Result (Option (Item × ℕ)) Fault → (ℕ → ℕ → Result ℕ Fault) → Result ℕ Fault
answer_then room k (Ok None) rest = Ok k
answer_then room k (Ok (Some x)) rest =
    cond (ltb (room - k) (size_of x.0)) (Err (Room room)) (rest x.1 (k + size_of x.0))
answer_then room k (Err f) rest = Err f

unfoldable pub line_answer : ℕ → List ℕ → ℕ → ℕ → ℕ → Result ℕ Fault
line_answer zero s at room k = Ok k
line_answer (suc n) s at room k = answer_then room k (item_at s at) (λ next m. line_answer n s next room m)

-- The bytes of the next item were put into d at k, which made it d'; the rest of the line begins at next.
pub record Went (s : List ℕ) (at : ℕ) (d : List ℕ) (k : ℕ) (d' : List ℕ) (next m : ℕ) (item : Item) : Type 0 where
  pub is : item_at s at ≡ Ok (Some (item, next))
  pub lies : Lies (length s) item
  pub count : m ≡ k + size_of item
  pub written : d' ≡ put k (bytes_of s item) d
  pub on : at < next
  pub in_text : next ≤ length s
  pub in_room : m ≤ length d

-- The next item has no room.
pub record IsFull (s : List ℕ) (at room k : ℕ) (f : Fault) (x : Item × ℕ) : Type 0 where
  pub is : item_at s at ≡ Ok (Some x)
  pub lies : Lies (length s) x.0
  pub full : room - k < size_of x.0
  pub fault : f ≡ Room room

-- What one item makes of d: its bytes are put, the line is at its end, or the item is bad or has no room.
abbrev pub Stepped : List ℕ → ℕ → List ℕ → ℕ → List ℕ → Result (Option (ℕ × ℕ)) Fault → Type 0
Stepped s at d k d' (Ok (Some x)) = (item : Item) × Went s at d k d' x.0 x.1 item
Stepped s at d k d' (Ok None) = (item_at s at ≡ Ok None) × (d' ≡ d)
Stepped s at d k d' (Err f) = (item_at s at ≡ Err f) ⊎ ((x : Item × ℕ) × IsFull s at (length d) k f x)

-- A line with the bytes bs and the given rightness was taken: its bytes stand in the buffer from k on, up to the count.
-- Or it was not: an item is bad, or the bytes have no room.
abbrev pub Written : Bool → List ℕ → List ℕ → ℕ → List ℕ → Result ℕ Fault → Type 0
Written right bs d k d' (Ok m) = (right ≡ true) × (m ≡ k + length bs) × (m ≤ length d) × (d' ≡ put k bs d)
Written right bs d k d' (Err f) = (right ≡ false) ⊎ (length d < k + length bs)
