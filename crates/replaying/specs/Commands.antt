-- The words that lines begin with.
use Rattle.std.specs.Prelude.{ℕ, ◌+◌, ◌-◌, ◌≤◌, Bool, true, false, cond, List, eqb, ltb, length, take, drop, get_or, bytes_eq, codes}
use Rattle.std.specs.Prelude.{Option, Some, None, Result, Ok, Err}
use Rattle.replaying.specs.Scanning.{run}
use Rattle.replaying.specs.Numerals.{decimal_at}
use Rattle.replaying.specs.Items.{above_of, item_at}
use Rattle.replaying.specs.declared.scanning.Sort.TheVariants.{But, Only}
use Rattle.replaying.specs.declared.numerals.NumberFault.{NumberFault}
use Rattle.replaying.specs.declared.items.Fault.{Fault}
use Rattle.replaying.specs.declared.items.Fault.TheVariants.{CarriageReturn, More}
use Rattle.replaying.specs.declared.items.Item.{Item}
use Rattle.replaying.specs.declared.commands.Command.{Command}
use Rattle.replaying.specs.declared.commands.Word.{Word}
use Rattle.replaying.specs.declared.commands.Word.TheVariants.{Buffer, Load, Node, Enabler, Create, Bytes, Apply}
use Rattle.replaying.specs.declared.commands.Word.TheVariants.{Watch, Expect, Say}
use Rattle.replaying.specs.declared.commands.Word.TheVariants.{List as ListWord}

-- The word of these bytes.
unfoldable pub word_of : List ℕ → Option Word
word_of w =
    cond (bytes_eq w (codes "buffer")) (Some Buffer)
    (cond (bytes_eq w (codes "load")) (Some Load)
    (cond (bytes_eq w (codes "list")) (Some ListWord)
    (cond (bytes_eq w (codes "node")) (Some Node)
    (cond (bytes_eq w (codes "enabler")) (Some Enabler)
    (cond (bytes_eq w (codes "create")) (Some Create)
    (cond (bytes_eq w (codes "bytes")) (Some Bytes)
    (cond (bytes_eq w (codes "apply")) (Some Apply)
    (cond (bytes_eq w (codes "watch")) (Some Watch)
    (cond (bytes_eq w (codes "expect")) (Some Expect)
    (cond (bytes_eq w (codes "say")) (Some Say) None))))))))))

-- The word that begins at a position goes up to the next space.
unfoldable pub word_to : List ℕ → ℕ → ℕ → Command
word_to s at e = record { word = word_of (take (e - at) (drop at s)); next = e }

unfoldable pub command_here : List ℕ → ℕ → Option Command
command_here s at = cond (eqb (get_or s at 0) 35) None (Some (word_to s at (at + run (But 32) (drop at s))))

unfoldable pub command_from : List ℕ → ℕ → Option Command
command_from s p = cond (ltb p (length s)) (command_here s p) None

-- The command of a line, behind spaces; a carriage return stands nowhere in the line.
unfoldable pub command_of : List ℕ → Result (Option Command) Fault
command_of s = cond (ltb (0 + run (But 13) (drop 0 s)) (length s)) (Err CarriageReturn)
    (Ok (command_from s (0 + run (Only 32) (drop 0 s))))

-- The position behind a word is at most n.
abbrev pub Followed : ℕ → Command → Type 0
Followed n c = c.next ≤ n

abbrev pub is_end : Result (Option (Item × ℕ)) Fault → Bool
is_end (Ok None) = true
is_end (Ok (Some x)) = false
is_end (Err f) = false

-- Nothing but spaces and a comment is left.
unfoldable pub ends_at : List ℕ → ℕ → Bool
ends_at s at = is_end (item_at s at)

abbrev pub argument_of : List ℕ → Result (ℕ × ℕ) NumberFault → Result ℕ Fault
argument_of s (Ok d) = cond (ends_at s d.1) (Ok d.0) (Err More)
argument_of s (Err f) = Err (above_of f)

-- The number behind spaces, where nothing follows it.
unfoldable pub argument_at : List ℕ → ℕ → ℕ → Result ℕ Fault
argument_at s at most = argument_of s (decimal_at s (at + run (Only 32) (drop at s)) most)
