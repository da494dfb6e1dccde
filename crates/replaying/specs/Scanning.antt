-- Runs of bytes of one sort.
use Rattle.std.specs.Prelude.{ℕ, Bool, not, List, eqb}
use Rattle.std.specs.Char.{is_ascii_digit}
use Rattle.std.specs.List.{prefix_len}
use Rattle.replaying.specs.declared.scanning.Sort.{Sort}
use Rattle.replaying.specs.declared.scanning.Sort.TheVariants.{But, Only, Digit}

-- Whether a byte is of the sort.
unfoldable pub is_of : Sort → ℕ → Bool
is_of (But x) b = not (eqb b x)
is_of (Only x) b = eqb b x
is_of Digit b = is_ascii_digit b

-- How many bytes of the sort stand at the front.
unfoldable pub run : Sort → List ℕ → ℕ
run k s = prefix_len (is_of k) s
