-- What a message says of each fault (docs/REPLAY.md, what stops a run).
use Rattle.std.specs.Prelude.{ℕ, List, ◌++◌, codes}
use Rattle.std.specs.Fmt.{decimal}
use Rattle.replaying.specs.declared.items.Fault.{Fault}
use Rattle.replaying.specs.declared.items.Fault.TheVariants.{CarriageReturn, Word, NoNumber, Above, Below}
use Rattle.replaying.specs.declared.items.Fault.TheVariants.{Item, Quote, Room, More}

abbrev pub fault_text : Fault → List ℕ
fault_text CarriageReturn = codes "a carriage return: lines end with a line feed alone"
fault_text Word = codes "the line begins with no word that is known"
fault_text NoNumber = codes "a decimal number is missing"
fault_text (Above most) = codes "the number is above " ++ decimal most
fault_text (Below most) = codes "the number is below -" ++ decimal most
fault_text Item = codes "bytes are pairs of hex digits, =NUMBER or 'text'"
fault_text Quote = codes "the text has no closing quote"
fault_text (Room room) = codes "these are too many bytes: there is room for " ++ decimal room
fault_text More = codes "there is more on the line than belongs there"
