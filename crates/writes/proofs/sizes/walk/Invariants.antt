-- The invariant: what is left of the table leads to the size and leaves the last gap of the whole table.
use Prim.Native.Nat.{◌-◌}
use Rattle.requests.specs.Forms.{writes_in}
use Rattle.writes.proofs.TableLaws.{Walking}
use Rattle.writes.proofs.sizes.walk.Given as goal

abbrev pub invariant-loop : goal.invariant-loop
invariant-loop l = Walking l.q (writes_in l.fn.t l.q) l.size (l.end - l.counter) l.cursor.at l.after l.gap
