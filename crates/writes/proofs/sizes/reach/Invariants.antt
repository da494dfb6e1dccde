-- The invariant: what is left of the table leads to where the whole table leads.
use Prim.Native.Nat.{◌-◌}
use Rattle.requests.specs.Forms.{writes_in}
use Rattle.writes.proofs.TableLaws.{Reaching}
use Rattle.writes.proofs.sizes.reach.Given as goal

abbrev pub invariant-loop : goal.invariant-loop
invariant-loop l = Reaching l.q (writes_in l.fn.t l.q) l.size (l.end - l.counter) l.cursor.at l.after
