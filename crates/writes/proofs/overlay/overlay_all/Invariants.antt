-- The invariant: the writes that are left, put into the present data, give what all of them give in the first data.
use Prim.Native.Nat.{◌-◌}
use Rattle.requests.specs.Forms.{writes_in}
use Rattle.writes.proofs.TableLaws.{Overlaying}
use Rattle.writes.proofs.overlay.overlay_all.Given as goal

abbrev pub invariant-loop : goal.invariant-loop
invariant-loop l =
    Overlaying l.q (writes_in l.fn.t l.q) l.size l.initial.d l.d (l.end - l.counter) l.cursor.at l.bodies.at l.after
