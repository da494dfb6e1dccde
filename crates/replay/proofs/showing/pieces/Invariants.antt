-- The table of lengths lies inside the reply, and so does the position; what is left of the request's table lies inside
-- the request.
use Rattle.std.proofs.Common.{◌+◌, ◌-◌, ◌*◌, ◌≤◌, length}
use Rattle.rules.specs.Testing.{length_size}
use Rattle.replay.proofs.showing.pieces.Given as goal

abbrev pub invariant-loop-i : goal.invariant-loop-i
invariant-loop-i g l = record {
  lengths : length_size * l.count ≤ length l.reply;
  position : l.at ≤ length l.reply;
  entries : l.cursor.at + l.table.stride * (l.count - l.i) ≤ length l.request;
}
