-- The four and the extras. Assumes nothing.
use mathlib.Core.Path.{sym}
use native.Mathlib.Omega.{arith}
use Rattle.leases.proofs.PlaceLaws.{known_bounds, known_places}
use Rattle.leases.proofs.places.Places.len.Goals as goal

pub overflow_add-result : goal.overflow_add-result
overflow_add-result c = let z = known_bounds _ _ c.args.self.now.known in omega arith

pub returns : goal.returns
returns c = sym (known_places _ _ c.args.self.now.known)
