-- What resolving gives, or 0, as in the rules.
use mathlib.Core.Path.{◌∙◌, ap}
use Rattle.std.specs.Prelude.{unwrap_or, Option}
use Prim.Native.Nat.{ℕ}
use lib.IntN.{ℤ}
use mir.Syntax.{w32}
use mir.ValLaws.{to_z-of_z}
use Rattle.requests.specs.Offsets.{resolved_of}
use Rattle.requests.proofs.CursorLaws.{resolved-else}
use Rattle.requests.proofs.offsets.position.Goals as goal

pub returns : goal.returns
returns c =
    let a = c.args in
    c.unwrap_or.ensures
    ∙ ap (λ (r : Option ℕ). unwrap_or r 0) (c.resolve.ensures ∙ ap (λ (z : ℤ). resolved_of z a.size) (to_z-of_z w32 a.offset c.ranges.offset))
    ∙ resolved-else a.offset a.size
