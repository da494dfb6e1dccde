-- The 32 bytes at a field of a place are bytes of the container. Assumes nothing.
use mathlib.Core.Path.{◌≡◌, sym, ◌∙◌}
use Prim.Native.Nat.{◌+◌, ◌-◌}
use lib.ListN.{length-take, length-drop}
use lib.Seq.{take_all}
use native.Mathlib.Omega.{arith}
use Rattle.format.specs.Layout.{record_size, secret_size}
use Rattle.leases.specs.Places.{has_token}
use Rattle.octets.proofs.ListLaws.{part_part}
use Rattle.leases.proofs.places.Places.has_token.Goals as goal

pub returns-then-not-is_held : goal.returns-then-not-is_held
unfolding has_token
returns-then-not-is_held c = rw (← c.at-p.ensures.place, sym c.is_held.ensures ∙ c.if-not-is_held.true)

pub slice_bounds-same-end-2 : goal.slice_bounds-same-end-2
slice_bounds-same-end-2 c = omega (arith, length-take secret_size c.args.token.now)

pub same-requires : goal.same-requires
same-requires c =
    let a = c.args in
    rw (length-take, length-take, length-drop) (omega arith)

pub returns : goal.returns
unfolding has_token
returns c =
    let a = c.args in
    let p = c.at-p.result in
    let e : p + a.field + secret_size - (p + a.field) ≡ secret_size = omega arith in
    rw (
      ← c.at-p.ensures.place,
      sym c.is_held.ensures ∙ c.if-not-is_held.false,
      part_part p record_size a.field secret_size a.self.now.c.now (omega arith),
    ) (c.same.ensures ∙ rw (e, take_all secret_size a.token.now (omega arith)))
