-- The zeros after the used end become a record, and the count says so. Assumes nothing.
use mathlib.Core.Path.{ap, ◌∙◌}
use mathlib.Core.List.{List}
use Prim.Native.Nat.{ℕ, ◌+◌}
use native.Mathlib.Omega.{arith}
use Rattle.std.proofs.Common.{rules}
use Rattle.octets.specs.Numbers.{digits}
use Rattle.octets.specs.Moves.{put}
use Rattle.octets.specs.Facts.{Octets}
use Rattle.format.specs.Layout.{count_size}
use Rattle.format.proofs.WellFormed.{used_is}
use Rattle.leases.proofs.PlaceLaws.{known_bounds}
use Rattle.leases.proofs.ChangeLaws.{put_extra}
use Rattle.leases.proofs.changes.append_record.Goals as goal

pub used-requires : goal.used-requires
used-requires c = let z = known_bounds _ _ c.requires.0 in (omega arith, omega arith)

pub copy_part-requires : goal.copy_part-requires
copy_part-requires c =
    let u = used_is c.args.frame.offset in
    omega (arith, c.used.ensures, c.requires.1, u c.args.frame.extras, u (c.args.frame.extras + 1))

pub overflow_add-frame : goal.overflow_add-frame
overflow_add-frame c =
    let z = known_bounds _ _ c.requires.0 in
    omega arith

pub overflow_cast-frame : goal.overflow_cast-frame
overflow_cast-frame c =
    let z = known_bounds _ _ c.requires.0 in
    omega arith

pub put_u32-requires : goal.put_u32-requires
put_u32-requires c =
    let z = known_bounds _ _ c.requires.0 in
    omega arith

pub returns : goal.returns
returns c =
    let a = c.args in
    let o : Octets a.c.now = λ j. search rules in
    let n : List ℕ = digits count_size (a.frame.extras + 1) in
    let e = c.copy_part.ensures ∙ ap (λ (i : ℕ). put i a.lease.now a.c.now) c.used.ensures in
    c.put_u32.ensures ∙ ap (put a.frame.offset n) e
    ∙ put_extra a.c.now a.frame c.requires.0 o a.lease.now c.requires.1 c.requires.2
