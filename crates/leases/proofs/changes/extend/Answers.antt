-- The place keeps the later expiry, whether it is stored or stands there already. Assumes nothing.
use mathlib.Core.Path.{◌∙◌}
use native.Mathlib.Omega.{arith}
use Rattle.std.proofs.Common.{rules}
use Rattle.octets.specs.Facts.{Octets}
use Rattle.leases.proofs.PlaceLaws.{known_bounds, inside}
use Rattle.leases.proofs.ChangeLaws.{put_expiry, keep_expiry}
use Rattle.leases.proofs.changes.extend.Goals as goal

pub place_at-p-requires : goal.place_at-p-requires
place_at-p-requires c = let z = known_bounds _ _ c.requires.0 in (omega arith, omega arith)

pub overflow_add-p : goal.overflow_add-p
overflow_add-p c =
    let h = inside _ _ c.requires.0 c.args.i c.requires.1 _ c.place_at-p.ensures in omega arith

pub u32_at-old-requires : goal.u32_at-old-requires
u32_at-old-requires c =
    let h = inside _ _ c.requires.0 c.args.i c.requires.1 _ c.place_at-p.ensures in omega arith

pub overflow_add-p-then-old-expiry : goal.overflow_add-p-then-old-expiry
overflow_add-p-then-old-expiry c =
    let h = inside _ _ c.requires.0 c.args.i c.requires.1 _ c.place_at-p.ensures in omega arith

pub put_u32-requires : goal.put_u32-requires
put_u32-requires c =
    let h = inside _ _ c.requires.0 c.args.i c.requires.1 _ c.place_at-p.ensures in omega arith

pub returns-then-old-expiry : goal.returns-then-old-expiry
returns-then-old-expiry c =
    let octets : Octets c.args.c.now =
    λ j. search rules in
    let a = c.args in
    c.put_u32.ensures
    ∙ put_expiry a.c.now a.frame c.requires.0 (octets) a.i a.expiry _ c.requires.1
    c.place_at-p.ensures (omega (arith, c.u32_at-old.ensures))

pub returns-else-old-expiry : goal.returns-else-old-expiry
returns-else-old-expiry c =
    let octets : Octets c.args.c.now =
    λ j. search rules in
    let a = c.args in
    keep_expiry a.c.now a.frame c.requires.0 (octets) a.i a.expiry _ c.requires.1
    c.place_at-p.ensures (omega (arith, c.u32_at-old.ensures))
