-- The places stand inside the container.
use Rattle.std.proofs.Common.{arith}
use Rattle.format.proofs.KnownLaws.{known_room}
use Rattle.replay.proofs.showing.parts.Goals as goal

pub sizes-requires : goal.sizes-requires
sizes-requires g c =
    let z = known_room c.requires in
    (omega (arith, z.1, z.2), z.0, omega (arith, z.3))

pub leases-requires : goal.leases-requires
leases-requires g c =
    let z = known_room c.requires in
    omega (arith, z.0, z.1)

pub extras_at-requires : goal.extras_at-requires
extras_at-requires g c =
    let z = known_room c.requires in
    omega (arith, z.1, z.2)

pub leases-requires-2 : goal.leases-requires-2
leases-requires-2 g c =
    omega (arith, (known_room c.requires).1, c.min-shown.ensures, c.extras_at.ensures)
