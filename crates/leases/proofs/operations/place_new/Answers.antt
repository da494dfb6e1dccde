-- The answer by the number of leases, the first empty place, and the room. Assumes nothing.
use mathlib.Core.Path.{◌≡◌, ap, ◌∙◌}
use Prim.Native.Nat.{◌+◌}
use native.Mathlib.Omega.{arith}
use Rattle.format.specs.Layout.{used_length}
use Rattle.format.specs.declared.layout.Frame.{Frame}
use Rattle.leases.proofs.PlaceLaws.{known_bounds}
use Rattle.leases.proofs.OperationLaws.{place_full, place_vacant, place_nowhere, place_extra}
use Rattle.leases.proofs.operations.place_new.Goals as goal

pub returns-then-count-ge-LEASE_LIMIT : goal.returns-then-count-ge-LEASE_LIMIT
returns-then-count-ge-LEASE_LIMIT c =
    let both = place_full c.args.c.now _ c.requires.0 c.args.lease.now c.requires.3
    (omega (arith, c.count-count.ensures, c.if-count-ge-LEASE_LIMIT.true)) in
    record { value = both.0; c_after = both.1 }

pub with_extra-requires : goal.with_extra-requires
with_extra-requires c =
    let z = known_bounds _ _ c.requires.0 in
    omega arith

pub used-requires : goal.used-requires
used-requires c =
    let z = known_bounds _ _ c.requires.0 in
    let e = c.with_extra.ensures in
    (omega (arith, ap (λ (f : Frame). f.offset) e), omega (arith, ap (λ (f : Frame). f.extras) e))

pub returns-then-c-used : goal.returns-then-c-used
returns-then-c-used c =
    let a = c.args in
    let more-used : c.used.result ≡ used_length a.frame.offset (a.frame.extras + 1) =
    c.used.ensures ∙ ap (λ (f : Frame). used_length f.offset f.extras) c.with_extra.ensures in
    let both = place_nowhere a.c.now _ c.requires.0 a.lease.now c.requires.3 _ (omega arith)
    c.count-count.ensures c.in-None.ensures.first (omega (arith, more-used)) in
    record { value = both.0; c_after = both.1 }

pub append_record-requires : goal.append_record-requires
append_record-requires c =
    let a = c.args in
    let more-used : c.used.result ≡ used_length a.frame.offset (a.frame.extras + 1) =
    c.used.ensures ∙ ap (λ (f : Frame). used_length f.offset f.extras) c.with_extra.ensures in
    (c.requires.0, omega (arith, more-used), c.requires.1)

pub returns-in-Some : goal.returns-in-Some
returns-in-Some c =
    let both = place_vacant c.args.c.now _ c.requires.0 c.args.lease.now c.requires.3 _ (omega arith)
    c.count-count.ensures _ _ c.in-Some.ensures.first c.requires.2 c.put_record.ensures in
    record { value = both.0; c_after = both.1 }

pub returns-else-c-used : goal.returns-else-c-used
returns-else-c-used c =
    let a = c.args in
    let more-used : c.used.result ≡ used_length a.frame.offset (a.frame.extras + 1) =
    c.used.ensures ∙ ap (λ (f : Frame). used_length f.offset f.extras) c.with_extra.ensures in
    let both = place_extra a.c.now _ c.requires.0 a.lease.now c.requires.3 _ (omega arith)
    c.count-count.ensures c.in-None.ensures.first _ (omega (arith, more-used)) c.requires.2
    c.append_record.ensures in
    record { value = both.0; c_after = both.1 }
