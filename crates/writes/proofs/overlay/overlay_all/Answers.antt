-- The invariant: the writes that are left, put into the present data, give what all of them give in the first data.
use mathlib.Core.Path.{ap, ◌∙◌}
use mathlib.Core.List.{List}
use Prim.Native.Nat.{ℕ, ◌-◌}
use native.Mathlib.Omega.{arith}
use lib.ListN.{length, take}
use Rattle.octets.specs.Facts.{Octets}
use Rattle.rules.specs.Writing.{write_at}
use Rattle.requests.specs.Cursors.{body_of}
use Rattle.requests.specs.declared.cursors.Body.{Body}
use Rattle.writes.proofs.TableLaws.{taken, rest_fits, entry_bounds, entry_fits}
use Rattle.writes.proofs.TableLaws.{overlaying_start, overlaying_next, overlaying_end}
use Rattle.writes.proofs.overlay.overlay_all.Goals as goal

pub loop-init : goal.loop-init
loop-init c = overlaying_start c.args.t c.args.size _ _ c.requires.0 (omega arith)

pub entry-entry-requires : goal.entry-entry-requires
entry-entry-requires c = (omega arith, rest_fits c.loop.invariant.rest (omega arith))

pub body-body-requires : goal.body-body-requires
body-body-requires c =
    let octets : Octets c.args.q.now = λ i. omega (arith, c.type_inv.q i) in
    let l = c.loop in
    entry_fits (taken l.after octets (omega arith) l.invariant.rest c.entry-entry.ensures c.position-place.ensures)

pub bytes-requires : goal.bytes-requires
bytes-requires c =
    let octets : Octets c.args.q.now = λ i. omega (arith, c.type_inv.q i) in
    let l = c.loop in
    rw c.body-body.ensures
    (omega arith, entry_fits (taken l.after octets (omega arith) l.invariant.rest c.entry-entry.ensures c.position-place.ensures))

pub grown-after-requires : goal.grown-after-requires
grown-after-requires c =
    let octets : Octets c.args.q.now = λ i. omega (arith, c.type_inv.q i) in
    let l = c.loop in
    entry_bounds (taken l.after octets (omega arith) l.invariant.rest c.entry-entry.ensures c.position-place.ensures)
    octets c.requires.0.short _ c.requires.1 l.invariant.small

pub loop-preserved : goal.loop-preserved
loop-preserved c =
    let octets : Octets c.args.q.now = λ i. omega (arith, c.type_inv.q i) in
    let l = c.loop in
    let q = c.args.q.now in
    let p = c.position-place.result in
    let b = c.bytes.ensures ∙ ap (λ (x : Body). body_of x q) c.body-body.ensures in
    let w = c.overlay_one.ensures ∙ ap (λ (x : List ℕ). write_at l.d p (take (length l.d - p) x)) b in
    let n = ap (λ (x : Body). x.next.at) c.body-body.ensures in
    overlaying_next l.invariant
    (taken l.after octets (omega arith) l.invariant.rest c.entry-entry.ensures c.position-place.ensures) _ _ _ _
    (omega arith) w n c.grown-after.ensures (omega arith)

pub returns : goal.returns
returns c = overlaying_end c.loop.invariant (omega arith)
