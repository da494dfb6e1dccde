-- What is lent lies between the two data ends, and comes back as zeros.
use mathlib.Core.Path.{◌≡◌, ap, ◌∙◌}
use Prim.Native.Nat.{◌+◌, ◌≤◌}
use native.Mathlib.Omega.{arith}
use Rattle.format.specs.Layout.{data_at}
use Rattle.format.specs.declared.layout.Frame.{Frame}
use Rattle.writes.proofs.RewriteLaws.{freed_laid}
use Rattle.writes.proofs.stretch.free.Goals as goal

pub resized-after-requires : goal.resized-after-requires
resized-after-requires c = let p = c.requires in omega (arith, p.0, p.1, p.2)

pub data_end-from-requires : goal.data_end-from-requires
data_end-from-requires c =
    let size_is : c.resized-after.result.size ≡ c.args.f =
    ap (λ (x : Frame). x.size) c.resized-after.ensures in
    let p = c.requires in
    omega (arith, size_is, p.0, p.1, p.2)

pub slice_bounds-clear-count : goal.slice_bounds-clear-count
slice_bounds-clear-count c =
    let size_is : c.resized-after.result.size ≡ c.args.f =
    ap (λ (x : Frame). x.size) c.resized-after.ensures in
    let starts : let a = c.args in
    (c.data_end-from.result ≡ data_at + a.f) × (a.f ≤ a.frame.size) =
    (c.data_end-from.ensures ∙ ap (λ n. data_at + n) (size_is), c.requires.0) in
    let h = starts in omega (arith, h, c.data_end-to.ensures)

pub slice_bounds-clear-start : goal.slice_bounds-clear-start
slice_bounds-clear-start c =
    let size_is : c.resized-after.result.size ≡ c.args.f =
    ap (λ (x : Frame). x.size) c.resized-after.ensures in
    let starts : let a = c.args in
    (c.data_end-from.result ≡ data_at + a.f) × (a.f ≤ a.frame.size) =
    (c.data_end-from.ensures ∙ ap (λ n. data_at + n) (size_is), c.requires.0) in
    let h = starts in omega (arith, h, c.data_end-to.ensures)

pub returns : goal.returns
returns c o k w =
    let size_is : c.resized-after.result.size ≡ c.args.f =
    ap (λ (x : Frame). x.size) c.resized-after.ensures in
    let starts : let a = c.args in
    (c.data_end-from.result ≡ data_at + a.f) × (a.f ≤ a.frame.size) =
    (c.data_end-from.ensures ∙ ap (λ n. data_at + n) (size_is), c.requires.0) in
    let a = c.args in
    record {
      turn = λ L.
          freed_laid _ o k a.c.now _ _ _ _ L a.f a.frame.size c.data_end-from.result c.data_end-to.result
          (starts).0 c.data_end-to.ensures c.requires.0 (omega (arith, c.data_end-to.ensures))
          c.clear.ensures;
    }
