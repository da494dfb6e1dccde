-- The stretch is lent by its own two ends; what comes back is the view refitted.
use mathlib.Core.Path.{◌≡◌, ap, ◌∙◌}
use mathlib.Core.List.{List}
use Prim.Native.Nat.{ℕ, ◌+◌, ◌-◌, ◌≤◌}
use native.Mathlib.Omega.{arith}
use Rattle.format.specs.declared.layout.Frame.{Frame}
use lib.ListN.{length, take, drop, replicate}
use lib.Seq.{take-take}
use borrow.Rule.Slice.PartMut.{mid_of}
use Rattle.format.specs.Layout.{data_at, moved_count, limit, extra_limit}
use Rattle.format.specs.Judging.{resized_to}
use Rattle.format.specs.View.{tail_size}
use Rattle.format.proofs.WellFormed.{used_is, moved_up}
use Rattle.format.proofs.ViewLaws.{laid_length}
use Rattle.writes.specs.Stretch.{data_end_of, used_end_of, Fits}
use Rattle.writes.proofs.StretchLaws.{raised_laid}
use Rattle.writes.proofs.stretch.lift.Goals as goal

-- Both views fit.
record Room (w : Frame) (f : ℕ) (c : List ℕ) : Type 0 where
  behind : data_at + w.size ≤ w.offset
  past : w.offset ≤ data_at + f
  after : data_at + f + tail_size w.extras ≤ length c
  most : length c ≤ limit
  few : w.extras ≤ extra_limit

room : (w : Frame) (f : ℕ) (c : List ℕ) → Fits w f c → w.offset ≤ data_at + f → Room w f c
room w f c r p =
    let m = moved_up w.offset f p in
    record {
      behind = r.behind;
      past = p;
      after = omega (arith, used_is (moved_count w.offset f) w.extras, r.after, m);
      most = r.most;
      few = r.few;
    }

-- What is lent: from the data's end to the used end afterwards.
record Ends (w : Frame) (f : ℕ) (c : List ℕ) (x y : ℕ) : Type 0 where
  from : x ≡ data_at + w.size
  to : y ≡ data_at + f + tail_size w.extras
  fits : Room w f c

ends : (w : Frame) (f : ℕ) (c : List ℕ) (x y : ℕ) (v : Frame) → Fits w f c → w.offset ≤ data_at + f
    → x ≡ data_end_of w → v ≡ resized_to w f → y ≡ used_end_of v → Ends w f c x y
ends w f c x y v r p from after to =
    let m = moved_up w.offset f p in
    let u = to ∙ ap used_end_of after in
    record {
      from = from;
      to = omega (arith, u, used_is (moved_count w.offset f) w.extras, m);
      fits = room w f c r p;
    }

-- The part begins with the slack.
slack_lent : (w : Frame) (f : ℕ) (c : List ℕ) (x y : ℕ) → Fits w f c → Ends w f c x y
    → take (w.offset - x) (mid_of x (y - x) c) ≡ replicate (w.offset - x) 0
slack_lent w f c x y r l =
    let d = data_end_of w in
    rw l.from (take-take (w.offset - d) (y - d) (drop d c) (omega (arith, l.to, l.fits)) ∙ r.zeros)

pub resized-after-requires : goal.resized-after-requires
resized-after-requires c =
    let r = room c.args.frame c.args.f c.args.c.now c.requires.0 c.requires.1 in
    omega (arith, r)

pub data_end-from-requires : goal.data_end-from-requires
data_end-from-requires c =
    let r = room c.args.frame c.args.f c.args.c.now c.requires.0 c.requires.1 in
    omega (arith, r)

pub used-to-requires : goal.used-to-requires
used-to-requires c =
    let r = room c.args.frame c.args.f c.args.c.now c.requires.0 c.requires.1 in
    let m = moved_up c.args.frame.offset c.args.f c.requires.1 in
    rw c.resized-after.ensures (omega (arith, r, m), omega (arith, r))

pub overflow_sub-s : goal.overflow_sub-s
overflow_sub-s c =
    let l = ends c.args.frame c.args.f c.args.c.now _ _ _ c.requires.0 c.requires.1 c.data_end-from.ensures
    c.resized-after.ensures c.used-to.ensures in
    omega (arith, l)

pub tail_size-k-requires : goal.tail_size-k-requires
tail_size-k-requires c =
    let r = room c.args.frame c.args.f c.args.c.now c.requires.0 c.requires.1 in
    omega (arith, r)

pub slice_bounds-raise-count : goal.slice_bounds-raise-count
slice_bounds-raise-count c =
    let l = ends c.args.frame c.args.f c.args.c.now _ _ _ c.requires.0 c.requires.1 c.data_end-from.ensures
    c.resized-after.ensures c.used-to.ensures in
    omega (arith, l)

pub slice_bounds-raise-start : goal.slice_bounds-raise-start
slice_bounds-raise-start c =
    let l = ends c.args.frame c.args.f c.args.c.now _ _ _ c.requires.0 c.requires.1 c.data_end-from.ensures
    c.resized-after.ensures c.used-to.ensures in
    omega (arith, l)

pub slice_bounds-raise-end : goal.slice_bounds-raise-end
slice_bounds-raise-end c =
    let l = ends c.args.frame c.args.f c.args.c.now _ _ _ c.requires.0 c.requires.1 c.data_end-from.ensures
    c.resized-after.ensures c.used-to.ensures in
    omega (arith, l)

pub raise-requires : goal.raise-requires
raise-requires c =
    let l = ends c.args.frame c.args.f c.args.c.now _ _ _ c.requires.0 c.requires.1 c.data_end-from.ensures
    c.resized-after.ensures c.used-to.ensures in (
      omega (arith, l, c.tail_size-k.ensures),
      omega (arith, l, c.tail_size-k.ensures, c.requires.2),
      slack_lent _ _ _ _ _ c.requires.0 l,
    )

pub returns : goal.returns
returns c =
    let a = c.args in
    let l = ends c.args.frame c.args.f c.args.c.now _ _ _ c.requires.0 c.requires.1 c.data_end-from.ensures
    c.resized-after.ensures c.used-to.ensures in
    let p = c.data_end-from.result in
    let y = rw c.tail_size-k.ensures at c.raise.ensures in
    record {
      turn = λ L.
          raised_laid L (data_at + a.f) p c.used-to.result (a.frame.offset - p) (a.f - a.frame.size) a.z
          (data_end_of a.frame + a.z) _ (omega (arith, l.from)) (omega (arith, l.from, l.fits))
          (omega (arith, l.from)) (omega (arith, l.from, l.fits)) l.to (omega (arith, l.from, l.fits))
          (omega (arith, l.to, l.fits, laid_length L)) (omega arith) (slack_lent _ _ _ _ _ c.requires.0 l) y;
    }
