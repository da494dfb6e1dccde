-- Each refusal is the row whose test holds once those before it are known not to.
use mathlib.Core.Path.{◌≡◌, sym, ◌∙◌}
use Prim.Native.Nat.{ℕ}
use native.Mathlib.Omega.{arith}
use borrow.Author.Tests.{leb-true, leb-false}
use Rattle.std.specs.Prelude.{Some, None}
use Rattle.std.proofs.lemmas.Result.{err_from_is_err_and}
use Rattle.octets.proofs.ListLaws.{both}
use Rattle.octets.specs.Numbers.{fits}
use Rattle.share_format.specs.Editions.{is_mdmf}
use Rattle.share_format.specs.Header.{number_size}
use Rattle.share_format.proofs.PackedLaws.{packed-fits}
use Rattle.share_numbers.specs.Coding.{segment_ok}
use Rattle.share_numbers.proofs.CodingLaws.{coding_facts}
use Rattle.share_contents.specs.declared.faults.Fault.TheVariants.{SegmentSize}
use Rattle.share_rules.specs.Writing.{segment_fits}
use Rattle.share_writing.specs.Facts.{sizes_of}
use Rattle.share_writing.specs.declared.Refusal.TheVariants.{Share}
use Rattle.share_writing.proofs.VerdictLaws.{sized, missized, missized_iv, judges_3, judges_7, judges_23, judges_24}
use Rattle.share_writing.proofs.VerdictLaws.{judges_25, judges_rest, judges_none, content_at}
use Rattle.share_writing.proofs.verdict_of.Goals as goal

pub returns-then-root-ne-HASH_SIZE : goal.returns-then-root-ne-HASH_SIZE
returns-then-root-ne-HASH_SIZE c = judges_3 _ _ _ _ _ _ (missized _ _ _ c.if-root-ne-HASH_SIZE.true)

pub returns-then-iv-iv_size : goal.returns-then-iv-iv_size
returns-then-iv-iv_size c =
    let k = missized_iv _ _ _ c.if-root-ne-HASH_SIZE.false (λ h. c.if-iv-iv_size.true (h ∙ sym c.iv_size-iv_size.ensures)) in
    judges_3 _ _ _ _ _ _ k

pub returns-then-not-has_room : goal.returns-then-not-has_room
returns-then-not-has_room c =
    let s = sized _ _ _ c.if-root-ne-HASH_SIZE.false (c.if-iv-iv_size.false ∙ c.iv_size-iv_size.ensures) in
    let e = rw c.header_size-header.ensures at (sym c.has_room.ensures ∙ c.if-not-has_room.true) in
    judges_7 _ _ _ _ _ _ s (leb-false _ _ e)

pub returns-then-not-coding_ok : goal.returns-then-not-coding_ok
returns-then-not-coding_ok c =
    let s = sized _ _ _ c.if-root-ne-HASH_SIZE.false (c.if-iv-iv_size.false ∙ c.iv_size-iv_size.ensures) in
    let r = leb-true _ _ (rw c.header_size-header.ensures at (sym c.has_room.ensures ∙ c.if-not-has_room.false)) in
    judges_23 _ _ _ _ _ _ s r (sym c.coding_ok.ensures ∙ c.if-not-coding_ok.true)

pub segment_of-found-requires : goal.segment_of-found-requires
segment_of-found-requires c = (coding_facts _ _ (sym c.coding_ok.ensures ∙ c.if-not-coding_ok.false)).0

pub returns-in_err-segment : goal.returns-in_err-segment
returns-in_err-segment c =
    let s = sized _ _ _ c.if-root-ne-HASH_SIZE.false (c.if-iv-iv_size.false ∙ c.iv_size-iv_size.ensures) in
    let r = leb-true _ _ (rw c.header_size-header.ensures at (sym c.has_room.ensures ∙ c.if-not-has_room.false)) in
    let k = sym c.coding_ok.ensures ∙ c.if-not-coding_ok.false in
    let p = err_from_is_err_and c.from_residual.result c.from_residual.ensures.1 in
    let n : c.segment_of-found.result ≡ None = c.in_err-segment.ensures.ok_part in
    let m : c.in_err-segment.field-0.0 ≡ Share SegmentSize = cc (rw n at c.in_err-segment.ensures.value) in
    rw (p.1, p.2, m) (judges_24 _ _ _ _ _ _ s r k (rw n at c.segment_of-found.ensures))

pub bounds_fit-requires : goal.bounds_fit-requires
bounds_fit-requires c =
    let r = leb-true _ _ (rw c.header_size-header.ensures at (sym c.has_room.ensures ∙ c.if-not-has_room.false)) in
    rw (c.places-bounds.ensures, c.header_size-header.ensures) (packed-fits _ (sizes_of c.args.parts.now) (omega (arith, r)))

pub returns-then-not-bounds_fit : goal.returns-then-not-bounds_fit
returns-then-not-bounds_fit c =
    let s = sized _ _ _ c.if-root-ne-HASH_SIZE.false (c.if-iv-iv_size.false ∙ c.iv_size-iv_size.ensures) in
    let r = leb-true _ _ (rw c.header_size-header.ensures at (sym c.has_room.ensures ∙ c.if-not-has_room.false)) in
    let k = sym c.coding_ok.ensures ∙ c.if-not-coding_ok.false in
    let n : c.segment_of-found.result ≡ Some c.in_ok-segment.segment = c.in_ok-segment.ensures.ok_part in
    let g = rw n at c.segment_of-found.ensures in
    let b = rw (c.places-bounds.ensures, c.header_size-header.ensures) at (sym c.bounds_fit.ensures ∙ c.if-not-bounds_fit.true) in
    judges_25 _ _ _ _ _ _ s r k g.0 b

pub content_outcome-requires : goal.content_outcome-requires
unfolding segment_fits
content_outcome-requires c =
    let a = c.args in
    let k = sym c.coding_ok.ensures ∙ c.if-not-coding_ok.false in
    let n : c.segment_of-found.result ≡ Some c.in_ok-segment.segment = c.in_ok-segment.ensures.ok_part in
    let g = rw n at c.segment_of-found.ensures in
    let f = rw (← g.1) at g.0 in
    let v : ℕ = c.in_ok-segment.segment in
    ((coding_facts _ _ k).0, (both (fits number_size v) (segment_ok (is_mdmf a.edition) v a.numbers.required a.numbers.data_length) f).1)

pub returns-in_err-content_outcome : goal.returns-in_err-content_outcome
returns-in_err-content_outcome c =
    let s = sized _ _ _ c.if-root-ne-HASH_SIZE.false (c.if-iv-iv_size.false ∙ c.iv_size-iv_size.ensures) in
    let r = leb-true _ _ (rw c.header_size-header.ensures at (sym c.has_room.ensures ∙ c.if-not-has_room.false)) in
    let k = sym c.coding_ok.ensures ∙ c.if-not-coding_ok.false in
    let n : c.segment_of-found.result ≡ Some c.in_ok-segment.segment = c.in_ok-segment.ensures.ok_part in
    let g = rw n at c.segment_of-found.ensures in
    let b = rw (c.places-bounds.ensures, c.header_size-header.ensures) at (sym c.bounds_fit.ensures ∙ c.if-not-bounds_fit.false) in
    let q = c.from_residual-in_err-content_outcome in
    let p = err_from_is_err_and q.result q.ensures.1 in
    let t =
    content_at _ _ _ _ _ _ _ c.args.parts.now _ _ _ c.requires (c.number.ensures.is, c.number.ensures.below)
    (c.number-2.ensures.is, c.number-2.ensures.below) (c.number-3.ensures.is, c.number-3.ensures.below)
    (rw g.1 at c.in_err-content_outcome.ensures) in
    rw (p.1, p.2) (judges_rest _ _ _ _ _ _ s r k g.0 b _ t)

pub returns : goal.returns
returns c =
    let s = sized _ _ _ c.if-root-ne-HASH_SIZE.false (c.if-iv-iv_size.false ∙ c.iv_size-iv_size.ensures) in
    let r = leb-true _ _ (rw c.header_size-header.ensures at (sym c.has_room.ensures ∙ c.if-not-has_room.false)) in
    let k = sym c.coding_ok.ensures ∙ c.if-not-coding_ok.false in
    let n : c.segment_of-found.result ≡ Some c.in_ok-segment.segment = c.in_ok-segment.ensures.ok_part in
    let g = rw n at c.segment_of-found.ensures in
    let l = c.places-bounds.ensures ∙ rw c.header_size-header.ensures in
    let b = rw (c.places-bounds.ensures, c.header_size-header.ensures) at (sym c.bounds_fit.ensures ∙ c.if-not-bounds_fit.false) in
    let t =
    content_at _ _ _ _ _ _ _ c.args.parts.now _ _ _ c.requires (c.number.ensures.is, c.number.ensures.below)
    (c.number-2.ensures.is, c.number-2.ensures.below) (c.number-3.ensures.is, c.number-3.ensures.below)
    (rw g.1 at c.in_ok-content_outcome.ensures) in
    judges_none _ _ _ _ _ _ s r k g.0 b _ t (rw g.1) l
