-- Six stores, each behind the one before.
use mathlib.Core.Bool.{false}
use native.Mathlib.Omega.{arith}
use Rattle.octets.proofs.MoveLaws.{stored_none, stored_more}
use Rattle.octets.proofs.NumberLaws.{length_digits}
use Rattle.share_format.specs.Header.{offsets_at, offset_size, far_offset_size, digits_of, told_of, offset_fields}
use Rattle.share_storing.proofs.fields.put_sdmf_offsets.Goals as goal

pub returns : goal.returns
unfolding digits_of offset_fields told_of
returns c =
    let a = c.args in
    let s0 = stored_none (offsets_at false) a.d.now (omega arith) in
    let s1 = stored_more _ _ offset_size _ _ _ _ _ s0 c.put_u32.ensures (length_digits offset_size _) in
    let s2 = stored_more _ _ offset_size _ _ _ _ _ s1 c.put_u32-2.ensures (length_digits offset_size _) in
    let s3 = stored_more _ _ offset_size _ _ _ _ _ s2 c.put_u32-3.ensures (length_digits offset_size _) in
    let s4 = stored_more _ _ offset_size _ _ _ _ _ s3 c.put_u32-4.ensures (length_digits offset_size _) in
    let s5 = stored_more _ _ far_offset_size _ _ _ _ _ s4 c.put_u64.ensures (length_digits far_offset_size _) in
    (stored_more _ _ far_offset_size _ _ _ _ _ s5 c.put_u64-2.ensures (length_digits far_offset_size _)).is
