-- Eight stores, each behind the one before.
use mathlib.Core.Path.{refl}
use Prim.Native.Nat.{◌+◌}
use native.Mathlib.Omega.{arith}
use Rattle.octets.proofs.MoveLaws.{stored_none, stored_more, stored_at}
use lib.ListN.{length}
use Rattle.octets.proofs.NumberLaws.{length_digits}
use Rattle.share_format.specs.Header.{iv_at, number_size, hash_size, number_fields}
use Rattle.share_storing.proofs.fields.put_numbers.Goals as goal

pub overflow_add-at-4 : goal.overflow_add-at-4
overflow_add-at-4 c = omega (arith, c.requires)

pub returns : goal.returns
unfolding number_fields
returns c =
    let a = c.args in
    let s0 = stored_none 0 a.d.now (omega arith) in
    let s1 = stored_more 0 _ 1 _ _ _ _ _ s0 c.put_u8.ensures refl in
    let s2 = stored_more 0 _ number_size _ _ _ _ _ s1 c.put_u64.ensures (length_digits number_size _) in
    let s3 = stored_more 0 _ hash_size _ _ _ _ _ s2 c.copy_part.ensures c.requires.1 in
    let s4 = stored_more 0 _ (length a.iv.now) _ _ _ _ _ s3 c.copy_part-2.ensures refl in
    let s5 = stored_more 0 _ 1 _ _ _ _ _ s4 c.put_u8-2.ensures refl in
    let s6 = stored_more 0 _ 1 _ _ _ _ _ s5 c.put_u8-3.ensures refl in
    let e6 = stored_at 0 _ (iv_at + length a.iv.now + 2) _ _ _ s6 (omega arith) in
    let s7 = stored_more 0 _ number_size _ _ _ _ _ e6 c.put_u64-2.ensures (length_digits number_size _) in
    let e7 = stored_at 0 _ (iv_at + length a.iv.now + 10) _ _ _ s7 (omega arith) in
    rw (← c.version.ensures)
    (stored_more 0 _ number_size _ _ _ _ _ e7 c.put_u64-3.ensures (length_digits number_size _)).is
