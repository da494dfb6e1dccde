-- The fields of a well-formed container lie inside, and are its frame. Assumes nothing.
use mathlib.Core.Path.{sym}
use native.Mathlib.Omega.{arith}
use Rattle.format.specs.Layout.{count_at, extras_of}
use Rattle.format.proofs.WellFormed.{formed_facts, used_is}
use Rattle.format.proofs.JudgingLaws.{size_read, count_read, extras-read}
use Rattle.upkeep.proofs.auditing.frame_of.Goals as goal

pub u64_at-offset-requires : goal.u64_at-offset-requires
u64_at-offset-requires c = let f = formed_facts _ c.requires in omega arith

pub u64_at-requires : goal.u64_at-requires
u64_at-requires c = let f = formed_facts _ c.requires in omega arith

pub u32_at-requires : goal.u32_at-requires
u32_at-requires c =
    let d = c.args.c.now in
    let f = formed_facts d c.requires in
    let o = count_read d _ c.u64_at-offset.ensures in
    omega (arith, f.fields, o, used_is (count_at d) (extras_of d))

pub returns : goal.returns
returns c =
    let d = c.args.c.now in
    let o = count_read d _ c.u64_at-offset.ensures in
    record {
      is = λ i. record {
        size = sym (size_read d _ c.u64_at.ensures) i;
        offset = sym o i;
        extras = sym (extras-read d _ _ o c.u32_at.ensures) i;
      };
      formed = c.requires;
    }
