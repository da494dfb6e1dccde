-- Each early return refutes one of the facts that agreeing fields have; at the end all of them stand.
use mathlib.Core.Path.{◌≡◌, sym, ◌∙◌}
use mathlib.Core.Bool.{true, false≢true}
use native.Mathlib.Omega.{arith}
use Rattle.format.specs.Layout.{size_of, count_at, extras_of}
use Rattle.format.proofs.WellFormed.{Fields, fields_true, fields_false, used_is}
use Rattle.format.proofs.JudgingLaws.{length_facts, size_read, count_read, extras-read}
use Rattle.format.proofs.judging.find_fields.Goals as goal

pub has_magic-requires : goal.has_magic-requires
has_magic-requires c = omega (arith, length_facts _ c.requires)

pub returns-then-not-has_magic : goal.returns-then-not-has_magic
returns-then-not-has_magic c =
    let a = c.args in
    rw (fields_false a.c.now (λ h. false≢true (sym (c.if-not-has_magic.true) ∙ c.has_magic.ensures
    ∙ h.magical)))

pub u64_at-size-requires : goal.u64_at-size-requires
u64_at-size-requires c = omega (arith, length_facts _ c.requires)

pub overflow_sub-n : goal.overflow_sub-n
overflow_sub-n c = omega (arith, length_facts _ c.requires)

pub returns-then-n-size : goal.returns-then-n-size
returns-then-n-size c =
    let a = c.args in
    let s : size_of a.c.now ≡ c.u64_at-size.result = size_read _ _ c.u64_at-size.ensures in
    rw (fields_false a.c.now (λ h. omega (arith, used_is (count_at a.c.now) (extras_of a.c.now))))

pub u64_at-offset-requires : goal.u64_at-offset-requires
u64_at-offset-requires c = omega (arith, length_facts _ c.requires)

pub returns-then-offset-size : goal.returns-then-offset-size
returns-then-offset-size c =
    let a = c.args in
    let s : size_of a.c.now ≡ c.u64_at-size.result = size_read _ _ c.u64_at-size.ensures in
    let o : count_at a.c.now ≡ c.u64_at-offset.result = count_read _ _ c.u64_at-offset.ensures in
    rw (fields_false a.c.now (λ h. omega arith))

pub overflow_sub-n-2 : goal.overflow_sub-n-2
overflow_sub-n-2 c = omega (arith, length_facts _ c.requires)

pub returns-then-n-offset : goal.returns-then-n-offset
returns-then-n-offset c =
    let a = c.args in
    let o : count_at a.c.now ≡ c.u64_at-offset.result = count_read _ _ c.u64_at-offset.ensures in
    rw (fields_false a.c.now (λ h. omega (arith, used_is (count_at a.c.now) (extras_of a.c.now))))

pub returns-then-extras-gt-EXTRA_LIMIT : goal.returns-then-extras-gt-EXTRA_LIMIT
returns-then-extras-gt-EXTRA_LIMIT c =
    let a = c.args in
    let o : count_at a.c.now ≡ c.u64_at-offset.result = count_read _ _ c.u64_at-offset.ensures in
    let x : extras_of a.c.now ≡ c.u32_at-extras.result = extras-read _ _ _ o c.u32_at-extras.ensures in
    rw (fields_false a.c.now (λ h. omega arith))

pub used-requires : goal.used-requires
used-requires c =
    let h =
    length_facts _ c.requires in (
      omega arith,
      omega arith,
    )

pub returns-then-n-used : goal.returns-then-n-used
returns-then-n-used c =
    let a = c.args in
    let o : count_at a.c.now ≡ c.u64_at-offset.result = count_read _ _ c.u64_at-offset.ensures in
    let x : extras_of a.c.now ≡ c.u32_at-extras.result = extras-read _ _ _ o c.u32_at-extras.ensures in
    let u = c.used.ensures in
    rw (fields_false a.c.now (λ h. omega (
      arith,
      used_is (count_at a.c.now) (extras_of a.c.now),
      used_is c.u64_at-offset.result c.u32_at-extras.result,
    )))

pub returns : goal.returns
returns c =
    let a = c.args in
    let s : size_of a.c.now ≡ c.u64_at-size.result = size_read _ _ c.u64_at-size.ensures in
    let o : count_at a.c.now ≡ c.u64_at-offset.result = count_read _ _ c.u64_at-offset.ensures in
    let x : extras_of a.c.now ≡ c.u32_at-extras.result = extras-read _ _ _ o c.u32_at-extras.ensures in
    let u = used_is (count_at a.c.now) (extras_of a.c.now) in
    let w = used_is c.u64_at-offset.result c.u32_at-extras.result in
    let n = c.used.ensures in
    let y : c.has_magic.result ≡ true = c.if-not-has_magic.false in
    let h : Fields a.c.now = record {
      magical = sym c.has_magic.ensures ∙ y;
      behind = omega arith;
      few = omega arith;
      fits = omega arith;
    } in
    rw (fields_true a.c.now h, s, o, x)
