-- The five tests in turn are the five parts of `contents_ok`, at the frame that the fields have.
use mathlib.Core.Path.{sym, ◌∙◌}
use native.Mathlib.Omega.{arith}
use Rattle.format.proofs.WellFormed.{used_is}
use Rattle.format.proofs.JudgingLaws.{contents_read, framed_sized}
use Rattle.format.proofs.judging.contents_ok.Goals as goal

pub records_ok-requires : goal.records_ok-requires
records_ok-requires c = let h = framed_sized _ _ c.requires.0 in omega arith

pub returns-then-not-records_ok : goal.returns-then-not-records_ok
returns-then-not-records_ok c =
    rw (
      contents_read c.args.c.now c.args.frame c.requires.0,
      sym c.records_ok.ensures
          ∙ c.if-not-records_ok.true,
    )

pub extras_at-from-requires : goal.extras_at-from-requires
extras_at-from-requires c = let h = framed_sized _ _ c.requires.0 in omega arith

pub records_ok-requires-2 : goal.records_ok-requires-2
records_ok-requires-2 c = omega (arith, framed_sized _ _ c.requires.0, c.extras_at-from.ensures)

pub returns-then-not-records_ok-2 : goal.returns-then-not-records_ok-2
returns-then-not-records_ok-2 c =
    let k = c.extras_at-from.ensures in
    rw (
      contents_read c.args.c.now c.args.frame c.requires.0,
      sym c.records_ok.ensures
          ∙ c.if-not-records_ok.false,
      ← k,
      sym c.records_ok-2.ensures ∙ c.if-not-records_ok-2.true,
    )

pub last_held-requires : goal.last_held-requires
last_held-requires c = omega (arith, framed_sized _ _ c.requires.0, c.extras_at-from.ensures)

pub returns-then-not-last_held : goal.returns-then-not-last_held
returns-then-not-last_held c =
    rw (
      contents_read c.args.c.now c.args.frame c.requires.0,
      sym c.records_ok.ensures
          ∙ c.if-not-records_ok.false,
      ← c.extras_at-from.ensures,
      sym c.records_ok-2.ensures ∙ c.if-not-records_ok-2.false,
      sym c.last_held.ensures
          ∙ c.if-not-last_held.true,
    )

pub used-requires : goal.used-requires
used-requires c =
    let h =
    framed_sized _ _ c.requires.0 in (
      omega arith,
      omega arith,
    )

pub zero_between-requires : goal.zero_between-requires
zero_between-requires c =
    let h = framed_sized _ _ c.requires.0 in
    (omega (arith, used_is c.args.frame.offset c.args.frame.extras, c.used.ensures), omega arith)

pub returns-then-not-zero_between : goal.returns-then-not-zero_between
returns-then-not-zero_between c =
    rw (
      contents_read c.args.c.now c.args.frame c.requires.0,
      sym c.records_ok.ensures
          ∙ c.if-not-records_ok.false,
      ← c.extras_at-from.ensures,
      sym c.records_ok-2.ensures ∙ c.if-not-records_ok-2.false,
      sym c.last_held.ensures
          ∙ c.if-not-last_held.false,
      ← c.used.ensures,
      sym c.zero_between.ensures ∙ c.if-not-zero_between.true,
    )

pub data_end-requires : goal.data_end-requires
data_end-requires c = omega (arith, framed_sized _ _ c.requires.0, c.requires.1)

pub zero_between-requires-2 : goal.zero_between-requires-2
zero_between-requires-2 c =
    let h = framed_sized _ _ c.requires.0 in
    (omega (arith, c.data_end.ensures), omega arith)

pub returns : goal.returns
returns c =
    rw (
      contents_read c.args.c.now c.args.frame c.requires.0,
      sym c.records_ok.ensures
          ∙ c.if-not-records_ok.false,
      ← c.extras_at-from.ensures,
      sym c.records_ok-2.ensures ∙ c.if-not-records_ok-2.false,
      sym c.last_held.ensures
          ∙ c.if-not-last_held.false,
      ← c.used.ensures,
      sym c.zero_between.ensures ∙ c.if-not-zero_between.false,
      ← c.data_end.ensures,
    ) c.zero_between-2.ensures
