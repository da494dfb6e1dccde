-- At each way out the lengths and the magic say which row applies. Assumes nothing.
use mathlib.Core.Path.{◌≡◌, sym, ◌∙◌}
use mathlib.Core.Bool.{true}
use native.Mathlib.Omega.{arith}
use lib.ListN.{length}
use borrow.Author.Tests.{eq-eqb, ne_eqb}
use Rattle.format.specs.Layout.{node_size, secret_size}
use Rattle.format.specs.Container.{length_allowed}
use Rattle.format.proofs.JudgingLaws.{length-true, too_short, too_long}
use Rattle.creation.proofs.FreshLaws.{create_length, create_lengths, create_magic, create_done}
use Rattle.creation.proofs.create.Goals as goal

pub returns-then-c-lt-LEAST : goal.returns-then-c-lt-LEAST
returns-then-c-lt-LEAST c =
    let a = c.args in
    let both = create_length a.c.now a.node.now a.enabler.now _ (too_short _ (omega arith)) c.refused.ensures in
    record {
      value = both.0;
      c_after = both.1;
    }

pub returns-then-c-gt-LIMIT : goal.returns-then-c-gt-LIMIT
returns-then-c-gt-LIMIT c =
    let a = c.args in
    let both = create_length a.c.now a.node.now a.enabler.now _ (too_long _ (omega arith) (omega arith))
    c.refused-then-c-gt-LIMIT.ensures in
    record {
      value = both.0;
      c_after = both.1;
    }

pub returns-then-node-ne-NODE_SIZE : goal.returns-then-node-ne-NODE_SIZE
returns-then-node-ne-NODE_SIZE c =
    let allowed : length_allowed c.args.c.now ≡ true =
    length-true _ (omega arith) (omega arith) in
    let a = c.args in
    let both = create_lengths a.c.now a.node.now a.enabler.now _ (allowed)
    (rw (ne_eqb (length a.node.now) node_size c.if-node-ne-NODE_SIZE.true)) c.refused-then-node-ne-NODE_SIZE.ensures in
    record {
      value = both.0;
      c_after = both.1;
    }

pub returns-then-enabler-ne-SECRET_SIZE : goal.returns-then-enabler-ne-SECRET_SIZE
returns-then-enabler-ne-SECRET_SIZE c =
    let allowed : length_allowed c.args.c.now ≡ true =
    length-true _ (omega arith) (omega arith) in
    let a = c.args in
    let both = create_lengths a.c.now a.node.now a.enabler.now _ (allowed)
    (rw (
      eq-eqb (length a.node.now) node_size c.if-node-ne-NODE_SIZE.false,
      ne_eqb (length a.enabler.now) secret_size
          c.if-enabler-ne-SECRET_SIZE.true,
    )) c.refused-then-enabler-ne-SECRET_SIZE.ensures in
    record {
      value = both.0;
      c_after = both.1;
    }

pub returns-then-has_magic : goal.returns-then-has_magic
returns-then-has_magic c =
    let allowed : length_allowed c.args.c.now ≡ true =
    length-true _ (omega arith) (omega arith) in
    let a = c.before.args in
    let both = create_magic a.c.now a.node.now a.enabler.now _
    (allowed) (omega arith) (omega arith)
    (sym c.has_magic.ensures ∙ c.if-has_magic.true) c.refused-then-has_magic.ensures in
    record {
      value = both.0;
      c_after = both.1;
    }

pub returns : goal.returns
returns c =
    let allowed : length_allowed c.args.c.now ≡ true =
    length-true _ (omega arith) (omega arith) in
    let a = c.before.args in
    let both = create_done a.c.now a.node.now a.enabler.now _ _
    (allowed) (omega arith)
    (omega arith) (sym c.has_magic.ensures
    ∙ c.if-has_magic.false) c.done.ensures
    c.write_fresh.ensures in
    record {
      value = both.0;
      c_after = both.1;
    }
