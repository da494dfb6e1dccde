-- Each test of the code is the opcode's, on the three orders.
use mathlib.Core.Path.{◌≡◌, refl, ◌∙◌}
use mathlib.Core.Bool.{not}
use native.Mathlib.Omega.{arith}
use borrow.Author.Tests.{ne_eqb}
use Rattle.std.specs.declared.cmp.Ordering.{Ordering}
use Rattle.std.specs.declared.cmp.Ordering.TheVariants.{Less, Equal, Greater}
use Rattle.std.specs.Ordering.{is_lt, is_le, is_eq, is_ne, is_ge, is_gt}
use Rattle.octets.specs.Strings.{sign_of}
use Rattle.rules.specs.Testing.{below, level, at_most, decides}
use Rattle.replies.proofs.tests.decide.Goals as goal

lt-is : (o : Ordering) → is_lt o ≡ below (sign_of o)
unfolding below
lt-is Less = refl
lt-is Equal = refl
lt-is Greater = refl

le-is : (o : Ordering) → is_le o ≡ at_most (sign_of o)
unfolding below level at_most
le-is Less = refl
le-is Equal = refl
le-is Greater = refl

eq-is : (o : Ordering) → is_eq o ≡ level (sign_of o)
unfolding level
eq-is Less = refl
eq-is Equal = refl
eq-is Greater = refl

ne-is : (o : Ordering) → is_ne o ≡ not (level (sign_of o))
unfolding level
ne-is Less = refl
ne-is Equal = refl
ne-is Greater = refl

ge-is : (o : Ordering) → is_ge o ≡ not (below (sign_of o))
unfolding below
ge-is Less = refl
ge-is Equal = refl
ge-is Greater = refl

gt-is : (o : Ordering) → is_gt o ≡ not (at_most (sign_of o))
unfolding below level at_most
gt-is Less = refl
gt-is Equal = refl
gt-is Greater = refl

pub returns-in-1 : goal.returns-in-1
unfolding decides
returns-in-1 c = rw c.in-1.is (c.is_lt.ensures ∙ lt-is c.args.order)

pub returns-in-2 : goal.returns-in-2
unfolding decides
returns-in-2 c = rw c.in-2.is (c.is_le.ensures ∙ le-is c.args.order)

pub returns-in-3 : goal.returns-in-3
unfolding decides
returns-in-3 c = rw c.in-3.is (c.is_eq.ensures ∙ eq-is c.args.order)

pub returns-in-4 : goal.returns-in-4
unfolding decides
returns-in-4 c = rw c.in-4.is (c.is_ne.ensures ∙ ne-is c.args.order)

pub returns-in-5 : goal.returns-in-5
unfolding decides
returns-in-5 c = rw c.in-5.is (c.is_ge.ensures ∙ ge-is c.args.order)

pub returns-in_default : goal.returns-in_default
unfolding decides
returns-in_default c =
    let o = c.args.opcode in
    rw (
      ne_eqb o 1 (λ e. omega arith),
      ne_eqb o 2 (λ e. omega arith),
      ne_eqb o 3 (λ e. omega arith),
      ne_eqb o 4 (λ e. omega arith),
      ne_eqb o 5 (λ e. omega arith),
    ) (c.is_gt.ensures ∙ gt-is c.args.order)
