-- By the flag.
use native.Mathlib.Omega.{arith}
use borrow.Author.Tests.{lt-leb}
use Rattle.rules.specs.Requests.{cut_ok}
use Rattle.requests.proofs.forms.cut_ok.Goals as goal

pub returns-in-0 : goal.returns-in-0
unfolding cut_ok
returns-in-0 c = rw c.in-0.is

pub returns-in-1 : goal.returns-in-1
unfolding cut_ok
returns-in-1 c = rw c.in-1.is

pub returns-in_default : goal.returns-in_default
unfolding cut_ok
returns-in_default c = rw (lt-leb c.args.flag 1 (omega arith))
