-- The count says how many extras are kept. Assumes nothing.
use mathlib.Core.Path.{ap, ◌∙◌}
use Prim.Native.Nat.{ℕ}
use native.Mathlib.Omega.{arith}
use lib.ListN.{length}
use Rattle.octets.specs.Moves.{put}
use Rattle.octets.specs.Numbers.{digits}
use Rattle.format.specs.Layout.{count_size, records}
use Rattle.rules.specs.Leasing.{trim}
use Rattle.leases.proofs.PlaceLaws.{kept_few}
use Rattle.leases.proofs.changes.drop_tail.Goals as goal

pub overflow_cast-left : goal.overflow_cast-left
overflow_cast-left c =
    let a = c.args in
    omega (arith, c.kept-left.ensures, kept_few a.frame.extras c.extras_at.result a.c.now)

pub returns : goal.returns
returns c =
    let a = c.args in
    c.put_u32.ensures
    ∙ ap (λ (n : ℕ). put a.frame.offset (digits count_size n) a.c.now)
    (c.kept-left.ensures
    ∙ ap (λ (i : ℕ). length (trim (records a.frame.extras i a.c.now))) c.extras_at.ensures)
