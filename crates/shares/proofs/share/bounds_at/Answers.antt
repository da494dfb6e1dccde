-- The boundaries as they were read; those in order are at most the length, so no sum wraps.
use mathlib.Core.Path.{ap, ◌∙◌}
use mathlib.Core.List.{List}
use Prim.Native.Nat.{ℕ}
use native.Mathlib.Omega.{arith}
use lib.ListN.{get_or}
use Rattle.share_format.specs.Editions.{is_mdmf}
use Rattle.shares.specs.Share.{bounds_at}
use Rattle.shares.proofs.ShareLaws.{bound_below, moved_listed}
use Rattle.shares.proofs.share.bounds_at.Goals as goal

pub overflow_add-result : goal.overflow_add-result
overflow_add-result c =
    let b = bound_below _ _ c.requires.2 0 (omega arith) in
    omega (arith, b, ap (λ (l : List ℕ). get_or l 0 0) c.bounds-bounds.ensures, c.requires.3)

pub overflow_add-result-2 : goal.overflow_add-result-2
overflow_add-result-2 c =
    let b = bound_below _ _ c.requires.2 1 (omega arith) in
    omega (arith, b, ap (λ (l : List ℕ). get_or l 1 0) c.bounds-bounds.ensures, c.requires.3)

pub overflow_add-result-3 : goal.overflow_add-result-3
overflow_add-result-3 c =
    let b = bound_below _ _ c.requires.2 2 (omega arith) in
    omega (arith, b, ap (λ (l : List ℕ). get_or l 2 0) c.bounds-bounds.ensures, c.requires.3)

pub overflow_add-result-4 : goal.overflow_add-result-4
overflow_add-result-4 c =
    let b = bound_below _ _ c.requires.2 3 (omega arith) in
    omega (arith, b, ap (λ (l : List ℕ). get_or l 3 0) c.bounds-bounds.ensures, c.requires.3)

pub overflow_add-result-5 : goal.overflow_add-result-5
overflow_add-result-5 c =
    let b = bound_below _ _ c.requires.2 4 (omega arith) in
    omega (arith, b, ap (λ (l : List ℕ). get_or l 4 0) c.bounds-bounds.ensures, c.requires.3)

pub overflow_add-result-6 : goal.overflow_add-result-6
overflow_add-result-6 c =
    let b = bound_below _ _ c.requires.2 5 (omega arith) in
    omega (arith, b, ap (λ (l : List ℕ). get_or l 5 0) c.bounds-bounds.ensures, c.requires.3)

pub overflow_add-result-7 : goal.overflow_add-result-7
overflow_add-result-7 c =
    let b = bound_below _ _ c.requires.2 6 (omega arith) in
    omega (arith, b, ap (λ (l : List ℕ). get_or l 6 0) c.bounds-bounds.ensures, c.requires.3)

pub overflow_add-result-8 : goal.overflow_add-result-8
overflow_add-result-8 c =
    let b = bound_below _ _ c.requires.2 7 (omega arith) in
    omega (arith, b, ap (λ (l : List ℕ). get_or l 7 0) c.bounds-bounds.ensures, c.requires.3)

pub returns : goal.returns
unfolding bounds_at
returns c =
    let a = c.args in
    rw c.bounds-bounds.ensures (moved_listed (is_mdmf a.edition) a.base a.s.now ∙ rw c.requires.0)
