-- An empty slice has no version byte, which reads as 0.
use mathlib.Core.Path.{sym}
use native.Mathlib.Omega.{arith}
use borrow.Author.Tests.{eq-eqb, ne_eqb}
use Rattle.octets.proofs.ListLaws.{at_past}
use Rattle.share_format.specs.Header.{edition_of}
use Rattle.share_format.proofs.header.Edition.of.Goals as goal

pub returns-then-s-eq0 : goal.returns-then-s-eq0
unfolding edition_of
returns-then-s-eq0 c = rw (at_past c.args.s.now 0 (omega arith))

pub returns-then-s-eq-MDMF_VERSION : goal.returns-then-s-eq-MDMF_VERSION
unfolding edition_of
returns-then-s-eq-MDMF_VERSION c = sym (eq-eqb _ _ c.if-s-eq-MDMF_VERSION.true)

pub returns-else-s-eq-MDMF_VERSION : goal.returns-else-s-eq-MDMF_VERSION
unfolding edition_of
returns-else-s-eq-MDMF_VERSION c = sym (ne_eqb _ _ c.if-s-eq-MDMF_VERSION.false)
