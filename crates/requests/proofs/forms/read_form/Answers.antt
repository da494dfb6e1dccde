-- Each early return refutes one fact of a read; at the end all of them hold.
use mathlib.Core.Path.{sym, ◌∙◌}
use native.Mathlib.Omega.{arith}
use Rattle.requests.proofs.FormLaws.{read_header_is, no_read, read_taken}
use Rattle.requests.proofs.forms.read_form.Goals as goal

pub returns-then-n-lt-READS_AT : goal.returns-then-n-lt-READS_AT
returns-then-n-lt-READS_AT c = no_read _ (λ h. omega arith)

pub returns-then-reads-gt-ENTRY_LIMIT : goal.returns-then-reads-gt-ENTRY_LIMIT
returns-then-reads-gt-ENTRY_LIMIT c = let x = read_header_is _ c.args.at.at _ c.requires c.read_header-header.ensures in no_read _ (λ h. omega arith)

pub returns-then-header-ne0 : goal.returns-then-header-ne0
returns-then-header-ne0 c = let x = read_header_is _ c.args.at.at _ c.requires c.read_header-header.ensures in no_read _ (λ h. c.if-header-ne0.true (x.first ∙ h.first))

pub returns-then-header-ne0-2 : goal.returns-then-header-ne0-2
returns-then-header-ne0-2 c = let x = read_header_is _ c.args.at.at _ c.requires c.read_header-header.ensures in no_read _ (λ h. c.if-header-ne0-2.true (x.second ∙ h.second))

pub returns-then-reads-n : goal.returns-then-reads-n
returns-then-reads-n c = let x = read_header_is _ c.args.at.at _ c.requires c.read_header-header.ensures in no_read _ (λ h. c.if-reads-n.true (omega arith))

pub returns : goal.returns
returns c =
    let x = read_header_is _ c.args.at.at _ c.requires c.read_header-header.ensures in
    read_taken _ _ _ _ x (record {
      reads = omega arith;
      first = sym x.first ∙ c.if-header-ne0.false;
      second = sym x.second ∙ c.if-header-ne0-2.false;
      ends = omega arith;
    }) (omega arith) (omega arith)
