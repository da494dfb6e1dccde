-- Each form goes to its operation; a broken one is refused.
use mathlib.Core.Path.{sym, ap, ◌∙◌}
use mathlib.Core.List.{List}
use Prim.Native.Nat.{ℕ}
use lib.ListN.{length}
use Rattle.std.proofs.Common.{rules}
use Rattle.format.specs.Container.{held}
use Rattle.format.specs.Layout.{secret_size, record_size, expiry_of, renewal_of}
use Rattle.rules.specs.Requests.{add, renew, cancel}
use Rattle.requests.proofs.CursorLaws.{bytes-length, body_is}
use Rattle.rules.proofs.RefusalLaws.{broken}
use Rattle.rules.proofs.ShortReads.{read_container}
use Rattle.container.proofs.LeaseRequestLaws.{lease-results}
use Rattle.container.proofs.requesting.apply_formed.Goals as goal

pub add_lease-requires : goal.add_lease-requires
add_lease-requires c =
    let q = c.args.q.now in
    let x = c.in-Some-Add.lease in
    let i = (rw c.in-Some-Add.field-0-is at c.in-Some-Add.ensures).inside in
    let e = c.bytes.ensures ∙ body_is q x.whole record_size _ c.body-whole.ensures in
    let t = body_is q x.renewal secret_size _ c.body-renewal.ensures in (
      c.requires,
      ap length e ∙ bytes-length q x.whole record_size i.whole,
      ap held e ∙ i.owned,
      c.bytes-in-Some-Add.ensures ∙ t ∙ i.renewal_is ∙ sym (ap renewal_of e),
      i.expiry_is ∙ sym (ap expiry_of e),
    )

pub returns-in-None : goal.returns-in-None
returns-in-None c =
    let r = broken c.args.c.now c.args.q.now c.args.r.now c.requires.formed (sym c.in-None.ensures.asks) in
    record { value = c.refused.ensures ∙ r.answer; c_after = r.container; r_after = r.reply }

pub returns-in-Some-Add : goal.returns-in-Some-Add
returns-in-Some-Add c =
    let q = c.args.q.now in
    let f = rw c.in-Some-Add.field-0-is at c.in-Some-Add.ensures in
    let e = c.bytes.ensures ∙ body_is q c.in-Some-Add.lease.whole record_size _ c.body-whole.ensures in
    let both = lease-results c.args.c.now q _ c.requires.formed (sym f.asks) tt _ (ap (λ (t : List ℕ). add t) e) _ _ c.args.r.now _
    c.add_lease.ensures.value c.add_lease.ensures.c_after c.into.ensures in
    record { value = both.0; c_after = both.1.0; r_after = both.1.1 }

pub returns-in-Some-Renew : goal.returns-in-Some-Renew
returns-in-Some-Renew c =
    let q = c.args.q.now in
    let f = rw c.in-Some-Renew.field-0-is at c.in-Some-Renew.ensures in
    let e = c.bytes-in-Some-Renew.ensures ∙ body_is q c.in-Some-Renew.at secret_size _ c.body-token.ensures in
    let both = lease-results c.args.c.now q _ c.requires.formed (sym f.asks) tt _ (ap (λ (t : List ℕ). renew t c.in-Some-Renew.expiry) e) _ _ c.args.r.now _
    c.renew_lease.ensures.value c.renew_lease.ensures.c_after c.into-in-Some-Renew.ensures in
    record { value = both.0; c_after = both.1.0; r_after = both.1.1 }

pub returns-in-Some-Cancel : goal.returns-in-Some-Cancel
returns-in-Some-Cancel c =
    let q = c.args.q.now in
    let f = rw c.in-Some-Cancel.field-0-is at c.in-Some-Cancel.ensures in
    let e = c.bytes-in-Some-Cancel.ensures ∙ body_is q c.in-Some-Cancel.at secret_size _ c.body-token-in-Some-Cancel.ensures in
    let both = lease-results c.args.c.now q _ c.requires.formed (sym f.asks) tt _ (ap (λ (t : List ℕ). cancel t) e) _ _ c.args.r.now _
    c.cancel_lease.ensures.value c.cancel_lease.ensures.c_after c.into-in-Some-Cancel.ensures in
    record { value = both.0; c_after = both.1.0; r_after = both.1.1 }

pub returns-in-Some-Read : goal.returns-in-Some-Read
returns-in-Some-Read c =
    let f = rw c.in-Some-Read.field-0-is at c.in-Some-Read.ensures in
    record {
      value = c.read.ensures.value;
      c_after = sym (read_container c.args.c.now c.args.q.now c.args.r.now _ c.requires.formed (λ i. search rules)
          (sym f.asks));
      r_after = c.read.ensures.r_after;
    }
