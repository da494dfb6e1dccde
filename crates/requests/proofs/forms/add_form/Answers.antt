-- By the length and the owner.
use mathlib.Core.Path.{◌≡◌, sym, ap, ◌∙◌}
use Prim.Native.Nat.{ℕ}
use Rattle.octets.specs.Numbers.{number_at}
use Rattle.requests.specs.Cursors.{record_at}
use Rattle.requests.proofs.FormLaws.{add-length, add_unowned, add_taken}
use Rattle.requests.specs.declared.cursors.Record.{Record}
use Rattle.requests.proofs.forms.add_form.Goals as goal

pub returns-then-q : goal.returns-then-q
returns-then-q c = add-length _ c.if-q.true

pub returns-then-lease-eq0 : goal.returns-then-lease-eq0
returns-then-lease-eq0 c =
    let behind : c.lease-lease.result ≡ record_at 1 c.args.q.now =
    c.lease-lease.ensures
    ∙ ap (λ (p : ℕ). record_at p c.args.q.now) c.requires in
    let owner : c.lease-lease.result.owner ≡ number_at 4 1 c.args.q.now =
    ap (λ (x : Record). x.owner) (behind) in
    add_unowned _ c.if-q.false (sym (owner) ∙ c.if-lease-eq0.true)

pub returns : goal.returns
returns c =
    let behind : c.lease-lease.result ≡ record_at 1 c.args.q.now =
    c.lease-lease.ensures
    ∙ ap (λ (p : ℕ). record_at p c.args.q.now) c.requires in
    let owner : c.lease-lease.result.owner ≡ number_at 4 1 c.args.q.now =
    ap (λ (x : Record). x.owner) (behind) in
    add_taken _ _ c.if-q.false (λ z. c.if-lease-eq0.false (owner ∙ z))
    (behind)
