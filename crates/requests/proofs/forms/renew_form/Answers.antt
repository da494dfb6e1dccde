-- By the length.
use mathlib.Core.Path.{◌≡◌, ap, ◌∙◌}
use native.Mathlib.Omega.{arith}
use Prim.Native.Nat.{ℕ}
use Rattle.octets.specs.Numbers.{number_at}
use Rattle.format.specs.Layout.{secret_size}
use Rattle.requests.specs.Cursors.{body_at}
use Rattle.requests.proofs.FormLaws.{renew-length, renew_taken}
use Rattle.requests.specs.declared.cursors.Body.{Body}
use Rattle.requests.specs.declared.cursors.Next.{Next}
use Rattle.requests.proofs.forms.renew_form.Goals as goal

pub returns-then-q : goal.returns-then-q
returns-then-q c = renew-length _ c.if-q.true

pub number-requires : goal.number-requires
number-requires c =
    let token : c.body-token.result ≡ body_at 1 secret_size =
    c.body-token.ensures ∙ ap (λ (p : ℕ). body_at p secret_size) c.requires in
    let e = ap (λ (b : Body). b.next.at) (token) in omega arith

pub returns : goal.returns
returns c =
    let token : c.body-token.result ≡ body_at 1 secret_size =
    c.body-token.ensures ∙ ap (λ (p : ℕ). body_at p secret_size) c.requires in
    let q = c.args.q.now in
    let e = ap (λ (b : Body). b.next.at) (token) in
    renew_taken _ _ _ c.if-q.false c.requires
    (ap (λ (x : Next ℕ). x.value) c.number.ensures ∙ ap (λ (p : ℕ). number_at 4 p q) e)
