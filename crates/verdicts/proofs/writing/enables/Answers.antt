-- The enabler is sent where the request has its bytes, and compared with those that the container has.
use mathlib.Core.Path.{◌≡◌, ap, ◌∙◌}
use mathlib.Core.List.{List}
use Prim.Native.Nat.{ℕ}
use native.Mathlib.Omega.{arith}
use lib.ListN.{length, length-take, length-drop}
use Rattle.octets.specs.Strings.{same}
use Rattle.format.specs.Layout.{secret_size, enabler_of}
use Rattle.requests.specs.Cursors.{bytes_from}
use Rattle.requests.proofs.CursorLaws.{bytes-length, body_in, body_is}
use Rattle.verdicts.proofs.writing.enables.Goals as goal

pub bytes-requires : goal.bytes-requires
bytes-requires c = body_in c.args.q.now c.args.enabler secret_size _ c.body-sent.ensures c.requires.1

pub same-requires : goal.same-requires
same-requires c =
    let sent : c.bytes.result.now ≡ bytes_from c.args.enabler secret_size c.args.q.now =
    c.bytes.ensures ∙ body_is _ _ _ _ c.body-sent.ensures in
    let e = ap length sent in
    let b = bytes-length c.args.q.now c.args.enabler secret_size c.requires.1 in
    simp (length-take, length-drop) (omega (arith, e, b, c.requires.0))

pub returns : goal.returns
unfolding enabler_of
returns c =
    let sent : c.bytes.result.now ≡ bytes_from c.args.enabler secret_size c.args.q.now =
    c.bytes.ensures ∙ body_is _ _ _ _ c.body-sent.ensures in
    c.same.ensures ∙ ap (λ (l : List ℕ). same l (enabler_of c.args.c.now)) sent
