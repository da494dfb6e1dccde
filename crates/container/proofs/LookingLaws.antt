-- What a request counts as where the container is lent for reading only. Assumes nothing.
use mathlib.Core.Path.{◌≡◌, refl, sym, ap, subst, ◌∙◌}
use mathlib.Core.Bool.{Bool, true, false, cond}
use mathlib.Core.List.{List, []}
use mathlib.Core.Option.{Option, none, some}
use Prim.Native.Nat.{ℕ, ◌+◌, ◌≤◌}
use native.Mathlib.Omega.{arith}
use lib.ListN.{length, take, drop, get_or}
use lib.Dec.{eqb}
use borrow.Author.Tests.{ne_eqb, le-leb}
use Rattle.octets.specs.Facts.{Octets}
use Rattle.octets.specs.Numbers.{number_at}
use Rattle.format.specs.Layout.{secret_size}
use Rattle.format.specs.Container.{length_allowed, well_formed}
use Rattle.rules.specs.declared.Answer.{Answer}
use Rattle.rules.specs.Requests.{Read as ReadEntry}
use Rattle.rules.specs.Requests.{Request, test_write, add, renew, cancel, read, kind_of, by_kind, request_of}
use Rattle.rules.specs.Requests.{request_limit, test_write_ok, test_write_of, add_ok, renew_ok, cancel_ok}
use Rattle.rules.specs.Outcomes.{answer_of, no_node, outcome, answered, container_after, reply_after}
use Rattle.requests.specs.Forms.{Takes}
use Rattle.std.specs.Prelude.{Some, None, Result, Ok, Err}
use Rattle.std.specs.Prelude.{Option as Maybe}
use Rattle.std.specs.Result.{result_ok}
use Rattle.requests.specs.Cursors.{byte_at}
use Rattle.requests.specs.Forms.{form_of_read}
use Rattle.requests.specs.Kinds.{kind_byte, Names}
use Rattle.requests.specs.declared.cursors.Next.{Next}
use Rattle.requests.specs.declared.forms.Table.{Table}
use Rattle.requests.specs.declared.kinds.Kind.{Kind}
use Rattle.requests.specs.declared.kinds.Kind.TheVariants.{TestWrite, Add, Renew, Cancel, Read}
use Rattle.requests.specs.declared.kinds.NoKind.{NoKind}
use Rattle.requests.proofs.FormLaws.{takes_kind, takes_none}
use Rattle.rules.proofs.RefusalLaws.{bad_length, malformed, broken}
use Rattle.rules.proofs.ShortReads.{read_container}
use Rattle.container.specs.Looking.{Looks, read_bytes, read_of, ReadOnly}

-- A read passes as it is, so that its answer and reply are the reader's.
read_passes : (q : List ℕ) (rs : List ReadEntry) → request_of q ≡ some (read rs) → read_of q ≡ q
unfolding read_of read_bytes
read_passes q rs e = rw e

pub looked_read : (c q r : List ℕ) (x : Answer) (y : List ℕ) (rs : List ReadEntry) → request_of q ≡ some (read rs)
    → (x ≡ answered c q r) × (y ≡ reply_after c q r) → (x ≡ answered c (read_of q) r) × (y ≡ reply_after c (read_of q) r)
looked_read c q r x y rs e h = rw (read_passes q rs e) h

-- Anything else is refused as the empty request is.
empty-broken : request_of [] ≡ none
unfolding request_of by_kind kind_of
empty-broken = refl

pub looked_other : (c q r : List ℕ) (x : Answer) → well_formed c ≡ true → read_bytes (request_of q) q ≡ []
    → x ≡ answer_of 3 no_node 0 → (x ≡ answered c (read_of q) r) × (r ≡ reply_after c (read_of q) r)
unfolding read_of
looked_other c q r x f n e = let b = broken c [] r f empty-broken in rw n (e ∙ b.answer, b.reply)

-- What breaks the format, or is of another kind, is no read.
pub broken_other : (q : List ℕ) → Takes q (request_of q) None → read_bytes (request_of q) q ≡ []
unfolding read_bytes
broken_other q t = subst (λ (w : Option Request). read_bytes w q ≡ []) t.asks refl

pub kind_other : (q : List ℕ) (k : ℕ) → length q ≤ request_limit → k ≡ get_or q 0 0 → (k ≡ 5 → ⊥)
    → read_bytes (request_of q) q ≡ []
unfolding request_of kind_of by_kind test_write_of read_bytes
kind_other q k l e n =
    rw (le-leb _ _ l, ← e, ne_eqb _ _ n)
    (go (eqb k 1) (test_write_ok q) (eqb k 2) (add_ok q) (eqb k 3) (renew_ok q) (eqb k 4) (cancel_ok q))
  where
    go : (a a' b b' c c' d d' : Bool) → read_bytes (cond a (cond a' (some (test_write_of q)) none)
        (cond b (cond b' (some (add (drop 1 q))) none)
        (cond c (cond c' (some (renew (take secret_size (drop 1 q)) (number_at 4 (1 + secret_size) q))) none)
        (cond d (cond d' (some (cancel (drop 1 q))) none) none)))) q ≡ []
    go true true b b' c c' d d' = refl
    go true false b b' c c' d d' = refl
    go false a' true true c c' d d' = refl
    go false a' true false c c' d d' = refl
    go false a' false b' true true d d' = refl
    go false a' false b' true false d d' = refl
    go false a' false b' false c' true true = refl
    go false a' false b' false c' true false = refl
    go false a' false b' false c' false d' = refl

not_read : (k : Kind) → (k ≡ Read → ⊥) → kind_byte k ≡ 5 → ⊥
not_read TestWrite n e = omega (arith, e)
not_read Add n e = omega (arith, e)
not_read Renew n e = omega (arith, e)
not_read Cancel n e = omega (arith, e)
not_read Read n e = n refl

-- what taking the first byte for a read's answers
module _ (q : List ℕ) {p : ℕ} (b : Next ℕ) (z : p ≡ 0) (e : b ≡ byte_at p q) (l : length q ≤ request_limit)
    (n : Result Kind NoKind) (h : Names b.value n) where
  pub looks_none : result_ok n ≡ None → Looks q None
  looks_none o = broken_other q (takes_none q b z e l n h o)

  pub looks_other : (k : Kind) → result_ok n ≡ Some k → (k ≡ Read → ⊥) → Looks q None
  looks_other k o m = kind_other q b.value l byte_is (λ w. not_read k m (named n h o ∙ w))
    where
      byte_is : b.value ≡ get_or q 0 0
      byte_is = ap (λ (x : Next ℕ). x.value) (e ∙ ap (λ (i : ℕ). byte_at i q) z)

      named : (r : Result Kind NoKind) → Names b.value r → result_ok r ≡ Some k → kind_byte k ≡ b.value
      named (Ok j) g i = let s : j ≡ k = cc in subst (λ (x : Kind). kind_byte x ≡ b.value) s g
      named (Err y) g i = cc

  pub looks_read : (o : Maybe Table) → result_ok n ≡ Some Read → Takes q (by_kind 5 q) (form_of_read o) → Looks q o
  looks_read o i t = go o (takes_kind q b z e l n h Read _ i t)
    where
      go : (o : Maybe Table) → Takes q (request_of q) (form_of_read o) → Looks q o
      go None f = broken_other q f
      go (Some x) f = record { table = f.inside.0; stride = f.inside.1; is = sym f.asks }

-- Without a read there is no byte left.
others-empty : (q : List ℕ) → ((rs : List ReadEntry) → request_of q ≡ some (read rs) → ⊥) → read_of q ≡ []
unfolding read_of read_bytes
others-empty q n = go (request_of q) n
  where
    go : (w : Option Request) → ((rs : List ReadEntry) → w ≡ some (read rs) → ⊥) → read_bytes w q ≡ []
    go none h = refl
    go (some (test_write k ts ws cut)) h = refl
    go (some (add l)) h = refl
    go (some (renew t x)) h = refl
    go (some (cancel t)) h = refl
    go (some (read rs)) h = absurd (h rs refl)

broken_alike : (c q r : List ℕ) → request_of q ≡ none → answered c (read_of q) r ≡ answered c q r
unfolding read_of read_bytes answered outcome
broken_alike c q r e = rw e (rw empty-broken refl)

-- ---- the container is left as it was
module _ (c q r : List ℕ) (f : well_formed c ≡ true) (o : Octets c) where
  empty-kept : container_after c [] r ≡ c
  empty-kept = sym (broken c [] r f empty-broken).container

  formed_kept : (w : Option Request) → request_of q ≡ w → container_after c (read_bytes w q) r ≡ c
  unfolding read_bytes
  formed_kept none e = empty-kept
  formed_kept (some (test_write k ts ws cut)) e = empty-kept
  formed_kept (some (add l)) e = empty-kept
  formed_kept (some (renew t x)) e = empty-kept
  formed_kept (some (cancel t)) e = empty-kept
  formed_kept (some (read rs)) e = read_container c q r rs f o e

kept : (c q r : List ℕ) → Octets c → container_after c (read_of q) r ≡ c
unfolding read_of
kept c q r o = go (length_allowed c) (well_formed c) refl refl
  where
    go : (l w : Bool) → length_allowed c ≡ l → well_formed c ≡ w → container_after c (read_bytes (request_of q) q) r ≡ c
    go l true a f = formed_kept c q r f o (request_of q) refl
    go true false a f = sym (malformed c (read_bytes (request_of q) q) r a f).container
    go false false a f = sym (bad_length c (read_bytes (request_of q) q) r a).container

pub read_only : (c q r : List ℕ) → ReadOnly c q r
read_only c q r = record {
  passes = read_passes q;
  others = others-empty q;
  broken = broken_alike c q r;
  kept = kept c q r;
}
