-- What a request's bytes are read as. Assumes nothing.
use mathlib.Core.Path.{◌≡◌, refl}
use mathlib.Core.Bool.{Bool, true, false, cond, ◌&&◌, false≢true}
use mathlib.Core.List.{List}
use mathlib.Core.Option.{Option, none, some}
use Prim.Native.Nat.{ℕ, ◌+◌, ◌≤◌}
use native.Mathlib.Omega.{arith}
use lib.ListN.{length, take, drop, length-drop}
use lib.Dec.{leb, eqb}
use borrow.Author.Tests.{leb-true, eqb-true}
use Rattle.octets.specs.Numbers.{number_at}
use Rattle.format.specs.Container.{held}
use Rattle.format.specs.Layout.{record_size, secret_size}
use Rattle.rules.specs.Requests.{Request, add, renew, cancel, read, request_limit, test_write_ok, test_write_of}
use Rattle.rules.specs.Requests.{add_ok, renew_ok, cancel_ok, read_ok, read_count, reads_at, reads_from, kind_of}
use Rattle.rules.specs.Requests.{by_kind, request_of}
use Rattle.rules.proofs.Kept.{Proper}

-- The ways to read a request: one for each kind whose format holds, else none.
pub data Kinds (q : List ℕ) : Type 0 where
  broken : request_of q ≡ none → Kinds q
  tests : kind_of q ≡ 1 → length q ≤ request_limit → test_write_ok q ≡ true → request_of q ≡ some (test_write_of q) → Kinds q
  adds : kind_of q ≡ 2 → add_ok q ≡ true → request_of q ≡ some (add (drop 1 q)) → Kinds q
  renews : kind_of q ≡ 3 → renew_ok q ≡ true
      → request_of q ≡ some (renew (take secret_size (drop 1 q)) (number_at 4 (1 + secret_size) q)) → Kinds q
  cancels : kind_of q ≡ 4 → cancel_ok q ≡ true → request_of q ≡ some (cancel (drop 1 q)) → Kinds q
  reads : kind_of q ≡ 5 → read_ok q ≡ true → request_of q ≡ some (read (reads_from (read_count q) reads_at q)) → Kinds q

pub kinds : (q : List ℕ) → Kinds q
unfolding request_of by_kind
kinds q = short (leb (length q) request_limit) refl
  where
    five : leb (length q) request_limit ≡ true → (b : Bool) → read_ok q ≡ b → kind_of q ≡ 5 → Kinds q
    five l true o k = reads k o (rw (l, k, o))
    five l false o k = broken (rw (l, k, o))

    four : leb (length q) request_limit ≡ true → (b : Bool) → cancel_ok q ≡ b → kind_of q ≡ 4 → Kinds q
    four l true o k = cancels k o (rw (l, k, o))
    four l false o k = broken (rw (l, k, o))

    three : leb (length q) request_limit ≡ true → (b : Bool) → renew_ok q ≡ b → kind_of q ≡ 3 → Kinds q
    three l true o k = renews k o (rw (l, k, o))
    three l false o k = broken (rw (l, k, o))

    two : leb (length q) request_limit ≡ true → (b : Bool) → add_ok q ≡ b → kind_of q ≡ 2 → Kinds q
    two l true o k = adds k o (rw (l, k, o))
    two l false o k = broken (rw (l, k, o))

    one : leb (length q) request_limit ≡ true → (b : Bool) → test_write_ok q ≡ b → kind_of q ≡ 1 → Kinds q
    one l true o k = tests k (leb-true _ _ l) o (rw (l, k, o))
    one l false o k = broken (rw (l, k, o))

    by5 : leb (length q) request_limit ≡ true → eqb (kind_of q) 1 ≡ false → eqb (kind_of q) 2 ≡ false → eqb (kind_of q) 3
        ≡ false → eqb (kind_of q) 4 ≡ false → (b : Bool) → eqb (kind_of q) 5 ≡ b → Kinds q
    by5 l a c d f true e = five l (read_ok q) refl (eqb-true _ _ e)
    by5 l a c d f false e = broken (rw (l, a, c, d, f, e))

    by4 : leb (length q) request_limit ≡ true → eqb (kind_of q) 1 ≡ false → eqb (kind_of q) 2 ≡ false → eqb (kind_of q) 3
        ≡ false → (b : Bool) → eqb (kind_of q) 4 ≡ b → Kinds q
    by4 l a c d true e = four l (cancel_ok q) refl (eqb-true _ _ e)
    by4 l a c d false e = by5 l a c d e (eqb (kind_of q) 5) refl

    by3 : leb (length q) request_limit ≡ true → eqb (kind_of q) 1 ≡ false → eqb (kind_of q) 2 ≡ false → (b : Bool)
        → eqb (kind_of q) 3 ≡ b → Kinds q
    by3 l a c true e = three l (renew_ok q) refl (eqb-true _ _ e)
    by3 l a c false e = by4 l a c e (eqb (kind_of q) 4) refl

    by2 : leb (length q) request_limit ≡ true → eqb (kind_of q) 1 ≡ false → (b : Bool) → eqb (kind_of q) 2 ≡ b → Kinds q
    by2 l a true e = two l (add_ok q) refl (eqb-true _ _ e)
    by2 l a false e = by3 l a e (eqb (kind_of q) 3) refl

    by1 : leb (length q) request_limit ≡ true → (b : Bool) → eqb (kind_of q) 1 ≡ b → Kinds q
    by1 l true e = one l (test_write_ok q) refl (eqb-true _ _ e)
    by1 l false e = by2 l e (eqb (kind_of q) 2) refl

    short : (b : Bool) → leb (length q) request_limit ≡ b → Kinds q
    short true l = by1 l (eqb (kind_of q) 1) refl
    short false l = broken (rw l)

-- a request that keeps its format is what its kind reads
pub of_kind : (q : List ℕ) (ok : Bool) (x : Request) → by_kind (kind_of q) q ≡ cond ok (some x) none →
    (request_of q ≡ none → ⊥) → request_of q ≡ some x
unfolding request_of
of_kind q ok x e h = rw e (go (leb (length q) request_limit) ok (rw e at h))
  where
    go : (b k : Bool) → (cond b (cond k (some x) none) none ≡ none → ⊥) → cond b (cond k (some x) none) none ≡ some x
    go true true h = refl
    go true false h = absurd (h refl)
    go false k h = absurd (h refl)

-- an added record has the size of a lease place, and an owner
pub add_proper : (q : List ℕ) → add_ok q ≡ true → Proper (add (drop 1 q))
unfolding add_ok
add_proper q e = go (eqb (length q) (1 + record_size)) refl e
  where
    go : (b : Bool) → eqb (length q) (1 + record_size) ≡ b → (b && held (drop 1 q)) ≡ true
        → (length (drop 1 q) ≡ record_size) × (held (drop 1 q) ≡ true)
    go true l e = let n : length q ≡ 1 + record_size = eqb-true _ _ l in (rw length-drop (omega arith), e)
    go false l e = absurd (false≢true e)

abbrev pub ProperOption : Option Request → Type 0
ProperOption none = Unit {0}
ProperOption (some r) = Proper r

pub request_proper : (q : List ℕ) → ProperOption (request_of q)
unfolding test_write_of
request_proper q = go (kinds q)
  where
    go : Kinds q → ProperOption (request_of q)
    go (broken e) = rw e tt
    go (tests k l o e) = rw e tt
    go (adds k o e) = rw e (add_proper q o)
    go (renews k o e) = rw e tt
    go (cancels k o e) = rw e tt
    go (reads k o e) = rw e tt
