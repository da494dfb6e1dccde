-- Offsets: the whole number that one stands for, what it is resolved to, and writes behind others. Assumes nothing.
use mathlib.Core.Path.{◌≡◌, refl, sym, ap, ◌∙◌}
use mathlib.Core.Bool.{Bool, true, false, false≢true}
use mathlib.Core.List.{List, [], ◌∷◌, ◌++◌, append-nil}
use mathlib.Core.Option.{Option, none, some}
use Prim.Native.Nat.{ℕ, suc, ◌+◌, ◌-◌, ◌≤◌, ◌<◌}
use native.Mathlib.Omega.{arith}
use lib.ListN.{length, take, drop, drop_of_length-le}
use lib.Seq.{take_all}
use lib.Dec.{leb, ltb→lt, le→leb}
use lib.IntN.{ℤ, pos, negsuc, nat_abs, pos-ne-negsuc}
use borrow.Author.Tests.{leb-true, leb-false, le-leb, lt-ltb, le-ltb}
use Rattle.octets.specs.Facts.{Each}
use Rattle.octets.specs.Lists.{is_some, or_else, every}
use Rattle.octets.proofs.ListLaws.{both, each_map, every_each, each_every}
use Rattle.rules.specs.Requests.{Write}
use Rattle.rules.specs.Testing.{resolve, resolves, position}
use Rattle.rules.specs.Writing.{Placed, pad_to, write_at, grow, placed, writes_resolve, write_all, cut_to, rewritten}
use Rattle.rules.specs.Sizes.{size_all}
use Rattle.rules.specs.Offsets.{named, NotBefore, WritesNotBefore, Resolving, NextWrite}
use Rattle.rules.proofs.WriteLaws.{length-write_all}

-- ---- an offset counted from the end
named_at : (k n : ℕ) → k ≤ n → named (negsuc k) n ≡ pos (n - k)
unfolding named
named_at k n h = let e : n + 1 - suc k ≡ n - k = omega arith in rw (le-ltb (n + 1) (suc k) (omega arith), e)

named-below : (k n : ℕ) → n < k → named (negsuc k) n ≡ negsuc (k - suc n)
unfolding named
named-below k n h =
    let e : suc k - suc (n + 1) ≡ k - suc n = omega arith in rw (lt-ltb (n + 1) (suc k) (omega arith), e)

-- ---- what an offset comes to on a size: a position, or a number below 0
data Comes (o : ℤ) (n : ℕ) : Type 0 where
  to : (p : ℕ) → resolve o n ≡ some p → named o n ≡ pos p → Comes o n
  below : (k : ℕ) → resolve o n ≡ none → named o n ≡ negsuc k → Comes o n

comes : (o : ℤ) (n : ℕ) → Comes o n
unfolding resolve named
comes (pos p) n = to p refl refl
comes (negsuc k) n = go (leb k n) refl
  where
    go : (b : Bool) → leb k n ≡ b → Comes (negsuc k) n
    go true e = to (n - k) (rw e) (named_at k n (leb-true k n e))
    go false e = below (k - suc n) (rw e) (named-below k n (leb-false k n e))

-- ---- the claim of every offset and size
pub some_is : (p k : ℕ) → ◌≡◌ {A = Option ℕ} (some p) (some k) → p ≡ k
unfolding or_else
some_is p k e = ap (λ (x : Option ℕ). or_else x 0) e

some-none : (p : ℕ) → ◌≡◌ {A = Option ℕ} (some p) none → ⊥
unfolding is_some
some-none p e = false≢true (sym (ap (λ (x : Option ℕ). is_some x) e))

pub resolving : (o : ℤ) (n : ℕ) → Resolving o n
resolving o n = go (comes o n)
  where
    go : Comes o n → Resolving o n
    go (to p e f) = record {
      names = λ k. (
        (λ g. ap pos (sym (some_is p k (sym e ∙ g))) ∙ sym f),
        (λ g. e ∙ ap some (sym (ap nat_abs (g ∙ f)))),
      );
      before = (
        (λ g. absurd (some-none p (sym e ∙ g))),
        (λ g. absurd (let z = rw f at g in omega (arith, ltb→lt p 0 z.lt))),
      );
    }
    go (below k e f) = record {
      names = λ p. (
        (λ g. absurd (some-none p (sym g ∙ e))),
        (λ g. absurd (pos-ne-negsuc p k (g ∙ f))),
      );
      before = ((λ g. rw f (record { lt = tt })), (λ g. e));
    }

-- ---- an offset resolves exactly when it does not reach before byte 0
pub resolves-named : (o : ℤ) (n : ℕ) → resolves o n ≡ true → NotBefore o n
unfolding resolves is_some
resolves-named o n e = go (comes o n)
  where
    go : Comes o n → NotBefore o n
    go (to p f g) = rw g (record { le = le→leb 0 p (omega arith) })
    go (below k f g) = absurd (false≢true (rw f at e))

pub named-resolves : (o : ℤ) (n : ℕ) → NotBefore o n → resolves o n ≡ true
unfolding resolves is_some
named-resolves o n h = go (comes o n)
  where
    go : Comes o n → is_some (resolve o n) ≡ true
    go (to p f g) = rw f
    go (below k f g) = absurd (let z = rw g at h in z.le)

-- the same of all the offsets of a list
module _ {A : Type 0} (at : A → ℤ) (xs : List A) (n : ℕ) where
  pub all_named : every (λ x. resolves (at x) n) xs ≡ true → Each (λ x. NotBefore (at x) n) xs
  all_named e =
      each_map (λ x. resolves (at x) n ≡ true) (λ x. NotBefore (at x) n) (λ x. resolves-named (at x) n) xs
      (every_each (λ x. resolves (at x) n) xs e)

  pub named_all : Each (λ x. NotBefore (at x) n) xs → every (λ x. resolves (at x) n) xs ≡ true
  named_all e =
      each_every (λ x. resolves (at x) n) xs
      (each_map (λ x. NotBefore (at x) n) (λ x. resolves (at x) n ≡ true) (λ x. named-resolves (at x) n) xs e)

-- and of writes, each on the size that those before it give
SizesNotBefore : List Write → ℕ → Type 0
SizesNotBefore ws n = (us : List Write) (w : Write) (vs : List Write) → ws ≡ us ++ (w ∷ vs) →
    NotBefore w.offset (size_all (placed us n) n)

sizes_named : (ws : List Write) (n : ℕ) → writes_resolve ws n ≡ true → SizesNotBefore ws n
unfolding SizesNotBefore writes_resolve size_all placed
sizes_named [] n e [] w vs f = absurd (let z : ◌≡◌ {A = ℕ} 0 1 = cc in omega arith)
sizes_named [] n e (u ∷ us) w vs f = absurd (let z : ◌≡◌ {A = ℕ} 0 1 = cc in omega arith)
sizes_named (x ∷ ws) n e [] w vs f =
    let k : x ≡ w = cc in
    rw (← k) (resolves-named x.offset n (both (resolves x.offset n) _ e).0)
sizes_named (x ∷ ws) n e (u ∷ us) w vs f =
    let k : x ≡ u = cc in
    let l : ws ≡ us ++ (w ∷ vs) = cc in
    rw (← k) (sizes_named ws _ (both (resolves x.offset n) _ e).1 us w vs l)

named_sizes : (ws : List Write) (n : ℕ) → SizesNotBefore ws n → writes_resolve ws n ≡ true
unfolding SizesNotBefore writes_resolve size_all placed
named_sizes [] n h = refl
named_sizes (w ∷ ws) n h =
    rw (named-resolves w.offset n (h [] w ws refl))
    (named_sizes ws _ (λ us v vs e. h (w ∷ us) v vs (ap (λ (l : List Write). w ∷ l) e)))

-- which is the length of the data that they leave
length-rewritten : (us : List Write) (d : List ℕ) →
    length (rewritten us none d) ≡ size_all (placed us (length d)) (length d)
unfolding rewritten cut_to
length-rewritten us d = length-write_all (placed us (length d)) d

pub writes_named : (ws : List Write) (d : List ℕ) → writes_resolve ws (length d) ≡ true → WritesNotBefore ws d
unfolding SizesNotBefore
writes_named ws d e us w vs f = rw (length-rewritten us d) (sizes_named ws (length d) e us w vs f)

pub named_writes : (ws : List Write) (d : List ℕ) → WritesNotBefore ws d → writes_resolve ws (length d) ≡ true
unfolding SizesNotBefore
named_writes ws d h = named_sizes ws (length d) (λ us w vs f. rw (length-rewritten us d) at (h us w vs f))

-- ---- writes behind others
placed-append : (us vs : List Write) (n : ℕ) → placed (us ++ vs) n ≡ placed us n ++ placed vs (size_all (placed us n) n)
unfolding placed size_all
placed-append [] vs n = refl
placed-append (u ∷ us) vs n =
    let at : ℕ = position u.offset n in
    ap (λ (l : List Placed). record { at = at; bytes = u.bytes } ∷ l)
    (placed-append us vs (grow n at (length u.bytes)))

write_all-append : (ps qs : List Placed) (d : List ℕ) → write_all (ps ++ qs) d ≡ write_all qs (write_all ps d)
unfolding write_all
write_all-append [] qs d = refl
write_all-append (p ∷ ps) qs d = write_all-append ps qs (write_at d p.at p.bytes)

pub end-position : (n : ℕ) → position (negsuc 0) n ≡ n
unfolding position resolve or_else
end-position n = rw (le-leb 0 n (omega arith)) (omega arith)

pub write-end : (d bs : List ℕ) → write_at d (length d) bs ≡ d ++ bs
unfolding write_at pad_to
write-end d [] = sym (append-nil d)
write-end d (b ∷ bs) =
    let z : length d - length d ≡ 0 = omega arith in
    let e : drop (length d + suc (length bs)) d ≡ [] =
    drop_of_length-le d {i = length d + suc (length bs)} (omega arith) in
    rw (z, e, append-nil d, take_all (length d) d (omega arith)) (append-nil (d ++ (b ∷ bs)))

module _ (us : List Write) (w : Write) (d : List ℕ) where
  next_is : rewritten (us ++ (w ∷ [])) none d
      ≡ write_at (rewritten us none d) (position w.offset (length (rewritten us none d))) w.bytes
  unfolding rewritten cut_to placed write_all
  next_is =
      ap (λ (ps : List Placed). write_all ps d) (placed-append us (w ∷ []) (length d))
      ∙ write_all-append (placed us (length d)) _ d
      ∙ rw (length-write_all (placed us (length d)) d) refl

  cut_last : (m : ℕ) → rewritten (us ++ (w ∷ [])) (some m) d ≡ take m (rewritten (us ++ (w ∷ [])) none d)
  unfolding rewritten cut_to
  cut_last m = refl

  none_left : rewritten [] none d ≡ d
  unfolding rewritten cut_to placed write_all
  none_left = refl

  -- THE NEXT WRITE
  pub next_write : NextWrite us w d
  unfolding position or_else
  next_write =
      let e : List ℕ = rewritten us none d in
      record {
        none_before = none_left;
        made = λ p f. next_is ∙ rw f refl;
        appended = λ f. next_is
            ∙ ap (λ (p : ℕ). write_at e p w.bytes) (rw f (end-position (length e))) ∙ write-end e w.bytes;
        cut_last = cut_last;
      }
