-- What a chain over the lease records counts and finds. Assumes nothing.
use mathlib.Core.Path.{◌≡◌, refl, sym, ap, ◌∙◌}
use mathlib.Core.Bool.{Bool, true, false, cond, not}
use mathlib.Core.List.{List, [], ◌∷◌, ◌++◌, reverse}
use Prim.Native.Nat.{ℕ, suc, ◌+◌, ◌-◌}
use native.Mathlib.Omega.{arith}
use lib.ListN.{length, take, drop, length-append}
use borrow.Author.Tests.{ltb-false}
use lib.Dec.{ltb}
use denote.Param.Members.{Mut}
use Rattle.std.specs.Fn.{Called}
use Rattle.std.specs.Prelude.{Option, Some, None}
use Rattle.std.proofs.lemmas.Iterator.{YieldsList}
use Rattle.std.proofs.lemmas.List.{reverse-append, length-reverse}
use Rattle.std.specs.List.{filter, position_or_len}
use Rattle.std.specs.Option.{MatchOption, IsSomeAnd}
use Rattle.std.specs.Iterator.{FindsPositionBack}
use Rattle.std.proofs.lemmas.Iterator.Search.{position_from_yields_List}
use Rattle.octets.specs.Numbers.{number_at}
use Rattle.format.specs.Container.{held}
use Rattle.rules.specs.Leasing.{present, trim}
use Rattle.format.specs.Layout.{record_size, owner_of}
use Rattle.format.proofs.JudgingLaws.{held_at}
use Rattle.leases.proofs.PlaceLaws.{trim-held, trim-empty}

-- the owner stands in the first bytes
pub held-front : (r : List ℕ) → held (take record_size (drop 0 r)) ≡ held r
unfolding held owner_of number_at
held-front r = held_at 0 r

counted : (b : Bool) (r : List ℕ) (a : List (List ℕ)) (n : ℕ) → length a ≡ n →
    length (cond b (r ∷ a) a) ≡ cond b 1 0 + n
counted true r a n h = omega (arith, h)
counted false r a n h = omega (arith, h)

pub present-filter : (ls : List (List ℕ)) → length (filter held ls) ≡ present ls
unfolding present
present-filter [] = refl
present-filter (r ∷ ls) = counted (held r) r (filter held ls) (present ls) (present-filter ls)

-- what is kept up to the place that `rposition` finds
abbrev pub kept_to : Option ℕ → ℕ
kept_to None = 0
kept_to (Some i) = i + 1

pub kept_by : {P : ℕ → Type 0} (o : Option ℕ) (r : ℕ) → MatchOption o (r ≡ 0) P → ((i : ℕ) → P i → r ≡ i + 1) →
    r ≡ kept_to o
kept_by None r m h = m
kept_by (Some i) r m h = h i m

-- what `position` would count over the same items
counted_to : {A : Type 0} → List A → Option A → Option ℕ
counted_to xs None = None
counted_to xs (Some x) = Some (length xs)

module _ {A : Type 0} (Q : A → Type 0) (n : ℕ) (xs : List A) where
  counts : (r : Option ℕ) (o : Option A) →
      MatchOption o (r ≡ None) (λ x. IsSomeAnd r (λ i. i + 1 + length xs ≡ n) × Q x) →
      MatchOption o (counted_to xs o ≡ None) (λ x. (counted_to xs o ≡ Some (length xs)) × Q x)
  unfolding counted_to
  counts r None m = refl
  counts r (Some x) m = (refl, m.1)

  none_before : (p : ℕ) (t : Bool) → ltb p n ≡ t → None ≡ cond t (Some p) None → 0 ≡ n - p
  none_before p true q e = absurd (let z : ◌≡◌ {A = ℕ} 0 1 = cc in omega arith)
  none_before p false q e = let l = ltb-false p n q in omega arith

  some_before : (i p : ℕ) (t : Bool) → i + 1 + length xs ≡ n → Some (length xs) ≡ cond t (Some p) None → i + 1 ≡ n - p
  some_before i p true m e = let z : length xs ≡ p = cc in omega arith
  some_before i p false m e = absurd (let z : ◌≡◌ {A = ℕ} 0 1 = cc in omega arith)

  keeps : (r : Option ℕ) (o : Option A) (p : ℕ) →
      MatchOption o (r ≡ None) (λ x. IsSomeAnd r (λ i. i + 1 + length xs ≡ n) × Q x) →
      counted_to xs o ≡ cond (ltb p n) (Some p) None → kept_to r ≡ n - p
  unfolding counted_to
  keeps r None p m e = ap kept_to m ∙ none_before p (ltb p n) refl e
  keeps None (Some x) p m e = absurd m.0
  keeps (Some i) (Some x) p m e = some_before i p (ltb p n) m.0 e

module _ {S A B F : Type 0} {steps : S → Option A → S → Type 0} {v : A → B} {g : Mut F (A × Unit {0}) Bool} {s : S}
    {all : List B} (test : B → Bool) (u : S) (f : F) (n : ℕ) where
  pub kept-from_yields_List : (r : Option ℕ) → FindsPositionBack steps g s f n r u → YieldsList steps v s all →
      ((x : A) (b : Bool) (q : F) → Called g f (x, tt) b q → (q ≡ f) × (b ≡ test (v x))) →
      n ≡ length all → kept_to r ≡ n - position_or_len test all
  kept-from_yields_List r (xs, o, j, y, d, m) e h l =
      let Q : A → Type 0 = λ x. (w : F) × Called g j (x, tt) true w in
      keeps Q n xs r o (position_or_len test all) m
      (position_from_yields_List test u f (counted_to xs o) (xs, o, j, y, d, counts Q n xs r o m) e h
      ∙ ap (λ (k : ℕ). cond (ltb (position_or_len test all) k) (Some (position_or_len test all)) None) (sym l))

-- ---- what is left without the empty records at the end
pub trim-reverse : (ls : List (List ℕ)) → length (trim (reverse ls)) ≡ length ls - position_or_len held ls
unfolding trim
trim-reverse [] = refl
trim-reverse (r ∷ ls) = rw (reverse-append (r ∷ []) ls) (go (held r) refl (trim-reverse ls))
  where
    go : (b : Bool) → held r ≡ b → length (trim (reverse ls)) ≡ length ls - position_or_len held ls →
        length (trim (reverse ls ++ (r ∷ []))) ≡ suc (length ls) - cond (not b) (1 + position_or_len held ls) 0
    go true e ih = ap length (trim-held (reverse ls) r e)
        ∙ omega (arith, length-append (reverse ls) (r ∷ []), length-reverse ls)
    go false e ih = ap length (trim-empty (reverse ls) r e) ∙ ih ∙ omega arith
