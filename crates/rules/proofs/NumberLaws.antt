-- Every outcome is a number that the table has for the request's kind. Assumes nothing.
use mathlib.Core.Path.{◌≡◌, refl, sym, subst, ◌∙◌}
use mathlib.Core.Bool.{Bool, true, false, cond, not, false≢true}
use mathlib.Core.List.{List, [], ◌∷◌, ◌++◌}
use mathlib.Core.Option.{Option, none}
use Prim.Native.Nat.{ℕ, ◌≤◌}
use native.Mathlib.Omega.{arith}
use lib.Dec.{eqb, leb}
use borrow.Author.Tests.{eqb-true, leb-true}
use Rattle.format.specs.Container.{length_allowed, well_formed, container_rows}
use Rattle.format.specs.Parts.{parts_of}
use Rattle.octets.specs.Lists.{any_of, every}
use Rattle.octets.proofs.ListLaws.{both}
use Rattle.octets.specs.Facts.{Each, Among}
use Rattle.rules.specs.Requests.{Request, test_write_of, request_of, kind_of}
use Rattle.octets.specs.Rows.{Row, first_row}
use Rattle.rules.specs.Outcomes.{rows, room_rows, request_rows, outcome, create_outcome, admit_rows, find_rows}
use Rattle.rules.specs.Claims.{numbers_for}
use Rattle.rules.proofs.RequestLaws.{Kinds, broken, tests, adds, renews, cancels, reads, kinds}

-- the first_row number of a table is 0 or that of a row
pub first_row_among : (ns : List ℕ) (rs : List Row) → Among 0 ns → Each (λ r. Among r.number ns) rs
    → Among (first_row rs) ns
unfolding first_row
first_row_among ns [] z h = z
first_row_among ns (r ∷ rs) z h = go r.applies (first_row_among ns rs z h.1)
  where
    go : (b : Bool) → Among (first_row rs) ns → Among (cond b r.number (first_row rs)) ns
    go true k = h.0
    go false k = k

-- a broken request is answered 1, 2 or 3
pub broken_is : (P : ℕ → Type 0) (c q : List ℕ) (n : ℕ) → request_of q ≡ none → P 1 → P 2 → P 3 → P (outcome c q n)
unfolding outcome request_rows first_row
broken_is P c q n e one two three = rw e (go (not (length_allowed c)) (not (well_formed c)))
  where
    go : (a b : Bool) → P (cond a 1 (cond b 2 3))
    go true b = one
    go false true = two
    go false false = three

pub broken_among : (c q : List ℕ) (n : ℕ) → request_of q ≡ none → Among (outcome c q n) (1 ∷ 2 ∷ 3 ∷ [])
unfolding any_of
broken_among c q n e = broken_is (λ k. Among k (1 ∷ 2 ∷ 3 ∷ [])) c q n e refl refl refl

-- so what is done keeps its format
pub done_unbroken : (c q : List ℕ) (n : ℕ) → outcome c q n ≡ 0 → request_of q ≡ none → ⊥
done_unbroken c q n e f =
    broken_is (λ k. k ≡ 0 → ⊥) c q n f (λ z. omega arith) (λ z. omega arith) (λ z. omega arith) e

-- the rows that a request of a kind meets
of_kind : (c q : List ℕ) (n k : ℕ) (w : Option Request) → kind_of q ≡ k → request_of q ≡ w
    → Among (first_row (container_rows c ++ request_rows (parts_of c) w n)) (numbers_for k)
    → Among (outcome c q n) (numbers_for (kind_of q))
unfolding outcome
of_kind c q n k w e f h =
    subst (λ (m : ℕ). Among (outcome c q n) (numbers_for m)) (sym e)
    (subst
    (λ (x : Option Request). Among (first_row (container_rows c ++ request_rows (parts_of c) x n)) (numbers_for k))
    (sym f)
    h)

kind_among : (c q : List ℕ) (n : ℕ) → Kinds q → Among (outcome c q n) (numbers_for (kind_of q))
unfolding outcome request_rows rows admit_rows find_rows room_rows numbers_for any_of test_write_of
kind_among c q n (broken e) = broken_is (λ k. Among k (numbers_for (kind_of q))) c q n e refl refl refl
kind_among c q n (tests k l o e) =
    of_kind c q n 1 _ k e
    (first_row_among (numbers_for 1) _ refl (refl, (refl, (refl, (refl, (refl, (refl, (refl, tt))))))))
kind_among c q n (adds k o e) =
    of_kind c q n 2 _ k e (first_row_among (numbers_for 2) _ refl (refl, (refl, (refl, (refl, tt)))))
kind_among c q n (renews k o e) =
    of_kind c q n 3 _ k e (first_row_among (numbers_for 3) _ refl (refl, (refl, (refl, tt))))
kind_among c q n (cancels k o e) =
    of_kind c q n 4 _ k e (first_row_among (numbers_for 4) _ refl (refl, (refl, (refl, tt))))
kind_among c q n (reads k o e) =
    of_kind c q n 5 _ k e (first_row_among (numbers_for 5) _ refl (refl, (refl, (refl, (refl, tt)))))

pub outcome_among : (c q : List ℕ) (n : ℕ) → Among (outcome c q n) (numbers_for (kind_of q))
outcome_among c q n = kind_among c q n (kinds q)

-- what is in neither of two lists is not in the one that is chosen
absent : (n : ℕ) (b : Bool) (xs ys : List ℕ) → any_of (eqb n) xs ≡ false → any_of (eqb n) ys ≡ false →
    any_of (eqb n) (cond b xs ys) ≡ false
absent n true xs ys h k = h
absent n false xs ys h k = k

-- no kind has row 6
no_six : (k : ℕ) → any_of (eqb 6) (numbers_for k) ≡ false
unfolding numbers_for any_of
no_six k =
    absent 6 (eqb k 1) _ _ refl
    (absent 6 (eqb k 2) _ _ refl
    (absent 6 (eqb k 3) _ _ refl (absent 6 (eqb k 4) _ _ refl (absent 6 (eqb k 5) _ _ refl refl))))

pub never_six : (c q : List ℕ) (n : ℕ) → outcome c q n ≡ 6 → ⊥
never_six c q n e = false≢true (sym (no_six (kind_of q)) ∙ (rw e at (outcome_among c q n)))

-- create's table has rows 1, 3 and 12
pub create_among : (c node enabler : List ℕ) → Among (create_outcome c node enabler) (0 ∷ 1 ∷ 3 ∷ 12 ∷ [])
unfolding create_outcome any_of
create_among c node enabler = first_row_among (0 ∷ 1 ∷ 3 ∷ 12 ∷ []) _ refl (refl, (refl, (refl, tt)))

pub create_never_six : (c node enabler : List ℕ) → create_outcome c node enabler ≡ 6 → ⊥
unfolding any_of
create_never_six c node enabler e = false≢true (rw e at (create_among c node enabler))

-- ---- no number is above 11
among_most : (x m : ℕ) (ns : List ℕ) → every (λ n. leb n m) ns ≡ true → Among x ns → x ≤ m
unfolding any_of every
among_most x m [] h e = absurd (false≢true e)
among_most x m (n ∷ ns) h e =
    let k = both (leb n m) (every (λ n. leb n m) ns) h in
    go (eqb x n) refl e (leb-true n m k.0) (among_most x m ns k.1)
  where
    go : (b : Bool) → eqb x n ≡ b → cond b true (any_of (eqb x) ns) ≡ true → n ≤ m →
        (Among x ns → x ≤ m) → x ≤ m
    go true p e k ih = omega (arith, eqb-true x n p)
    go false p e k ih = ih e

every_choice : (test : ℕ → Bool) (b : Bool) (xs ys : List ℕ) → every test xs ≡ true → every test ys ≡ true →
    every test (cond b xs ys) ≡ true
every_choice test true xs ys h k = h
every_choice test false xs ys h k = k

numbers_most : (k : ℕ) → every (λ n. leb n 11) (numbers_for k) ≡ true
unfolding numbers_for every
numbers_most k =
    let small = every_choice (λ n. leb n 11) in
    small (eqb k 1) _ _ refl
    (small (eqb k 2) _ _ refl
    (small (eqb k 3) _ _ refl (small (eqb k 4) _ _ refl (small (eqb k 5) _ _ refl refl))))

pub own_most : (c q : List ℕ) (n : ℕ) → outcome c q n ≤ 11
own_most c q n = among_most (outcome c q n) 11 (numbers_for (kind_of q)) (numbers_most (kind_of q)) (outcome_among c q n)
