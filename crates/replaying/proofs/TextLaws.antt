-- Laws about runs and numerals.
use Rattle.std.proofs.Common.{◌≡◌, refl, Bool, true, false, List, [], ◌∷◌, ℕ, ◌+◌, ◌*◌, ◌-◌, ◌≤◌, ◌<◌}
use Rattle.std.proofs.Common.{Option, Some, None, Ok, Err, ltb, length, drop, get_or, arith, add-one, drop-cons}
use lib.ListN.{drop_of_length-le}
use borrow.Author.Tests.{lt-ltb, le-ltb, eq-eqb, ne_eqb}
use Rattle.std.proofs.lemmas.Bool.Decides.{nat_tests}
use Rattle.std.specs.Char.{digit_value}
use Rattle.std.specs.Option.{SomeIff}
use Rattle.std.specs.List.{take_while}
use Rattle.std.proofs.lemmas.List.Folds.{length-prefix_len}
use Rattle.replaying.specs.Scanning.{is_of, run}
use Rattle.replaying.specs.Numerals.{value_after, value_of, value_within, decimal_of, hex_of}
use Rattle.replaying.specs.declared.scanning.Sort.{Sort}
use Rattle.replaying.specs.declared.numerals.NumberFault.TheVariants.{Missing, TooLarge}

-- A run is what is taken while the bytes are of the sort.
pub length-taken : (k : Sort) (s : List ℕ) → length (take_while (is_of k) s) ≡ run k s
unfolding run
length-taken k s = length-prefix_len (is_of k) s

-- A decimal value, digit by digit.
module _ (d : List ℕ) (i acc : ℕ) where
  pub value_more : i < length d → value_after acc (drop i d) ≡ value_after (acc * 10 + (get_or d i 0 - 48)) (drop (i + 1) d)
  unfolding value_after
  value_more h = rw (add-one, drop-cons d i 0)

  pub value_end : length d ≤ i → value_after acc (drop i d) ≡ acc
  unfolding value_after
  value_end h = rw (drop_of_length-le d {i = i} h)

pub value_grows : (a : ℕ) (ds : List ℕ) → a ≤ value_after a ds
unfolding value_after
value_grows a [] = omega arith
value_grows a (d ∷ ds) = omega (arith, value_grows (a * 10 + (d - 48)) ds)

-- A value at most the bound, or above it.
module _ (ds : List ℕ) (most : ℕ) where
  pub within_value : (v : ℕ) → v ≡ value_of ds → v ≤ most → Some v ≡ value_within ds most
  unfolding value_within
  within_value v e h = rw (← e, le-ltb most v h)

  pub within_none : most < value_of ds → None ≡ value_within ds most
  unfolding value_within
  within_none h = rw (lt-ltb most (value_of ds) h)

-- The three cases of a decimal number.
module _ (ds : List ℕ) (next most : ℕ) where
  pub decimal_none : length ds ≡ 0 → decimal_of ds next most ≡ Err Missing
  unfolding decimal_of
  decimal_none e = rw (eq-eqb (length ds) 0 e)

  pub decimal_large : 0 < length ds → value_within ds most ≡ None → decimal_of ds next most ≡ Err (TooLarge most)
  unfolding decimal_of value_within
  decimal_large h e = go (ltb most (value_of ds)) refl
    where
      go : (t : Bool) → ltb most (value_of ds) ≡ t → decimal_of ds next most ≡ Err (TooLarge most)
      go true q = rw (ne_eqb (length ds) 0 (λ z. omega arith), q)
      go false q =
          let z : Some (value_of ds) ≡ None = rw q at e in
          cc

  pub decimal_value : 0 < length ds → (v : ℕ) → value_within ds most ≡ Some v → decimal_of ds next most ≡ Ok (v, next)
  unfolding decimal_of value_within
  decimal_value h v e = go (ltb most (value_of ds)) refl
    where
      go : (t : Bool) → ltb most (value_of ds) ≡ t → decimal_of ds next most ≡ Ok (v, next)
      go true q =
          let z : None ≡ Some v = rw q at e in
          cc
      go false q =
          let z : Some (value_of ds) ≡ Some v = rw q at e in
          let y : value_of ds ≡ v = cc in
          rw (ne_eqb (length ds) 0 (λ x. omega arith), q, y)

-- A digit below 16 is a hexadecimal one.
pub hex_is : (b : ℕ) (o : Option ℕ) → SomeIff o (digit_value b < 16) (digit_value b) → o ≡ hex_of b
unfolding hex_of
hex_is b None h = grind (arith, nat_tests)
hex_is b (Some d) h = grind (arith, nat_tests)
