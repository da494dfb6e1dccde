-- Laws about the words of commands.
use Rattle.std.proofs.Common.{◌≡◌, refl, Bool, true, false, cond, List, [], ◌∷◌, ℕ, zero, suc, ◌<◌, ltb, get_or, arith, None, Result, Ok, Err, Bor}
use borrow.Author.Tests.{ltb-true}
use Rattle.std.specs.Prelude.{codes, bytes_eq}
use Rattle.std.specs.Result.{MatchResult, result_ok}
use Rattle.std.specs.Str.{IsUtf8, IsValidUpTo, valid_up_to}
use Rattle.std.specs.declared.str.Utf8Error.{Utf8Error}
use Rattle.std.proofs.lemmas.Str.{IsUtf8-from_ascii}
use Rattle.std.proofs.lemmas.Slice.Eq.{bytes_eq-Decides}
use Rattle.replaying.specs.Commands.{word_of}

-- Bytes below 128 are text.
abbrev small : List ℕ → Bool
small [] = true
small (b ∷ bs) = cond (ltb b 128) (small bs) false

ascii : (bs : List ℕ) → small bs ≡ true → (i : ℕ) → get_or bs i 0 < 128
ascii [] e i = grind arith
ascii (b ∷ bs) e i = go (ltb b 128) refl (λ h j. ascii bs h j) i
  where
    go : (t : Bool) → ltb b 128 ≡ t → (small bs ≡ true → (j : ℕ) → get_or bs j 0 < 128)
        → (k : ℕ) → get_or (b ∷ bs) k 0 < 128
    go false q rest k =
        let z : false ≡ true = rw q at e in
        cc
    go true q rest zero = ltb-true b 128 q
    go true q rest (suc k) = rest (rw q at e) k

-- Bytes that are no text differ from those.
other : (w t : List ℕ) → ¬ (IsUtf8 w) → small t ≡ true → bytes_eq w t ≡ false
other w t h u = go (bytes_eq w t) refl
  where
    go : (b : Bool) → bytes_eq w t ≡ b → bytes_eq w t ≡ false
    go true e = absurd (h (rw ((bytes_eq-Decides w t).0 e) (IsUtf8-from_ascii t (ascii t u))))
    go false e = e

pub unnamed : (w : List ℕ) (r : Result (Bor (List ℕ)) Utf8Error)
    → MatchResult r (λ s. (s.now ≡ w) × IsUtf8 w) (λ e. ¬ (IsUtf8 w) × IsValidUpTo w (valid_up_to e))
    → result_ok r ≡ None → word_of w ≡ None
unfolding word_of
unnamed w (Ok s) h e = cc
unnamed w (Err d) h e =
    rw (
      other w (codes "buffer") h.0 refl,
      other w (codes "load") h.0 refl,
      other w (codes "list") h.0 refl,
      other w (codes "node") h.0 refl,
      other w (codes "enabler") h.0 refl,
      other w (codes "create") h.0 refl,
    )
    (rw (
      other w (codes "bytes") h.0 refl,
      other w (codes "apply") h.0 refl,
      other w (codes "watch") h.0 refl,
      other w (codes "expect") h.0 refl,
      other w (codes "say") h.0 refl,
    ))
