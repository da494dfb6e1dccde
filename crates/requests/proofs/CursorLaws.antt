-- What a cursor's methods tell their caller: fields, bounds, and offsets as the code resolves them. Assumes nothing.
use mathlib.Core.Path.{◌≡◌, refl, sym, ap, ◌∙◌}
use mathlib.Core.Bool.{Bool, true, false, cond, true≢false}
use mathlib.Core.List.{List}
use mathlib.Core.Option as maybe
use mathlib.Core.Option.{none, some}
use Prim.Native.Nat.{ℕ, suc, ◌+◌, ◌-◌, ◌^◌, ◌<◌, ◌≤◌}
use native.Mathlib.Omega.{arith}
use lib.Dec.{T, leb, ltb}
use lib.IntN.{ℤ, pos, negsuc, nat_abs, ◌-ℤ◌}
use lib.ListN.{length, drop, length-drop}
use lib.Seq.{length-take-le}
use lib.Signed.{le_z, non_neg}
use mir.Syntax.{w32, w64}
use mir.Val.{sel, bits, hbits, to_z, of_z, Fits, SFits}
use mir.ValLaws.{to_z-of_z, to_z-Fits}
use borrow.Author.Tests.{ltb-true, le-ltb, le-leb, lt-leb}
use Rattle.requests.specs.declared.cursors.Cursor.{Cursor}
use Rattle.requests.specs.declared.cursors.Body.{Body}
use Rattle.requests.specs.declared.cursors.Entry.{Entry}
use Rattle.requests.specs.Offsets.{resolved_of}
use Rattle.std.specs.Prelude.{Option, Some, None, SomeIff, unwrap_or}
use Rattle.rules.specs.Testing.{resolve, resolves, position}
use Rattle.octets.specs.Lists.{is_some, or_else}
use Rattle.octets.specs.Facts.{Octets}
use Rattle.octets.specs.Numbers.{number_at, signed}
use Rattle.octets.proofs.NumberLaws.{number_at-below}
use Rattle.rules.specs.Requests.{entry_specimen, entry_count, entry_offset, padding_at}
use Rattle.requests.specs.Forms.{BytesIn}
use Rattle.requests.specs.Cursors.{body_at, body_of, bytes_from, entry_at}

-- ---- an offset resolved
above_is : (z : ℤ) (size : ℕ) → le_z (pos 0) z ≡ true
    → Some (nat_abs z) ≡ resolved_of z size
unfolding resolve is_some or_else resolves position
above_is (pos n) size e = refl
above_is (negsuc n) size e = absurd (true≢false (sym e))

above-fits : (z : ℤ) → SFits w32 z → le_z (pos 0) z ≡ true → T (non_neg z) × Fits w64 (nat_abs z)
above-fits (pos n) f e = let h : n < 2147483648 = f.sfits in (tt, record { fits = omega arith })
above-fits (negsuc n) f e = absurd (true≢false (sym e))

-- What the code makes of the number that it has stored: -1 less it, stored in its turn.
abbrev pub backed : ℤ → ℤ
backed z = negsuc 0 -ℤ to_z w32 (of_z w32 z)

-- A negative offset, and how far before the end it points.
pub record Behind (z : ℤ) : Type 0 where
  pub far : ℕ
  pub is : z ≡ negsuc far
  pub fits : SFits w32 (backed z)
  pub read : to_z w32 (of_z w32 (backed z)) ≡ pos far
  pub small : far < 2147483648

-- -1 - z of the negative z = -(k + 1) is k: no sum leaves the width, for the lowest offset too.
less_is : (k : ℕ) → negsuc 0 -ℤ negsuc k ≡ pos k
less_is k = let e : suc k - 1 ≡ k = omega arith in rw (le-ltb (suc k) 1 (omega arith), e)

behind_is : (z : ℤ) → SFits w32 z → le_z (pos 0) z ≡ false → Behind z
behind_is (pos n) f e = absurd (true≢false (sym (le-leb 0 n (omega arith)) ∙ e))
behind_is (negsuc k) f e =
    let h : k < 2147483648 = f.sfits in
    let s : SFits w32 (pos k) = record { sfits = h } in
    let b : backed (negsuc k) ≡ pos k = rw (to_z-of_z w32 (negsuc k) f) (less_is k) in
    record { far = k; is = refl; fits = rw b s; read = rw b (to_z-of_z w32 (pos k) s); small = h }

back_before : (k size : ℕ) → size < k
    → None ≡ resolved_of (negsuc k) size
unfolding resolve is_some or_else resolves position
back_before k size h = rw (lt-leb k size h)

back_inside : (k size : ℕ) → k ≤ size
    → Some (size - k) ≡ resolved_of (negsuc k) size
unfolding resolve is_some or_else resolves position
back_inside k size h = rw (le-leb k size h)

module _ (z : ℤ) (size : ℕ) (f : SFits w32 z) where
  -- not negative
  module _ (e : le_z (pos 0) (to_z w32 (of_z w32 z)) ≡ true) where
    pub resolved_fits : T (non_neg (to_z w32 (of_z w32 z))) × Fits w64 (nat_abs (to_z w32 (of_z w32 z)))
    resolved_fits = rw (to_z-of_z w32 z f) (above-fits z f (rw (to_z-of_z w32 z f) at e))

    pub resolved-above :
        Some (nat_abs (to_z w32 (of_z w32 z))) ≡ resolved_of z size
    resolved-above = rw (to_z-of_z w32 z f) (above_is z size (rw (to_z-of_z w32 z f) at e))

  -- negative
  module _ (e : le_z (pos 0) (to_z w32 (of_z w32 z)) ≡ false) where
    pub behind : Behind z
    behind = behind_is z f (rw (to_z-of_z w32 z f) at e)

    pub behind_fits : T (non_neg (to_z w32 (of_z w32 (backed z)))) × Fits w64 (nat_abs (to_z w32 (of_z w32 (backed z))))
    behind_fits = rw behind.read (tt, record { fits = omega (arith, behind.small) })

    pub resolved-behind : (r : Option ℕ)
        → SomeIff r (nat_abs (to_z w32 (of_z w32 (backed z))) ≤ size) (size - nat_abs (to_z w32 (of_z w32 (backed z))))
        → r ≡ resolved_of z size
    resolved-behind None h =
        rw behind.is
        (back_before behind.far size (let n : behind.far ≤ size → ⊥ = rw behind.read at h in omega arith))
    resolved-behind (Some p) h =
        rw behind.is (let k : (behind.far ≤ size) × (p ≡ size - behind.far) = rw behind.read at h in
        ap (λ (n : ℕ). Some n) k.1 ∙ back_inside behind.far size k.0)

-- What it tells: whether the rules give a position, and which.
pub resolved-some : (z : ℤ) (size p : ℕ) → resolved_of z size ≡ Some p → (resolves z size ≡ true) × (position z size ≡ p)
unfolding resolves position is_some or_else
resolved-some z size p e = go (resolve z size) e
  where
    go : (w : maybe.Option ℕ) → cond (is_some w) (Some (or_else w 0)) None ≡ Some p → (is_some w ≡ true) × (or_else w 0 ≡ p)
    go none h = cc
    go (some n) h = (refl, cc)

pub resolved-none : (z : ℤ) (size : ℕ) → resolved_of z size ≡ None → resolves z size ≡ false
unfolding resolves position is_some or_else
resolved-none z size e = go (resolve z size) e
  where
    go : (w : maybe.Option ℕ) → cond (is_some w) (Some (or_else w 0)) None ≡ None → is_some w ≡ false
    go none h = refl
    go (some n) h = cc

pub resolved-else : (z : ℤ) (size : ℕ) → unwrap_or (resolved_of z size) 0 ≡ position z size
unfolding resolves position is_some or_else
resolved-else z size = go (resolve z size)
  where
    go : (w : maybe.Option ℕ) → unwrap_or (cond (is_some w) (Some (or_else w 0)) None) 0 ≡ or_else w 0
    go none = refl
    go (some n) = refl

-- ---- how large a number of n bytes is: 2^16 and 2^32 are bounds of their fields, and no limits
pub specimen_below : (p : ℕ) (q : List ℕ) → Octets q → entry_specimen p q < 65536
unfolding entry_specimen
specimen_below p q h = number_at-below 2 (p + (padding_at + 1)) q h

pub count_below : (p : ℕ) (q : List ℕ) → Octets q → entry_count p q < 4294967296
unfolding entry_count
count_below p q h = number_at-below 4 (p + 4) q h

-- ---- an entry, as the code has read it
pub entry_made : (p stride : ℕ) (q : List ℕ) (z : ℤ) (n : ℕ) → SFits w32 z → z ≡ signed (number_at 4 p q) → n
    ≡ number_at 4 (p + 4) q
    → ◌≡◌ {A = Entry} (record { offset = to_z w32 (of_z w32 z); count = n; next = record { at = p + stride } })
    (entry_at p stride q)
unfolding entry_offset entry_count
entry_made p stride q z n f e k = rw (to_z-of_z w32 z f, e, k)

-- ---- an entry's offset, as the code hands it on, and what it is resolved to
offset_fits : (p : ℕ) (q : List ℕ) → Octets q → SFits w32 (entry_offset p q)
unfolding entry_offset
offset_fits p q h = to_z-Fits w32 (number_at 4 p q) (record { fits = number_at-below 4 p q h })

entry_is : (p : ℕ) (q : List ℕ) (z : ℤ) → Octets q → z ≡ entry_offset p q → to_z w32 (of_z w32 z) ≡ entry_offset p q
entry_is p q z h e = ap (λ (y : ℤ). to_z w32 (of_z w32 y)) e ∙ to_z-of_z w32 (entry_offset p q) (offset_fits p q h)

pub entry_resolved : (p : ℕ) (q : List ℕ) (size : ℕ) (z : ℤ) (r : Option ℕ) → Octets q → z ≡ entry_offset p q
    → r ≡ resolved_of (to_z w32 (of_z w32 z)) size → r ≡ resolved_of (entry_offset p q) size
entry_resolved p q size z r h e g = g ∙ ap (λ (y : ℤ). resolved_of y size) (entry_is p q z h e)

pub entry_placed : (p : ℕ) (q : List ℕ) (size : ℕ) (z : ℤ) (r : ℕ) → Octets q → z ≡ entry_offset p q
    → r ≡ position (to_z w32 (of_z w32 z)) size → r ≡ position (entry_offset p q) size
entry_placed p q size z r h e g = g ∙ ap (λ (y : ℤ). position y size) (entry_is p q z h e)

-- ---- how far an offset reaches: no further than the size, or than the largest offset
position_most : (u size m : ℕ) → size ≤ m → 2147483647 ≤ m → position (signed u) size ≤ m
unfolding position resolve or_else
position_most u size m h l = go (ltb u (2 ^ hbits w32)) refl
  where
    back : (k : ℕ) (t : Bool) → or_else (cond t (some (size - k)) none) 0 ≤ m
    back k true = omega arith
    back k false = omega arith

    go : (t : Bool) → ltb u (2 ^ hbits w32) ≡ t
        → or_else (resolve (sel t (pos u) (negsuc (2 ^ bits w32 - suc u))) size) 0 ≤ m
    go true e = omega (arith, ltb-true u (2 ^ hbits w32) e)
    go false e = back (2 ^ bits w32 - suc u) (leb (2 ^ bits w32 - suc u) size)

pub entry_most : (p : ℕ) (q : List ℕ) (size m : ℕ) → size ≤ m → 2147483647 ≤ m → position (entry_offset p q) size ≤ m
unfolding entry_offset
entry_most p q size m h l = position_most (number_at 4 p q) size m h l

-- ---- bytes from a cursor on
pub bytes-length : (q : List ℕ) (k : Cursor) (n : ℕ) → BytesIn q k n → length (bytes_from k n q) ≡ n
bytes-length q k n h = length-take-le n (drop k.at q) (rw length-drop (omega (arith, h)))

pub body_in : (q : List ℕ) (k : Cursor) (n : ℕ) (b : Body) → b ≡ body_at k.at n → BytesIn q k n
    → (b.from ≤ b.to) × (b.to ≤ length q)
body_in q k n b e h = rw e (omega arith, omega (arith, h))

pub body_is : (q : List ℕ) (k : Cursor) (n : ℕ) (b : Body) → b ≡ body_at k.at n → body_of b q ≡ bytes_from k n q
body_is q k n b e = let m : k.at + n - k.at ≡ n = omega arith in rw (e, m)
