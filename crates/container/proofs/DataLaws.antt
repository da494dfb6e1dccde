-- What is lent lies inside the container and is its data. Assumes nothing.
use mathlib.Core.Path.{◌≡◌, refl, ap}
use mathlib.Core.Bool.{Bool, true, false, cond, not}
use mathlib.Core.List.{List, [], ◌∷◌}
use Prim.Native.Nat.{ℕ, ◌+◌, ◌-◌, ◌≤◌}
use native.Mathlib.Nat.{add_comm}
use native.Mathlib.Omega.{arith}
use lib.ListN.{length, take, drop}
use Rattle.format.specs.declared.layout.Frame.{Frame}
use Rattle.std.specs.Prelude.{Result, Ok, Err}
use Rattle.std.specs.Result.{result_unwrap_or}
use Rattle.container.specs.declared.data.Extent.{Extent}
use Rattle.format.specs.declared.judging.Flaw.{Flaw}
use Rattle.format.specs.declared.judging.Flaw.TheVariants.{BadLength, Malformed}
use Rattle.container.specs.Data.{Lent, beyond, lent_as, lent_of, data_lent}
use Rattle.format.specs.Container.{well_formed, length_allowed}
use Rattle.octets.specs.Rows.{first_row, row}
use Rattle.format.specs.Judging.{Judges}
use Rattle.format.specs.Layout.{data_at, data_of, extras_of, size_of, count_at}
use Rattle.format.proofs.RoundTrip.{data_field}
use Rattle.format.proofs.WellFormed.{data_length_lem, formed_facts, used_is}
use Rattle.rules.proofs.OutcomeLaws.{formed_length}
use Rattle.format.proofs.JudgingLaws.{judged_formed, judged-length, judged-malformed, length_unformed}
use Rattle.format.proofs.KnownLaws.{frame_size}

pub beyond_is : (p : ℕ × ℕ) (n : ℕ) → ◌≡◌ {A = ℕ × ℕ} (p.0, n + p.1) (beyond p n)
beyond_is p n = rw add_comm

-- For any bytes: what is lent stands in order inside them, and its bytes are the data.
pub record Lends (c : List ℕ) : Type 0 where
  pub rises : (lent_of c).from ≤ (lent_of c).to
  pub fits : (lent_of c).to ≤ length c
  pub ends : (lent_of c).from + length (data_lent c) ≡ (lent_of c).to
  pub bytes : take ((lent_of c).to - (lent_of c).from) (drop (lent_of c).from c) ≡ data_lent c

lends_formed : (c : List ℕ) → well_formed c ≡ true → Lends c
unfolding lent_of data_lent
lends_formed c e =
    let k : data_at + size_of c - data_at ≡ size_of c = omega arith in
    let f = (formed_facts c e).fields in
    let data-size : length (data_of c) ≡ size_of c = data_length_lem c e in
    record {
      rises = rw e (omega arith);
      fits = rw e (omega (arith, f, used_is (count_at c) (extras_of c)));
      ends = rw e (omega (arith, data-size));
      bytes = rw (e, k) (data_field c);
    }

lends_none : (c : List ℕ) → well_formed c ≡ false → Lends c
unfolding lent_of data_lent
lends_none c e =
    record { rises = rw e (omega arith); fits = rw e (omega arith); ends = rw e; bytes = rw e }

pub lends : (c : List ℕ) → Lends c
lends c = go (well_formed c) refl
  where
    go : (t : Bool) → well_formed c ≡ t → Lends c
    go true e = lends_formed c e
    go false e = lends_none c e

pub lent-inside : (c : List ℕ) (l : Lent) → l ≡ lent_of c → (l.from ≤ l.to) × (l.to ≤ length c)
lent-inside c l e = rw e ((lends c).rises, (lends c).fits)

pub lent-bytes : (c : List ℕ) (l : Lent) → l ≡ lent_of c → take (l.to - l.from) (drop l.from c) ≡ data_lent c
lent-bytes c l e = rw e (lends c).bytes

-- What `find_data` answers, or the empty stretch at the start: it lies inside, and is the data.
pub record Stretch (c : List ℕ) (r : Extent) : Type 0 where
  pub from : r.from ≡ (lent_of c).from
  pub rises : r.from ≤ r.to
  pub fits : r.to ≤ length c
  pub bytes : take (r.to - r.from) (drop r.from c) ≡ data_lent c

pub stretch : (c : List ℕ) (o : Result Extent Flaw) → lent_as o ≡ lent_of c → (r : Extent) →
    r ≡ result_unwrap_or o (record { from = 0; to = 0 }) → Stretch c r
stretch c o e r w = go r.from r.to (ap (λ (l : Lent). l.from) (as_lent o e w)) (ap (λ (l : Lent). l.to) (as_lent o e w))
  where
    as_lent : (o : Result Extent Flaw) → lent_as o ≡ lent_of c → r ≡ result_unwrap_or o (record { from = 0; to = 0 }) →
        ◌≡◌ {A = Lent} (record { number = (lent_as o).number; from = r.from; to = r.to }) (lent_of c)
    as_lent (Ok x) e w = rw w e
    as_lent (Err y) e w = rw w e

    go : (a b : ℕ) → a ≡ (lent_of c).from → b ≡ (lent_of c).to → Stretch c (record { from = a; to = b })
    go a b x y =
        let l = lends c in
        record {
          from = x;
          rises = rw (x, y) l.rises;
          fits = rw y l.fits;
          bytes = rw (x, y) l.bytes;
        }

-- The number is 0, 1 or 2.
pub lent-number : (c : List ℕ) (P : ℕ → Type 0) → P 0 → P 1 → P 2 → P (lent_of c).number
unfolding lent_of first_row
lent-number c P a b d = go (length_allowed c) (well_formed c)
  where
    go : (l w : Bool) → P (first_row (row 1 (not l) ∷ row 2 (not w) ∷ []))
    go true true = a
    go true false = d
    go false w = b

-- A container that is refused lends no data.
pub none_lent : (c : List ℕ) → ((lent_of c).number ≡ 0 → ⊥) → data_lent c ≡ []
unfolding lent_of first_row data_lent
none_lent c h = go (well_formed c) refl
  where
    go : (t : Bool) → well_formed c ≡ t → cond t (data_of c) [] ≡ []
    go true e = absurd (h (rw (formed_length c e, e)))
    go false e = refl

-- ---- the answers
pub lent-flawed : (c : List ℕ) (e : Flaw) → Judges c (Err e) → lent_as (Err e) ≡ lent_of c
unfolding lent_of first_row
lent-flawed c BadLength j = let l = judged-length c j in rw (l, length_unformed c l)
lent-flawed c Malformed j = let m = judged-malformed c j in rw (m.0, m.1)

pub lent_formed : (c : List ℕ) (f : Frame) (e : ℕ) → Judges c (Ok f) → e ≡ data_at + f.size
    → lent_as (Ok (record { from = data_at; to = e })) ≡ lent_of c
unfolding lent_of first_row
lent_formed c f e j k =
    let h = judged_formed c f j in
    rw (formed_length c h.formed, h.formed, k, frame_size h)
