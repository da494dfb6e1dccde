-- Offsets in whole numbers, the positions that a request's offsets name, and what is claimed of them (docs/RULES.md,
-- T1, D10). Proved in proofs/OffsetLaws.antt and proofs/Offsets.antt.
use Rattle.std.specs.Prelude.{ℕ, ◌≡◌, true, false, List, [], ◌∷◌, ◌++◌, map, ◌↔◌, length, take, ℤ, pos, negsuc, ◌+ℤ◌, ◌≤ℤ◌, ◌<ℤ◌}
use Rattle.std.proofs.Math.Option.{Option, none, some}
use Rattle.octets.specs.Facts.{Each}
use Rattle.octets.specs.Lists.{is_some, every}
use Rattle.octets.specs.Strings.{join}
use Rattle.format.specs.Container.{well_formed}
use Rattle.format.specs.Layout.{data_of}
use Rattle.rules.specs.Requests.{Test, Write, Request, test_write, add, renew, cancel, read, request_of}
use Rattle.rules.specs.Testing.{resolve, position}
use Rattle.rules.specs.Writing.{grow, Placed, write_at, write_all, cut_to, rewritten}
use Rattle.rules.specs.Outcomes.{answered, container_after}

-- The whole number that an offset x stands for on data of size n: itself, or, where it is negative, n + 1 + x (T1).
unfoldable pub named : ℤ → ℕ → ℤ
named (pos p) n = pos p
named (negsuc k) n = pos n +ℤ pos 1 +ℤ negsuc k

-- It does not reach before byte 0 (T1).
abbrev pub NotBefore : ℤ → ℕ → Type 0
NotBefore o n = pos 0 ≤ℤ named o n

-- Of writes on data d, each on the data that the writes before it leave (T1).
abbrev pub WritesNotBefore : List Write → List ℕ → Type 0
WritesNotBefore ws d = (us : List Write) (w : Write) (vs : List Write) → ws ≡ us ++ (w ∷ vs) →
    NotBefore w.offset (length (rewritten us none d))

-- The positions that the offsets of writes name, in order, each on the size that the writes before it give (T1, W1).
unfoldable pub write_positions : List Write → ℕ → List (Option ℕ)
write_positions [] n = []
write_positions (w ∷ ws) n =
    resolve w.offset n ∷ write_positions ws (grow n (position w.offset n) (length w.bytes))

-- The positions that a request's offsets name on data of size n: those of its tests, then of its writes; those of its
-- reads (T1).
unfoldable pub positions_of : Option Request → ℕ → List (Option ℕ)
positions_of none n = []
positions_of (some (test_write k ts ws cut)) n = map (λ t. resolve t.offset n) ts ++ write_positions ws n
positions_of (some (add r)) n = []
positions_of (some (renew t x)) n = []
positions_of (some (cancel t)) n = []
positions_of (some (read rs)) n = map (λ r. resolve r.offset n) rs

-- Of every offset and size (D10).
pub record Resolving (o : ℤ) (n : ℕ) : Type 0 where
  -- an offset names the position p exactly when p is the whole number that it stands for
  pub names : (p : ℕ) → (resolve o n ≡ some p) ↔ (pos p ≡ named o n)
  -- and none exactly when that number is below 0
  pub before : (resolve o n ≡ none) ↔ (named o n <ℤ pos 0)

-- Of a write w behind others, us, on any data d: it meets the data that these leave (D10).
pub record NextWrite (us : List Write) (w : Write) (d : List ℕ) : Type 0 where
  -- no writes leave the data as it is
  pub none_before : rewritten [] none d ≡ d
  -- it is made there, at the position p that its offset names on the size that this data has
  pub made : (p : ℕ) → resolve w.offset (length (rewritten us none d)) ≡ some p →
      rewritten (us ++ (w ∷ [])) none d ≡ write_at (rewritten us none d) p w.bytes
  -- at -1 it is an append
  pub appended : w.offset ≡ negsuc 0 → rewritten (us ++ (w ∷ [])) none d ≡ rewritten us none d ++ w.bytes
  -- and a cut comes after it
  pub cut_last : (m : ℕ) → rewritten (us ++ (w ∷ [])) (some m) d ≡ take m (rewritten (us ++ (w ∷ [])) none d)

-- Of any bytes as container, request and reply space (D10).
pub record OffsetsResolve (c q r : List ℕ) : Type 0 where
  -- on a good container the outcome is 4 exactly when some offset names no position
  pub four : well_formed c ≡ true →
      ((answered c q r).number ≡ 4) ↔ (every is_some (positions_of (request_of q) (length (data_of c))) ≡ false)
  -- so it depends on request and data size alone: any good container with data of that size gives it, beside any space
  pub alone : (b s : List ℕ) → well_formed b ≡ true → well_formed c ≡ true → length (data_of b) ≡ length (data_of c) →
      ((answered b q s).number ≡ 4) ↔ ((answered c q r).number ≡ 4)
  -- a test-and-write that is done, so that each of its offsets names one, makes its writes, ps, at the positions that
  -- these name, and then its cut
  pub written : (k : List ℕ) (ts : List Test) (ws : List Write) (cut : Option ℕ) →
      request_of q ≡ some (test_write k ts ws cut) → (answered c q r).number ≡ 0 → (ps : List Placed) →
      map (λ w. some w.at) ps ≡ write_positions ws (length (data_of c)) →
      map (λ w. w.bytes) ps ≡ map (λ w. w.bytes) ws →
      data_of (container_after c q r) ≡ cut_to cut (write_all ps (data_of c))
  -- one that writes at -1 alone, and does not cut, leaves the data with the new bytes behind it, in order
  pub appended : (k : List ℕ) (ts : List Test) (ws : List Write) → request_of q ≡ some (test_write k ts ws none) →
      Each (λ w. w.offset ≡ negsuc 0) ws → (answered c q r).number ≡ 0 →
      data_of (container_after c q r) ≡ data_of c ++ join (map (λ w. w.bytes) ws)
