-- Changes carried out on data, by length and by position, and what a request makes of the data. Assumes nothing.
use mathlib.Core.Path.{◌≡◌, refl, sym, ap, ◌∙◌}
use mathlib.Core.Bool.{Bool, true, false, cond, true≢false}
use mathlib.Core.List.{List, [], ◌∷◌, ◌++◌}
use mathlib.Core.Option.{Option, none, some}
use Prim.Native.Nat.{ℕ, ◌-◌, ◌<◌}
use lib.ListN.{length, get_or, take, length-take}
use lib.Seq.{get_or-take}
use lib.Dec.{leb}
use borrow.Author.Tests.{leb-true, leb-false}
use Rattle.rules.specs.Writing.{write_at, Placed, write_all, cut_to, rewritten, placed}
use Rattle.rules.specs.Changes.{covers, Change, wrote, cut_at, size_by, size_after, says, cut_change, write_changes}
use Rattle.rules.specs.Changes.{writes_at, changes_of}
use Rattle.rules.proofs.WriteLaws.{length-write, at_write, over, over_all, at_write_all, at_cut_to}
use Rattle.octets.specs.Lists.{any_of, or_else, maybe}
use Rattle.octets.specs.Last.{last_said}
use Rattle.rules.specs.Outcomes.{after_of, after, with_bytes, with_leases}
use Rattle.octets.proofs.ListLaws.{or_else-newer, at_take_past}
use Rattle.rules.specs.Requests.{test_write, add, renew, cancel, read, Request}
use Rattle.format.specs.Parts.{Parts}

unfoldable pub perform : Change → List ℕ → List ℕ
perform (wrote off bs) d = write_at d off bs
perform (cut_at m) d = take m d

unfoldable pub perform_all : List Change → List ℕ → List ℕ
perform_all [] d = d
perform_all (o ∷ os) d = perform_all os (perform o d)

pub length-perform : (o : Change) (d : List ℕ) → length (perform o d) ≡ size_by o (length d)
unfolding perform size_by
length-perform (wrote off bs) d = length-write d off bs
length-perform (cut_at m) d = length-take m d

pub length-perform_all : (os : List Change) (d : List ℕ) → length (perform_all os d) ≡ size_after os (length d)
unfolding perform_all size_after
length-perform_all [] d = refl
length-perform_all (o ∷ os) d = length-perform_all os (perform o d) ∙ rw length-perform

-- neither of two
neither : (a b : Bool) → cond a true b ≡ false → (a ≡ false) × (b ≡ false)
neither true b e = absurd (true≢false e)
neither false b e = (refl, e)

said-cond : (b : Bool) (x v : ℕ) → or_else (cond b (some x) none) v ≡ cond b x v
unfolding or_else
said-cond true x v = refl
said-cond false x v = refl

at_perform : (o : Change) (d : List ℕ) (i : ℕ) → get_or (perform o d) i 0 ≡ or_else (says i o) (get_or d i 0)
unfolding perform says
at_perform (wrote off bs) d i = at_write d off bs i
    ∙ sym (said-cond (covers off (length bs) i) (get_or bs (i - off) 0) (get_or d i 0))
at_perform (cut_at m) d i = go (leb m i) refl ∙ sym (said-cond (leb m i) 0 (get_or d i 0))
  where
    go : (b : Bool) → leb m i ≡ b → get_or (take m d) i 0 ≡ cond (leb m i) 0 (get_or d i 0)
    go true e = rw e (at_take_past m d i (leb-true m i e))
    go false e = rw e (get_or-take m d i 0 (leb-false m i e))

pub at_perform_all : (os : List Change) (d : List ℕ) (i : ℕ) →
    get_or (perform_all os d) i 0 ≡ or_else (last_said (says i) os) (get_or d i 0)
unfolding perform_all last_said or_else
at_perform_all [] d i = refl
at_perform_all (o ∷ os) d i =
    at_perform_all os (perform o d) i ∙ ap (or_else (last_said (says i) os)) (at_perform o d i)
    ∙ sym (or_else-newer (says i o) (last_said (says i) os) (get_or d i 0))

pub perform_all-append : (a b : List Change) (d : List ℕ) → perform_all (a ++ b) d ≡ perform_all b (perform_all a d)
unfolding perform_all
perform_all-append [] b d = refl
perform_all-append (o ∷ os) b d = perform_all-append os b (perform o d)

-- a request's writes and its cut are its changes, performed
pub perform-changes : (ws : List Placed) (c : Option ℕ) (d : List ℕ) → cut_to c (write_all ws d)
    ≡ perform_all (write_changes ws (cut_change c)) d
unfolding perform_all write_changes cut_change write_all cut_to perform
perform-changes [] none d = refl
perform-changes [] (some n) d = refl
perform-changes (w ∷ ws) c d = perform-changes ws c (write_at d w.at w.bytes)

-- a position of the data afterwards that no write covers has its old byte
over-unwritten : (ws : List Placed) (os : List Change) (i v : ℕ) → any_of (writes_at i) (write_changes ws os) ≡ false
    → over_all ws i v ≡ v
unfolding any_of write_changes over_all over
over-unwritten [] os i v h = refl
over-unwritten (w ∷ ws) os i v h =
    let n = neither (covers w.at (length w.bytes) i) (any_of (writes_at i) (write_changes ws os)) h in
    rw n.0 (over-unwritten ws os i v n.1)

pub at_unwritten : (ws : List Placed) (c : Option ℕ) (d : List ℕ) (i : ℕ) → i < length (cut_to c (write_all ws d))
    → any_of (writes_at i) (write_changes ws (cut_change c)) ≡ false → get_or (cut_to c (write_all ws d)) i 0 ≡ get_or d i 0
at_unwritten ws c d i h u =
    at_cut_to c (write_all ws d) i h ∙ at_write_all ws d i ∙ over-unwritten ws (cut_change c) i (get_or d i 0) u

pub after-bytes : (p : Parts) (r : Option Request) → (after_of p r).bytes
    ≡ perform_all (changes_of r (length p.bytes)) p.bytes
unfolding after_of maybe after with_bytes with_leases changes_of perform_all rewritten
after-bytes p none = refl
after-bytes p (some (test_write k ts ws cut)) = perform-changes (placed ws (length p.bytes)) cut p.bytes
after-bytes p (some (add r)) = refl
after-bytes p (some (renew t x)) = refl
after-bytes p (some (cancel t)) = refl
after-bytes p (some (read rs)) = refl
