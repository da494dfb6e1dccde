-- What is claimed of offsets: when row 4 applies, where writes are made, and what an append leaves. Assumes nothing.
use mathlib.Core.Path.{◌≡◌, refl, sym, ap, ap₂, ◌∙◌}
use mathlib.Core.Bool.{Bool, true, false, cond, not, true≢false, ◌&&◌}
use mathlib.Core.List.{List, [], ◌∷◌, ◌++◌, map, append-nil, append_assoc}
use mathlib.Core.Option.{Option, none, some}
use mathlib.Core.Logic.{◌↔◌}
use Prim.Native.Nat.{ℕ}
use native.Mathlib.Omega.{arith}
use lib.ListN.{length}
use lib.IntN.{ℤ, negsuc}
use borrow.Author.Tests.{not-false}
use Rattle.octets.specs.Facts.{Each}
use Rattle.octets.specs.Lists.{is_some, or_else, every, maybe}
use Rattle.octets.specs.Rows.{Row, row, first_row}
use Rattle.octets.specs.Strings.{join}
use Rattle.octets.proofs.ListLaws.{both, every_append, every_map}
use Rattle.octets.proofs.RowLaws.{clear}
use Rattle.format.specs.Container.{well_formed}
use Rattle.format.specs.Layout.{data_of}
use Rattle.format.specs.Parts.{Parts, parts_of}
use Rattle.format.proofs.RoundTrip.{parts_encode}
use Rattle.rules.specs.Requests.{Test, Write, Request, test_write, add, renew, cancel, read, request_of}
use Rattle.rules.specs.Testing.{resolve, resolves, position}
use Rattle.rules.specs.Writing.{Placed, grow, placed, writes_resolve, write_all, cut_to, rewritten}
use Rattle.rules.specs.Outcomes.{with_bytes, after, after_of, rows, admit_rows, find_rows, room_rows, request_rows}
use Rattle.rules.specs.Outcomes.{outcome, answered, container_after}
use Rattle.rules.specs.Offsets.{write_positions, positions_of, OffsetsResolve}
use Rattle.rules.proofs.WriteLaws.{length-write}
use Rattle.rules.proofs.OffsetLaws.{some_is, end-position, write-end}
use Rattle.rules.proofs.OutcomeLaws.{outcome_formed, answered-number}
use Rattle.rules.proofs.ReplyLaws.{done-replies}
use Rattle.rules.proofs.Demand1.{replied_formed, done_valid, done_container}

-- ---- row 4 is that some position is missing
pub positions_resolve : (ws : List Write) (n : ℕ) → every is_some (write_positions ws n) ≡ writes_resolve ws n
unfolding every write_positions writes_resolve resolves
positions_resolve [] n = refl
positions_resolve (w ∷ ws) n =
    ap (λ (b : Bool). resolves w.offset n && b)
    (positions_resolve ws (grow n (position w.offset n) (length w.bytes)))

tests-resolve : (k : List ℕ) (ts : List Test) (ws : List Write) (cut : Option ℕ) (n : ℕ) →
    every is_some (positions_of (some (test_write k ts ws cut)) n)
    ≡ (every (λ t. resolves t.offset n) ts && writes_resolve ws n)
unfolding positions_of resolves
tests-resolve k ts ws cut n =
    every_append is_some (map (λ t. resolve t.offset n) ts) (write_positions ws n)
    ∙ ap₂ ◌&&◌ (every_map is_some (λ (t : Test). resolve t.offset n) ts) (positions_resolve ws n)

not_four : (rs : List Row) → Each (λ r. r.number ≡ 4 → ⊥) rs → first_row rs ≡ 4 → ⊥
unfolding first_row
not_four [] h e = omega arith
not_four (r ∷ rs) h e = go r.applies e (not_four rs h.1)
  where
    go : (b : Bool) → cond b r.number (first_row rs) ≡ 4 → (first_row rs ≡ 4 → ⊥) → ⊥
    go true f ih = h.0 f
    go false f ih = ih f

four_first : (a : Bool) (rs : List Row) → Each (λ r. r.number ≡ 4 → ⊥) rs →
    (first_row (row 4 (not a) ∷ rs) ≡ 4) ↔ (a ≡ false)
unfolding first_row
four_first true rs h = ((λ e. absurd (not_four rs h e)), (λ e. absurd (true≢false e)))
four_first false rs h = ((λ e. refl), (λ e. refl))

-- a request that names no position
no_fours : (rs : List Row) → Each (λ r. r.number ≡ 4 → ⊥) rs →
    (first_row rs ≡ 4) ↔ (every {A = Option ℕ} is_some [] ≡ false)
unfolding every
no_fours rs h = ((λ e. absurd (not_four rs h e)), (λ e. absurd (true≢false e)))

fours : (p : Parts) (r : Option Request) (n : ℕ) →
    (first_row (request_rows p r n) ≡ 4) ↔ (every is_some (positions_of r (length p.bytes)) ≡ false)
unfolding request_rows rows admit_rows find_rows room_rows positions_of resolves
fours p none n = no_fours _ ((λ e. omega arith), tt)
fours p (some (test_write k ts ws cut)) n =
    rw (tests-resolve k ts ws cut (length p.bytes))
    (four_first _ _ ((λ e. omega arith), ((λ e. omega arith), ((λ e. omega arith), ((λ e. omega arith), tt)))))
fours p (some (add r)) n = no_fours _ ((λ e. omega arith), ((λ e. omega arith), tt))
fours p (some (renew t x)) n = no_fours _ ((λ e. omega arith), tt)
fours p (some (cancel t)) n = no_fours _ ((λ e. omega arith), tt)
fours p (some (read rs)) n =
    rw (every_map is_some (λ r. resolve r.offset (length p.bytes)) rs)
    (four_first _ _ ((λ e. omega arith), tt))

-- ---- writes stand where their offsets point
position_is : (o : ℤ) (n : ℕ) → resolves o n ≡ true → some (position o n) ≡ resolve o n
unfolding resolves position is_some or_else
position_is o n = go (resolve o n)
  where
    go : (x : Option ℕ) → is_some x ≡ true → some (or_else x 0) ≡ x
    go (some p) e = refl
    go none e = absurd (true≢false (sym e))

placed_positions : (ws : List Write) (n : ℕ) → writes_resolve ws n ≡ true →
    map (λ w. some w.at) (placed ws n) ≡ write_positions ws n
unfolding writes_resolve placed write_positions
placed_positions [] n e = refl
placed_positions (w ∷ ws) n e =
    let b = both (resolves w.offset n) _ e in
    ap₂ ◌∷◌ (position_is w.offset n b.0) (placed_positions ws _ b.1)

-- places and bytes determine writes
same-placed : (ps qs : List Placed) → map (λ p. some p.at) ps ≡ map (λ p. some p.at) qs →
    map (λ p. p.bytes) ps ≡ map (λ p. p.bytes) qs → ps ≡ qs
same-placed [] [] e f = refl
same-placed [] (q ∷ qs) e f = absurd (let z : ◌≡◌ {A = ℕ} 0 1 = cc in omega arith)
same-placed (p ∷ ps) [] e f = absurd (let z : ◌≡◌ {A = ℕ} 0 1 = cc in omega arith)
same-placed (p ∷ ps) (q ∷ qs) e f =
    let a : some p.at ≡ some q.at = cc in
    let b : p.bytes ≡ q.bytes = cc in
    let g : map (λ x. some x.at) ps ≡ map (λ x. some x.at) qs = cc in
    let h : map (λ x. x.bytes) ps ≡ map (λ x. x.bytes) qs = cc in
    let at : p.at ≡ q.at = some_is p.at q.at a in
    ap₂ ◌∷◌ (λ i. record { at = at i; bytes = b i }) (same-placed ps qs g h)

placed-bytes : (ws : List Write) (n : ℕ) → map (λ p. p.bytes) (placed ws n) ≡ map (λ w. w.bytes) ws
unfolding placed
placed-bytes [] n = refl
placed-bytes (w ∷ ws) n = ap (λ (l : List (List ℕ)). w.bytes ∷ l) (placed-bytes ws _)

-- ---- writes at the end
write-ends : (ws : List Write) (d : List ℕ) → Each (λ w. w.offset ≡ negsuc 0) ws →
    write_all (placed ws (length d)) d ≡ d ++ join (map (λ w. w.bytes) ws)
unfolding placed write_all join
write-ends [] d h = sym (append-nil d)
write-ends (w ∷ ws) d h =
    let a : position w.offset (length d) ≡ length d = rw h.0 (end-position (length d)) in
    let s : grow (length d) (length d) (length w.bytes) ≡ length (d ++ w.bytes) =
    sym (length-write d (length d) w.bytes) ∙ ap length (write-end d w.bytes) in
    rw (a, s, write-end d w.bytes)
    (write-ends ws (d ++ w.bytes) h.1 ∙ append_assoc d w.bytes (join (map (λ x. x.bytes) ws)))

module _ (c q r : List ℕ) where
  formed_fours : well_formed c ≡ true →
      ((answered c q r).number ≡ 4) ↔ (every is_some (positions_of (request_of q) (length (data_of c))) ≡ false)
  unfolding parts_of
  formed_fours w =
      let e : (answered c q r).number ≡ first_row (request_rows (parts_of c) (request_of q) (length r)) =
      answered-number c q r ∙ outcome_formed c q (length r) w in
      let f = fours (parts_of c) (request_of q) (length r) in
      ((λ a. f.0 (sym e ∙ a)), (λ a. e ∙ f.1 a))

  -- what is done has every write resolved
  module _ (k : List ℕ) (ts : List Test) (ws : List Write) (cut : Option ℕ)
      (f : request_of q ≡ some (test_write k ts ws cut)) (e : (answered c q r).number ≡ 0) where
    done : outcome c q (length r) ≡ 0
    done = sym (answered-number c q r) ∙ e

    done-resolves : writes_resolve ws (length (data_of c)) ≡ true
    unfolding request_rows rows admit_rows parts_of
    done-resolves =
        let w : well_formed c ≡ true = replied_formed c q (length r) (done-replies _ done) in
        let z = rw f at (sym (outcome_formed c q (length r) w) ∙ done) in
        let a = clear 4 _ _ (omega arith) z in
        (both (every (λ t. resolves t.offset (length (data_of c))) ts) (writes_resolve ws (length (data_of c)))
        (not-false _ a.0)).1

    done-bytes : data_of (container_after c q r) ≡ rewritten ws cut (data_of c)
    unfolding parts_of after_of maybe after with_bytes
    done-bytes =
        ap (λ (p : Parts). p.bytes) (ap parts_of (done_container c q r done) ∙ parts_encode _ (done_valid c q r done))
        ∙ rw f

-- OFFSETS
pub offsets_resolve : (c q r : List ℕ) → OffsetsResolve c q r
unfolding rewritten cut_to
offsets_resolve c q r = record {
  four = formed_fours c q r;
  alone = λ b s v w e.
      let x = formed_fours b q s v in
      let y = formed_fours c q r w in
      ((λ a. y.1 (rw e at (x.0 a))), (λ a. x.1 (rw e (y.0 a))));
  written = λ k ts ws cut f e ps g h.
      let n : ℕ = length (data_of c) in
      let p : ps ≡ placed ws n =
      same-placed ps (placed ws n) (g ∙ sym (placed_positions ws n (done-resolves c q r k ts ws cut f e)))
      (h ∙ sym (placed-bytes ws n)) in
      done-bytes c q r k ts ws cut f e ∙ ap (λ (l : List Placed). cut_to cut (write_all l (data_of c))) (sym p);
  appended = λ k ts ws f h e. done-bytes c q r k ts ws none f e ∙ write-ends ws (data_of c) h;
}
