-- A test-and-write judged group by group, and what a verdict of 0 leaves room for. Assumes nothing.
use mathlib.Core.Path.{◌≡◌, refl, sym, ap, ◌∙◌}
use mathlib.Core.Bool.{Bool, true, false, not, ◌&&◌}
use mathlib.Core.List.{List, [], ◌∷◌, ◌++◌, map}
use mathlib.Core.Option.{Option, none, some}
use Prim.Native.Nat.{ℕ, zero, suc, ◌+◌, ◌≤◌, ◌<◌}
use native.Mathlib.Omega.{arith}
use lib.Dec.{eqb, ltb}
use lib.ListN.{length, take, drop, length-take}
use Rattle.format.specs.declared.layout.Frame.{Frame}
use Rattle.requests.specs.declared.forms.Parted.{Parted}
use Rattle.std.specs.Prelude.{Result, Ok, Err, Some, None}
use Rattle.std.proofs.lemmas.Option.{cond_some, none-some}
use Rattle.octets.proofs.ListLaws.{by_refuting}
use Rattle.writes.specs.Sizes.{reached_by}
use Rattle.rules.specs.declared.outcomes.Refusal.{Refusal}
use Rattle.rules.specs.declared.outcomes.Refusal.TheVariants.{BeforeStart, WrongEnabler, ShortReply, NoRoom}
use Rattle.verdicts.specs.declared.writing.Due.{Due}
use Rattle.verdicts.specs.declared.writing.Verdict.{Verdict}
use Rattle.verdicts.specs.declared.writing.Verdict.TheVariants.{TestFalse, Accepted}
use Rattle.verdicts.specs.Writing.{Decided, Tells, due_of, lengths_of, verdict_of}
use Rattle.format.specs.Judging.{Known}
use Rattle.rules.specs.Requests.{Request, Write, writes_from, entry_count, entry_offset, entry_size, sum_from}
use Rattle.octets.specs.Rows.{first_row, row}
use borrow.Author.Tests.{lt-ltb, le-ltb}
use Rattle.rules.specs.Outcomes.{after, reply_to, rows, admit_rows}
use Rattle.rules.specs.Outcomes.{with_bytes, find_rows, room_rows}
use Rattle.requests.specs.Forms.{cut_in, PartedIn, write_in, tests_in, writes_in}
use Rattle.rules.specs.Sizes.{cut_size, final_size, size_all}
use Rattle.format.specs.Layout.{data_at, secret_size, data_of, used_length, enabler_of, moved_count}
use Rattle.octets.specs.Lists.{every}
use Rattle.rules.specs.Writing.{grow, rewritten, placed, writes_resolve}
use Rattle.format.specs.Parts.{parts_of, used, Parts}
use Rattle.replies.specs.Pieces.{pieces_in, resolve_from, measured_of}
use Rattle.writes.specs.Rewrite.{Final}
use Rattle.rules.specs.Testing.{resolves, test_piece, holds, position, reply_of}
use Rattle.format.proofs.KnownLaws.{frame_count, frame_extras, data_framed, lent, data_lent_lem}
use Rattle.rules.proofs.Kept.{after_valid, used-rewritten}
use Rattle.rules.proofs.WriteLaws.{length-cut_to, length-write_all}
use Rattle.octets.specs.Strings.{same}
use Rattle.replies.proofs.PieceLaws.{test_pieces, test_resolve}
use Rattle.requests.specs.Cursors.{bytes_from}
use Rattle.format.proofs.RoundTrip.{parts_valid}
use Rattle.requests.proofs.CursorLaws.{entry_most}
use Rattle.writes.proofs.TableLaws.{grow_most}
use Rattle.writes.specs.Sizes.{reached_by}

-- ---- the size that the writes reach
reach_bound : (n p b : ℕ) (q : List ℕ) (size m : ℕ) → size ≤ m + b → 2147483647 ≤ m
    → b + sum_from (λ i. entry_count i q) entry_size n p ≤ length q
    → size_all (placed (writes_from n p b q) size) size ≤ m + length q
unfolding size_all placed writes_from sum_from
reach_bound zero p b q size m h l i = omega arith
reach_bound (suc n) p b q size m h l i =
    let k : ℕ = length (take (entry_count p q) (drop b q)) in
    let at : ℕ = position (entry_offset p q) size in
    let short : k ≤ entry_count p q = simp length-take (omega arith) in
    let on : grow size at k ≤ m + b + k = grow_most size at k (m + b) h (entry_most p q size (m + b) h (omega arith)) in
    reach_bound n (p + entry_size) (b + entry_count p q) q (grow size at k) m (omega arith) l (omega arith)

cut_bound : (cut : Option ℕ) (n : ℕ) → cut_size cut n ≤ n
unfolding cut_size
cut_bound none n = omega arith
cut_bound (some m) n = omega arith

-- ---- the lengths after the cut
length-rewritten : (ws : List Write) (cut : Option ℕ) (d : List ℕ)
    → length (rewritten ws cut d) ≡ final_size ws cut (length d)
unfolding rewritten final_size
length-rewritten ws cut d = length-cut_to cut _ ∙ rw length-write_all

after_size : (p : Parts) (q : List ℕ) (t : Parted)
    → length (after p (write_in t q)).bytes ≡ final_size (writes_in t q) (cut_in t.cut) (length p.bytes)
unfolding after with_bytes
after_size p q t = length-rewritten (writes_in t q) (cut_in t.cut) p.bytes

bytes_after : (c q : List ℕ) (t : Parted)
    → length (rewritten (writes_in t q) (cut_in t.cut) (parts_of c).bytes)
    ≡ length (after (parts_of c) (write_in t q)).bytes
unfolding after with_bytes
bytes_after c q t = refl

after-used : (c q : List ℕ) (f : Frame) (t : Parted) (s : ℕ) → Known c f
    → length (after (parts_of c) (write_in t q)).bytes ≡ s
    → used (after (parts_of c) (write_in t q)) ≡ used_length (moved_count f.offset s) f.extras
unfolding after
after-used c q f t s k e =
    used-rewritten c (rewritten (writes_in t q) (cut_in t.cut) (parts_of c).bytes) k.formed
    ∙ rw (← frame_count k, ← frame_extras k) (ap (λ (n : ℕ). used_length (moved_count f.offset n) f.extras)
    (bytes_after c q t ∙ e))

-- ---- the verdict by what the code finds
-- No row behind the fourth has its number.
not_four : (a b d e : Bool) → eqb (first_row (row 5 a ∷ row 7 b ∷ row 8 d ∷ row 11 e ∷ [])) 4 ≡ false
unfolding first_row
not_four true b d e = refl
not_four false true d e = refl
not_four false false true e = refl
not_four false false false true = refl
not_four false false false false = refl

-- d is the data as the code takes it.
pub record Judging (c q d : List ℕ) (f : Frame) (t : Parted) : Type 0 where
  pub known : Known c f
  pub parted : PartedIn q t
  pub bytes : d ≡ data_of c

pub judging : {c q : List ℕ} {f : Frame} {t : Parted} {to : ℕ} → Known c f × PartedIn q t → to ≡ data_at + f.size
    → Judging c q (lent c to) f t
judging h e = record { known = h.0; parted = h.1; bytes = data_lent_lem h.0 e }

module _ {c q d : List ℕ} {f : Frame} {t : Parted} (J : Judging c q d f t) where
  abbrev asks : Request
  asks = write_in t q

  -- The size that the writes reach, and the final size.
  abbrev pub reached : ℕ
  reached = size_all (placed (writes_in t q) f.size) f.size

  abbrev final : ℕ
  final = cut_size (cut_in t.cut) reached

  final_is : length (after (parts_of c) asks).bytes ≡ final
  unfolding final_size parts_of
  final_is = after_size (parts_of c) q t ∙ rw (data_framed J.known)

  pieces_are : pieces_in t.tests q d ≡ map (test_piece (data_of c)) (tests_in t q)
  pieces_are =
      rw (J.bytes, J.parted.tests_stride)
      (sym (test_pieces t.tests.count t.tests.first.at t.specimens.at q (data_of c)))

  abbrev reply : ℕ
  reply = length (reply_of (pieces_in t.tests q d))

  reply_is : length (reply_to (parts_of c) asks) ≡ reply
  unfolding reply_to parts_of
  reply_is = rw pieces_are

  used-after : used (after (parts_of c) asks) ≡ used_length (moved_count f.offset final) f.extras
  used-after = after-used c q f t final J.known final_is

  -- Whether every offset of the tests resolves, and every offset of the writes.
  abbrev tests_resolve : Bool
  tests_resolve = resolve_from t.tests.stride t.tests.count t.tests.first.at q (length d)

  abbrev writes_do : Bool
  writes_do = writes_resolve (writes_in t q) f.size

  resolves_are : (every (λ u. resolves u.offset (length (data_of c))) (tests_in t q)
      && writes_resolve (writes_in t q) (length (data_of c))) ≡ (tests_resolve && writes_do)
  resolves_are =
      rw (J.bytes, J.parted.tests_stride, data_framed J.known)
      (ap (λ (b : Bool). b && writes_resolve (writes_in t q) f.size)
      (test_resolve t.tests.count t.tests.first.at t.specimens.at q f.size))

  abbrev enables : Bool
  enables = same (bytes_from t.enabler secret_size q) (enabler_of c)

  -- A reply of m bytes, a final size of s bytes, and a reply space of n bytes.
  module _ (m s n : ℕ) (i : reply ≡ m) (j : final ≡ s) where
    judged_is : verdict_of (parts_of c) asks n ≡ record {
      number = first_row (row 4 (not (tests_resolve && writes_do)) ∷ row 5 (not enables) ∷ row 7 (ltb n m)
          ∷ row 8 (not (every (holds d) (tests_in t q)))
          ∷ row 11 (ltb (length c) (used_length (moved_count f.offset s) f.extras)) ∷ []);
      reply = m;
      size = s;
    }
    unfolding verdict_of rows admit_rows find_rows room_rows parts_of
    judged_is = rw (resolves_are, reply_is, used-after, final_is, i, j, J.bytes)

  -- The ways out, in the order of the rows, beside a reply space of n bytes.
  module _ (n : ℕ) where
    abbrev Told : Result Verdict Refusal → Type 0
    Told v = Tells v (verdict_of (parts_of c) asks n)

    pub both_are : (m r s : ℕ) → m ≡ reply → r ≡ reached → s ≡ cut_size (cut_in t.cut) r
        → ◌≡◌ {A = Due} (record { reply = m; size = s }) (lengths_of (verdict_of (parts_of c) asks n))
    both_are m r s i k z =
        sym (ap lengths_of (judged_is m s n (sym i) (ap (cut_size (cut_in t.cut)) (sym k) ∙ sym z)))

    pub undue_tests : measured_of t.tests q d ≡ None → due_of (verdict_of (parts_of c) asks n) ≡ None
    unfolding first_row
    undue_tests w =
        let y : tests_resolve ≡ false = by_refuting tests_resolve (λ h. none-some reply (sym w ∙ rw h)) in
        rw (judged_is _ _ n refl refl, y) refl

    pub unmeasured : measured_of t.tests q d ≡ None → Told (Err BeforeStart)
    unfolding first_row
    unmeasured w =
        let y : tests_resolve ≡ false = by_refuting tests_resolve (λ h. none-some reply (sym w ∙ rw h)) in
        rw (judged_is _ _ n refl refl, y) (record { number = refl; lengths = tt })

    -- The tests ask for m bytes, and the writes reach the size r.
    module _ {m : ℕ} (w : measured_of t.tests q d ≡ Some m) where
      pub unreached : reached_by (writes_in t q) f.size ≡ None → Told (Err BeforeStart)
      unfolding first_row
      unreached x =
          let y : writes_do ≡ false = by_refuting writes_do (λ h. none-some reached (sym x ∙ rw h)) in
          rw (judged_is _ _ n refl refl, (cond_some tests_resolve reply m w).0, y)
          (record { number = refl; lengths = tt })

      pub undue_writes : reached_by (writes_in t q) f.size ≡ None → due_of (verdict_of (parts_of c) asks n) ≡ None
      unfolding first_row
      undue_writes x =
          let y : writes_do ≡ false = by_refuting writes_do (λ h. none-some reached (sym x ∙ rw h)) in
          rw (judged_is _ _ n refl refl, (cond_some tests_resolve reply m w).0, y) refl

      module _ {r : ℕ} (x : reached_by (writes_in t q) f.size ≡ Some r) where
        found : (s : ℕ) → s ≡ cut_size (cut_in t.cut) r → verdict_of (parts_of c) asks n ≡ record {
          number = first_row (row 5 (not enables) ∷ row 7 (ltb n m) ∷ row 8 (not (every (holds d) (tests_in t q)))
              ∷ row 11 (ltb (length c) (used_length (moved_count f.offset s) f.extras)) ∷ []);
          reply = m;
          size = s;
        }
        unfolding first_row
        found s z =
            let i = cond_some tests_resolve reply m w in
            let j = cond_some writes_do reached r x in
            judged_is m s n i.1 (ap (cut_size (cut_in t.cut)) j.1 ∙ sym z) ∙ rw (i.0, j.0)

        pub final_small : (s : ℕ) → s ≡ cut_size (cut_in t.cut) r → (s ≤ r) × (r ≤ 2147483647 + f.size + length q)
        final_small s z =
            let j = cond_some writes_do reached r x in
            let b = reach_bound t.writes.count t.writes.first.at t.bodies.at q f.size (2147483647 + f.size)
            (omega arith) (omega arith) J.parted.bodies in
            (omega (arith, cut_bound (cut_in t.cut) r), omega arith)

        pub due_found : (s : ℕ) → s ≡ cut_size (cut_in t.cut) r
            → due_of (verdict_of (parts_of c) asks n) ≡ Some (record { reply = m; size = s })
        due_found s z = rw (found s z, not_four (not enables) (ltb n m) (not (every (holds d) (tests_in t q))) _) refl

        pub wrong_enabler : enables ≡ false → Told (Err WrongEnabler)
        unfolding first_row
        wrong_enabler e = rw (found _ refl, e) (record { number = refl; lengths = tt })

        module _ (e : enables ≡ true) where
          pub short_reply : n < m → Told (Err ShortReply)
          unfolding first_row
          short_reply l = rw (found _ refl, e, lt-ltb n m l) (record { number = refl; lengths = tt })

          module _ (l : m ≤ n) where
            pub test_false : every (holds d) (tests_in t q) ≡ false → Told (Ok (TestFalse m))
            unfolding first_row
            test_false h = rw (found _ refl, e, le-ltb n m l, h) (record { number = refl; lengths = refl })

            module _ (h : every (holds d) (tests_in t q) ≡ true) (s : ℕ) (z : s ≡ cut_size (cut_in t.cut) r) where
              pub no_room : length c < used_length (moved_count f.offset s) f.extras → Told (Err NoRoom)
              unfolding first_row
              no_room k =
                  rw (found s z, e, le-ltb n m l, h, lt-ltb _ _ k) (record { number = refl; lengths = tt })

              pub accepted : used_length (moved_count f.offset s) f.extras ≤ length c
                  → Told (Ok (Accepted record { reply = m; size = s }))
              unfolding first_row
              accepted k =
                  rw (found s z, e, le-ltb n m l, h, le-ltb _ _ k) (record { number = refl; lengths = (refl, refl) })

-- ---- a request that is accepted
module _ {c q : List ℕ} {f : Frame} {t : Parted} {v : Due} (D : Decided c q f t v) where
  number_decided : first_row (rows (parts_of c) (write_in t q) D.space ++ room_rows (parts_of c) (write_in t q)) ≡ 0
  unfolding verdict_of
  number_decided = D.number

  size_decided : v.size ≡ length (after (parts_of c) (write_in t q)).bytes
  unfolding verdict_of
  size_decided = D.size

  used_decided : used (after (parts_of c) (write_in t q)) ≡ used_length (moved_count f.offset v.size) f.extras
  used_decided = after-used c q f t v.size D.known (sym size_decided)

  fits_decided : used (after (parts_of c) (write_in t q)) ≤ length c
  unfolding after with_bytes parts_of
  fits_decided =
      (after_valid (parts_of c) (write_in t q) D.space (parts_valid c D.known.formed) tt number_decided).fits

  -- There is room for the final size.
  pub room : Final q t f v.size (length c)
  unfolding parts_of
  room = record {
    size = size_decided ∙ after_size (parts_of c) q t ∙ rw (data_framed D.known);
    fits = rw used_decided at fits_decided;
  }
