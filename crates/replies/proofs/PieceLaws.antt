-- The pieces that tables ask for, turns of the walks over a table, and the reply. Assumes nothing.
use mathlib.Core.Path.{◌≡◌, refl, sym, ap, ◌∙◌}
use mathlib.Core.Bool.{Bool, true, false, cond, ◌&&◌}
use mathlib.Core.List.{List, [], ◌∷◌, ◌++◌, map}
use Prim.Native.Nat.{ℕ, zero, suc, ◌+◌, ◌*◌, ◌-◌, ◌≤◌, ◌<◌}
use native.Mathlib.Nat.{mul-suc}
use native.Mathlib.Omega.{arith}
use mir.Syntax.{w32}
use mir.Val.{to_z, of_z}
use lib.ListN.{length, take, drop, length-append, length-take, length-drop}
use Rattle.octets.specs.Lists.{every}
use Rattle.octets.specs.Moves.{put}
use Rattle.octets.specs.Numbers.{digits}
use Rattle.octets.specs.Strings.{order, join}
use Rattle.octets.specs.Facts.{Octets}
use Rattle.octets.proofs.MoveLaws.{put-put, put-end, put_apart, put-length}
use Rattle.octets.proofs.NumberLaws.{length_digits}
use Rattle.format.specs.Layout.{limit}
use Rattle.rules.specs.Requests.{entry_size, test_size, entry_offset, entry_count, entry_opcode, entry_specimen, all_from}
use Rattle.rules.specs.Requests.{sum_from, tests_from, reads_from, entry_limit}
use Rattle.rules.specs.Testing.{resolves, position, piece, test_piece, read_piece, decides, holds, reply_of}
use Rattle.rules.specs.Testing.{length_size}
use Rattle.requests.specs.Cursors.{entry_at, test_at, body_of, body_at}
use Rattle.requests.specs.Forms.{TableIn}
use Rattle.requests.specs.Offsets.{resolved_of}
use Rattle.requests.proofs.CursorLaws.{entry_resolved, entry_placed, resolved-some, resolved-none}
use Rattle.requests.proofs.FormLaws.{all_next, all_end, sum_next, times_next}
use Rattle.replies.specs.Pieces.{pieces_from, pieces_in, resolve_from, measured_of}
use Rattle.requests.specs.declared.cursors.Entry.{Entry}
use Rattle.requests.specs.declared.cursors.TestEntry.{TestEntry}
use Rattle.requests.specs.declared.forms.Table.{Table}
use Rattle.std.specs.Prelude.{Option, Some, None}
use Rattle.std.proofs.lemmas.Option.{cond_some}

-- ---- the tests and reads of a request ask for the pieces of its table
pub test_pieces : (n p b : ℕ) (q d : List ℕ) → map (test_piece d) (tests_from n p b q) ≡ pieces_from test_size n p q d
unfolding test_piece tests_from pieces_from
test_pieces zero p b q d = refl
test_pieces (suc n) p b q d =
    ap (λ (l : List (List ℕ)). piece d (entry_offset p q) (entry_count p q) ∷ l)
    (test_pieces n (p + test_size) (b + entry_specimen p q) q d)

pub read_pieces : (n p : ℕ) (q d : List ℕ) → map (read_piece d) (reads_from n p q) ≡ pieces_from entry_size n p q d
unfolding read_piece reads_from pieces_from
read_pieces zero p q d = refl
read_pieces (suc n) p q d =
    ap (λ (l : List (List ℕ)). piece d (entry_offset p q) (entry_count p q) ∷ l) (read_pieces n (p + entry_size) q d)

pub test_resolve : (n p b : ℕ) (q : List ℕ) (size : ℕ)
    → every (λ t. resolves t.offset size) (tests_from n p b q) ≡ resolve_from test_size n p q size
unfolding every tests_from resolve_from all_from
test_resolve zero p b q size = refl
test_resolve (suc n) p b q size =
    ap (λ (r : Bool). resolves (entry_offset p q) size && r)
    (test_resolve n (p + test_size) (b + entry_specimen p q) q size)

pub read-resolve : (n p : ℕ) (q : List ℕ) (size : ℕ)
    → every (λ r. resolves r.offset size) (reads_from n p q) ≡ resolve_from entry_size n p q size
unfolding every reads_from resolve_from all_from
read-resolve zero p q size = refl
read-resolve (suc n) p q size =
    ap (λ (r : Bool). resolves (entry_offset p q) size && r) (read-resolve n (p + entry_size) q size)

-- ---- lengths
pub length_pieces : (stride n p : ℕ) (q d : List ℕ) → length (pieces_from stride n p q d) ≡ n
unfolding pieces_from
length_pieces stride zero p q d = refl
length_pieces stride (suc n) p q d = ap suc (length_pieces stride n (p + stride) q d)

-- The table of lengths at the front of a reply.
abbrev pub table_of : List (List ℕ) → List ℕ
table_of ps = join (map (λ s. digits length_size (length s)) ps)

length_table : (ps : List (List ℕ)) → length (table_of ps) ≡ length_size * length ps
unfolding join
length_table [] = refl
length_table (s ∷ ps) =
    length-append (digits length_size (length s)) (table_of ps)
    ∙ omega (arith, length_digits length_size (length s), length_table ps)

length_reply : (ps : List (List ℕ)) → length (reply_of ps) ≡ length_size * length ps + length (join ps)
unfolding reply_of
length_reply ps = length-append (table_of ps) (join ps) ∙ rw length_table

length-join : (s : List ℕ) (ps : List (List ℕ)) → length (join (s ∷ ps)) ≡ length s + length (join ps)
unfolding join
length-join s ps = length-append s (join ps)

reply_none : length (reply_of []) ≡ 0
unfolding reply_of join
reply_none = refl

reply_cons : (s : List ℕ) (ps : List (List ℕ)) → length (reply_of (s ∷ ps)) ≡ length_size + length s + length (reply_of ps)
reply_cons s ps = omega (arith, length_reply (s ∷ ps), length_reply ps, length-join s ps)

pub part_short : (d : List ℕ) (p n : ℕ) → length (take n (drop p d)) ≤ length d
part_short d p n = simp (length-take, length-drop) (omega arith)

reply_most : (stride n p : ℕ) (q d : List ℕ) → length d ≤ limit
    → length (reply_of (pieces_from stride n p q d)) ≤ (length_size + limit) * n
unfolding pieces_from piece
reply_most stride zero p q d h = omega (arith, reply_none)
reply_most stride (suc n) p q d h =
    omega (
      arith,
      reply_cons (piece d (entry_offset p q) (entry_count p q)) (pieces_from stride n (p + stride) q d),
      part_short d (position (entry_offset p q) (length d)) (entry_count p q),
      reply_most stride n (p + stride) q d h,
      mul-suc (length_size + limit) n,
    )

-- ---- the first entry of a table and the rest
module _ (stride left p : ℕ) (q d : List ℕ) (h : 0 < left) where
  one : left ≡ suc (left - 1)
  one = omega arith

  pieces_next : pieces_from stride left p q d
      ≡ piece d (entry_offset p q) (entry_count p q) ∷ pieces_from stride (left - 1) (p + stride) q d
  unfolding pieces_from
  pieces_next = ap (λ (n : ℕ). pieces_from stride n p q d) one

  resolve_next : resolve_from stride left p q (length d)
      ≡ (resolves (entry_offset p q) (length d) && resolve_from stride (left - 1) (p + stride) q (length d))
  unfolding resolve_from
  resolve_next = all_next stride left p h (λ k. resolves (entry_offset k q) (length d))

  hold_next : (b : ℕ) → every (holds d) (tests_from left p b q)
      ≡ (decides (entry_opcode p q)
      (order (piece d (entry_offset p q) (entry_count p q)) (take (entry_specimen p q) (drop b q)))
      && every (holds d) (tests_from (left - 1) (p + test_size) (b + entry_specimen p q) q))
  unfolding every holds test_piece tests_from
  hold_next b = ap (λ (n : ℕ). every (holds d) (tests_from n p b q)) one

-- No entry is left.
module _ (stride left p : ℕ) (q d : List ℕ) (h : left ≤ 0) where
  none_left : left ≡ 0
  none_left = omega arith

  pieces_end : pieces_from stride left p q d ≡ []
  unfolding pieces_from
  pieces_end = ap (λ (n : ℕ). pieces_from stride n p q d) none_left

  resolve-end : resolve_from stride left p q (length d) ≡ true
  unfolding resolve_from
  resolve-end = all_end stride left p h (λ k. resolves (entry_offset k q) (length d))

  hold_end : (b : ℕ) → every (holds d) (tests_from left p b q) ≡ true
  unfolding every tests_from
  hold_end b = ap (λ (n : ℕ). every (holds d) (tests_from n p b q)) none_left

-- ---- the entry at p, as the code has read it: x, its place r
pub record Reading (p stride : ℕ) (q d : List ℕ) (x : Entry) (r : ℕ) : Type 0 where
  pub entry : x ≡ entry_at p stride q
  pub place : r ≡ position (entry_offset p q) (length d)

offset_is : (p stride : ℕ) (q : List ℕ) (x : Entry) → x ≡ entry_at p stride q → x.offset ≡ entry_offset p q
offset_is p stride q x e = ap (λ (y : Entry). y.offset) e

pub reading : {p stride : ℕ} {q d : List ℕ} {x : Entry} {r : ℕ} → Octets q → x ≡ entry_at p stride q
    → r ≡ position (to_z w32 (of_z w32 x.offset)) (length d) → Reading p stride q d x r
reading {p} {stride} {q} {d} {x} {r} o e f =
    record { entry = e; place = entry_placed p q (length d) x.offset r o (offset_is p stride q x e) f }

module _ {p stride : ℕ} {q d : List ℕ} {x : Entry} {r : ℕ} (E : Reading p stride q d x r) where
  reading_count : x.count ≡ entry_count p q
  reading_count = ap (λ (y : Entry). y.count) E.entry

  pub reading_next : x.next.at ≡ p + stride
  reading_next = ap (λ (y : Entry). y.next.at) E.entry

  -- The piece that the code takes is the entry's.
  pub reading-piece : take x.count (drop r d) ≡ piece d (entry_offset p q) (entry_count p q)
  unfolding piece
  reading-piece = rw (reading_count, E.place)

-- ---- measuring
-- What is left of the table t, with the length that has been measured so far.
pub record Summing (t : Table) (q d : List ℕ) (sum at left : ℕ) : Type 0 where
  pub reaches : at + t.stride * left ≤ length q
  pub summed : sum + length (reply_of (pieces_from t.stride left at q d)) ≡ length (reply_of (pieces_in t q d))

module _ {t : Table} {q d : List ℕ} {sum at left : ℕ} (S : Summing t q d sum at left) where
  summing_sum : (h : 0 < left)
      → let s = piece d (entry_offset at q) (entry_count at q) in
      let rest = pieces_from t.stride (left - 1) (at + t.stride) q d in
      sum + (length_size + length s) + length (reply_of rest) ≡ length (reply_of (pieces_in t q d))
  summing_sum h =
      let s = piece d (entry_offset at q) (entry_count at q) in
      let rest = pieces_from t.stride (left - 1) (at + t.stride) q d in
      let e = ap (λ (ps : List (List ℕ)). length (reply_of ps)) (pieces_next t.stride left at q d h) in
      omega (arith, S.summed, reply_cons s rest)

  module _ (h : 0 < left) {x : Entry} {p : ℕ} (E : Reading at t.stride q d x p) (s : List ℕ)
      (is : s ≡ take x.count (drop p d)) where
    summing_piece : length s ≡ length (piece d (entry_offset at q) (entry_count at q))
    summing_piece = ap length (is ∙ reading-piece E)

    -- The lengths add up without wrapping.
    pub summing_bound : TableIn q t → length d ≤ limit → sum + (length_size + length s) ≤ (length_size + limit) * entry_limit
    summing_bound T l =
        omega (arith, summing_sum h, summing_piece, reply_most t.stride t.count t.first.at q d l, T.few)

    pub summing_next : Summing t q d (sum + (length_size + length s)) x.next.at (left - 1)
    summing_next =
        rw (reading_next E) (record {
          reaches = omega (arith, S.reaches, times_next t.stride left at h);
          summed = rw summing_piece (summing_sum h);
        })

  pub summing_end : left ≤ 0 → sum ≡ length (reply_of (pieces_in t q d))
  summing_end h =
      let e : length (reply_of (pieces_from t.stride left at q d)) ≡ 0 =
      ap (λ (ps : List (List ℕ)). length (reply_of ps)) (pieces_end t.stride left at q d h) ∙ reply_none in
      omega (arith, S.summed)

-- The same where every offset so far resolves.
pub record Measuring (t : Table) (q d : List ℕ) (sum at left : ℕ) : Type 0 where
  pub sums : Summing t q d sum at left
  pub resolved : resolve_from t.stride left at q (length d) ≡ resolve_from t.stride t.count t.first.at q (length d)

module _ {t : Table} {q d : List ℕ} {sum at left : ℕ} (M : Measuring t q d sum at left) where
  module _ (h : 0 < left) (o : Octets q) {x : Entry} (e : x ≡ entry_at at t.stride q) {r : Option ℕ}
      (f : r ≡ resolved_of (to_z w32 (of_z w32 x.offset)) (length d)) where
    place_is : r ≡ resolved_of (entry_offset at q) (length d)
    place_is = entry_resolved at q (length d) x.offset r o (offset_is at t.stride q x e) f

    pub measuring_none : r ≡ None → None ≡ measured_of t q d
    measuring_none n =
        let k : resolve_from t.stride t.count t.first.at q (length d) ≡ false =
        sym M.resolved ∙ resolve_next t.stride left at q d h
        ∙ rw (resolved-none (entry_offset at q) (length d) (sym place_is ∙ n)) in
        rw k

    module _ {p : ℕ} (k : r ≡ Some p) (s : List ℕ) (is : s ≡ take x.count (drop p d)) where
      found_at : (resolves (entry_offset at q) (length d) ≡ true) × (position (entry_offset at q) (length d) ≡ p)
      found_at = resolved-some (entry_offset at q) (length d) p (sym place_is ∙ k)

      measuring_read : Reading at t.stride q d x p
      measuring_read = record { entry = e; place = sym found_at.1 }

      pub measuring_bound : TableIn q t → length d ≤ limit
          → sum + (length_size + length s) ≤ (length_size + limit) * entry_limit
      measuring_bound T l = summing_bound M.sums h measuring_read s is T l

      pub measuring_next : Measuring t q d (sum + (length_size + length s)) x.next.at (left - 1)
      measuring_next = record {
        sums = summing_next M.sums h measuring_read s is;
        resolved =
            rw (reading_next measuring_read)
            (rw found_at.0 at (sym (resolve_next t.stride left at q d h)) ∙ M.resolved);
      }

  pub measuring_end : left ≤ 0 → Some sum ≡ measured_of t q d
  measuring_end h =
      let a : resolve_from t.stride t.count t.first.at q (length d) ≡ true =
      sym M.resolved ∙ resolve-end t.stride left at q d h in
      let c : sum ≡ length (reply_of (pieces_in t q d)) = summing_end M.sums h in
      rw (a, ← c)

-- What it tells: whether every offset resolves, and the length of the reply.
pub measured-some : (t : Table) (q d : List ℕ) (n : ℕ) → measured_of t q d ≡ Some n
    → (resolve_from t.stride t.count t.first.at q (length d) ≡ true) × (length (reply_of (pieces_in t q d)) ≡ n)
measured-some t q d n e = cond_some (resolve_from t.stride t.count t.first.at q (length d)) _ n e

pub measured-none : (t : Table) (q d : List ℕ) → measured_of t q d ≡ None
    → resolve_from t.stride t.count t.first.at q (length d) ≡ false
measured-none t q d e = go (resolve_from t.stride t.count t.first.at q (length d)) e
  where
    go : (b : Bool) → cond b (Some (length (reply_of (pieces_in t q d)))) None ≡ None → b ≡ false
    go true h = cc
    go false h = refl

-- ---- writing
-- The table, and the pieces right behind it.
put_reply : (n : ℕ) (ps : List (List ℕ)) (l : List ℕ) → length ps ≡ n
    → put (length_size * n) (join ps) (put 0 (table_of ps) l) ≡ put 0 (reply_of ps) l
unfolding reply_of
put_reply n ps l e =
    let k : length_size * n ≡ 0 + length (table_of ps) = omega (arith, length_table ps) in
    put-put 0 (length_size * n) (table_of ps) (join ps) l (omega arith) k

-- The first length and the first piece, and then the rest behind both.
put_turn : (to behind : ℕ) (s : List ℕ) (ps : List (List ℕ)) (l : List ℕ)
    → to + length_size + length_size * length ps ≤ behind
    → behind + length (join (s ∷ ps)) ≤ length l
    → put behind (join (s ∷ ps)) (put to (table_of (s ∷ ps)) l)
    ≡ put (behind + length s) (join ps)
    (put (to + length_size) (table_of ps) (put behind s (put to (digits length_size (length s)) l)))
unfolding join
put_turn to behind s ps l h k =
    let w : List ℕ = digits length_size (length s) in
    let lw : length w ≡ length_size = length_digits length_size (length s) in
    let l' : List ℕ = put to w l in
    let ll : length l' ≡ length l = put-length to w l (omega arith) in
    let lt : length (table_of ps) ≡ length_size * length ps = length_table ps in
    let lj : length (s ++ join ps) ≡ length s + length (join ps) = length-append s (join ps) in
    let lp : length (put (to + length_size) (table_of ps) l') ≡ length l' =
    put-length (to + length_size) (table_of ps) l' (omega arith) in
    let e : put to (w ++ table_of ps) l ≡ put (to + length_size) (table_of ps) l' =
    sym (put-put to (to + length_size) w (table_of ps) l (omega arith) (omega arith)) in
    ap (put behind (s ++ join ps)) e
    ∙ sym (put-put behind (behind + length s) s (join ps) (put (to + length_size) (table_of ps) l') (omega arith) refl)
    ∙ ap (put (behind + length s) (join ps))
    (sym (put_apart (to + length_size) behind (table_of ps) s l' (omega arith) (omega arith)))

-- What is left of the table t, put into r, is the whole reply, put into r₀.
pub record Writing (t : Table) (q d r₀ r : List ℕ) (to behind at left : ℕ) : Type 0 where
  pub reaches : at + t.stride * left ≤ length q
  pub apart : to + length_size * left ≤ behind
  pub room : behind + length (join (pieces_from t.stride left at q d)) ≤ length r
  pub same : length r ≡ length r₀
  pub written :
      let rest = pieces_from t.stride left at q d in
      put behind (join rest) (put to (table_of rest) r) ≡ put 0 (reply_of (pieces_in t q d)) r₀

pub writing_start : (t : Table) (q d r : List ℕ) → TableIn q t → length (reply_of (pieces_in t q d)) ≤ length r
    → Writing t q d r r 0 (length_size * t.count) t.first.at t.count
writing_start t q d r h k =
    let e : length (pieces_in t q d) ≡ t.count = length_pieces t.stride t.count t.first.at q d in
    record {
      reaches = h.inside;
      apart = omega arith;
      room = omega (arith, length_reply (pieces_in t q d));
      same = refl;
      written = put_reply t.count (pieces_in t q d) r e;
    }

module _ {t : Table} {q d r₀ r : List ℕ} {to behind at left : ℕ} (W : Writing t q d r₀ r to behind at left) where
  module _ (h : 0 < left) {x : Entry} {p : ℕ} (E : Reading at t.stride q d x p) (s : List ℕ)
      (is : s ≡ take x.count (drop p d)) where
    abbrev rest : List (List ℕ)
    rest = pieces_from t.stride (left - 1) (at + t.stride) q d

    writing_pieces : pieces_from t.stride left at q d ≡ s ∷ rest
    writing_pieces =
        pieces_next t.stride left at q d h ∙ ap (λ (y : List ℕ). y ∷ rest) (sym (is ∙ reading-piece E))

    -- The piece has room, with those behind it.
    pub writing_room : behind + length s + length (join rest) ≤ length r
    writing_room =
        let e = ap (λ (ps : List (List ℕ)). length (join ps)) writing_pieces in
        omega (arith, W.room, length-join s rest)

    pub writing-next :
        Writing t q d r₀ (put behind s (put to (digits length_size (length s)) r)) (to + length_size) (behind + length s)
        x.next.at (left - 1)
    writing-next =
        let w : List ℕ = digits length_size (length s) in
        let lw : length w ≡ length_size = length_digits length_size (length s) in
        let room = writing_room in
        let lr : length (put to w r) ≡ length r = put-length to w r (omega (arith, W.apart)) in
        let ls : length (put behind s (put to w r)) ≡ length (put to w r) =
        put-length behind s (put to w r) (omega arith) in
        let lp : length rest ≡ left - 1 = length_pieces t.stride (left - 1) (at + t.stride) q d in
        rw (reading_next E) (record {
          reaches = omega (arith, W.reaches, times_next t.stride left at h);
          apart = omega (arith, W.apart);
          room = omega arith;
          same = omega (arith, W.same);
          written =
              sym (put_turn to behind s rest r (omega (arith, W.apart)) (omega (arith, length-join s rest)))
              ∙ (rw writing_pieces at W.written);
        })

  pub writing_end : left ≤ 0 → r ≡ put 0 (reply_of (pieces_in t q d)) r₀
  unfolding join
  writing_end h =
      let e = pieces_end t.stride left at q d h in
      sym (put-end behind _ _ (ap join e) ∙ put-end to _ r (ap table_of e)) ∙ W.written

-- ---- testing
-- Whether the test at p holds, its specimen standing at b.
abbrev pub holds_at : ℕ → ℕ → List ℕ → List ℕ → Bool
holds_at p b q d =
    decides (entry_opcode p q) (order (piece d (entry_offset p q) (entry_count p q)) (take (entry_specimen p q) (drop b q)))

-- The test as the code has read it: x, its place r, its piece s and its specimen u.
pub read-holds : (b : ℕ) {p : ℕ} {q d s u : List ℕ} {x : TestEntry} {r : ℕ} → x ≡ test_at p q
    → Reading p test_size q d x.entry r → s ≡ take x.entry.count (drop r d)
    → u ≡ body_of (body_at b x.specimen) q → decides x.opcode (order s u) ≡ holds_at p b q d
read-holds b {p} {q} e E f g =
    let m : b + entry_specimen p q - b ≡ entry_specimen p q = omega arith in
    rw (f ∙ reading-piece E, g, e, m)

-- What is left of n tests from p on, with specimens from b on, decides like the whole.
pub record Holding (q d : List ℕ) (p n b at left body : ℕ) : Type 0 where
  pub reaches : at + test_size * left ≤ length q
  pub specimens : body + sum_from (λ i. entry_specimen i q) test_size left at ≤ length q
  pub held : every (holds d) (tests_from left at body q) ≡ every (holds d) (tests_from n p b q)

module _ {q d : List ℕ} {p n b at left body : ℕ} (H : Holding q d p n b at left body) where
  pub holding_end : left ≤ 0 → true ≡ every (holds d) (tests_from n p b q)
  holding_end h = sym (hold_end test_size left at q d h body) ∙ H.held

  module _ (h : 0 < left) where
    -- The specimen lies inside the request.
    pub holding_specimen : body + entry_specimen at q ≤ length q
    holding_specimen = omega (arith, H.specimens, sum_next test_size left at h (λ i. entry_specimen i q))

    holding_turn : (holds_at at body q d
        && every (holds d) (tests_from (left - 1) (at + test_size) (body + entry_specimen at q) q))
        ≡ every (holds d) (tests_from n p b q)
    holding_turn = sym (hold_next test_size left at q d h body) ∙ H.held

    pub holding_false : holds_at at body q d ≡ false → false ≡ every (holds d) (tests_from n p b q)
    holding_false e = rw e at holding_turn

    pub holding_next : {x : TestEntry} → x ≡ test_at at q → holds_at at body q d ≡ true
        → Holding q d p n b x.next.at (left - 1) (body + x.specimen)
    holding_next is e = rw is (record {
      reaches = omega (arith, H.reaches, times_next test_size left at h);
      specimens = omega (arith, H.specimens, sum_next test_size left at h (λ i. entry_specimen i q));
      held = rw e at holding_turn;
    })
