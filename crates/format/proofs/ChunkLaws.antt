-- The chunks of a stretch of lease records are the records, from the front and from the back. Assumes nothing.
use mathlib.Core.Path.{◌≡◌, refl, sym, ap, ◌∙◌}
use mathlib.Core.List.{List, [], ◌∷◌, ◌++◌, reverse}
use Prim.Native.Nat.{ℕ, zero, suc, ◌+◌, ◌-◌, ◌*◌, ◌/◌, ◌%◌, ◌≤◌}
use native.Mathlib.Nat.{zero-add}
use native.Mathlib.Omega.{arith}
use lib.ListN.{length, take, drop, length-append, length-take, length-drop}
use denote.Ref.{Bor}
use Rattle.std.specs.declared.slice.ChunksExact.{ChunksExact}
use Rattle.std.specs.Slice.Iter.{chunks_exact_steps, chunks_exact_rest, chunks_exact_size}
use Rattle.std.proofs.lemmas.Iterator.{YieldsList}
use Rattle.std.proofs.lemmas.Iterator.Splits.{YieldsList-from_shown_while}
use Rattle.std.proofs.lemmas.List.{drop_at, take_at, append_assoc, reverse-append, length-reverse}
use Rattle.std.specs.Slice.Exact.{chunks_exact_steps_back}
use Rattle.octets.proofs.ListLaws.{part_part}
use Rattle.format.specs.Layout.{records, record_size}
use Rattle.format.proofs.WellFormed.{records_shift, records-add, length-records}

-- what is left to an iterator over records, as records
abbrev pieces : List ℕ → List (List ℕ)
pieces xs = records (length xs / record_size) 0 xs

pieces-short : (xs : List ℕ) → length xs ≤ 91 → length (pieces xs) ≡ 0
pieces-short xs h = length-records (length xs / record_size) 0 xs ∙ omega arith

pieces-more : (r xs : List ℕ) → length r ≡ record_size → pieces (r ++ xs) ≡ r ∷ pieces xs
unfolding records
pieces-more r xs h =
    let n : length (r ++ xs) / record_size ≡ suc (length xs / record_size) = omega (arith, length-append r xs) in
    rw (n, take_at r xs record_size h) (ap (λ (l : List (List ℕ)). r ∷ l)
    (records_shift (length xs / record_size) record_size 0 (r ++ xs)
    ∙ ap (records (length xs / record_size) 0) (drop_at r xs record_size h)))

records_inside : (n m p q : ℕ) (c : List ℕ) → q + record_size * n ≤ m → records n q (take m (drop p c)) ≡ records n (p + q) c
unfolding records
records_inside zero m p q c h = refl
records_inside (suc n) m p q c h =
    let k : p + q + record_size ≡ p + (q + record_size) = omega arith in
    rw (part_part p m q record_size c (omega arith), k)
    (ap (λ (l : List (List ℕ)). take record_size (drop (p + q) c) ∷ l)
    (records_inside n m p (q + record_size) c (omega arith)))

pub pieces_are : (n m p : ℕ) (c : List ℕ) → p + record_size * n ≤ length c → m ≡ record_size * n →
    pieces (take m (drop p c)) ≡ records n p c
pieces_are n m p c h e =
    let l : length (take m (drop p c)) ≡ m = rw length-take (rw length-drop (omega arith)) in
    let k : length (take m (drop p c)) / record_size ≡ n = omega (arith, l) in
    let z : p ≡ p + 0 = omega arith in
    ap (λ (j : ℕ). records j 0 (take m (drop p c))) k ∙ records_inside n m p 0 c (omega arith)
    ∙ ap (λ (j : ℕ). records n j c) (sym z)

pub YieldsList-from_records : {s : ChunksExact ℕ} (n m p : ℕ) (c : List ℕ) → p + record_size * n ≤ length c →
    m ≡ record_size * n → chunks_exact_rest s ≡ take m (drop p c) → chunks_exact_size s ≡ record_size →
    YieldsList (chunks_exact_steps {A = ℕ}) (λ x. x.now) s (records n p c)
YieldsList-from_records {s} n m p c h e r z =
    rw (← pieces_are n m p c h e, ← r)
    (YieldsList-from_shown_while (chunks_exact_steps {A = ℕ}) (λ x. x.now) (λ t. pieces (chunks_exact_rest t))
    (λ t. chunks_exact_size t ≡ record_size)
    (λ a t k q. pieces-short (chunks_exact_rest a) (omega (arith, q.1.0, k)))
    (λ a x t k q. (q.0 ∙ k, ap pieces q.1.0 ∙ pieces-more x.now (chunks_exact_rest t) (q.1.1 ∙ k)))
    s z)

-- ---- from the back
-- the records that fill a stretch, taken from its back
pieces-last : (xs r after : List ℕ) → length r ≡ record_size → length after ≤ 91 → length xs % record_size ≡ 0 →
    pieces (xs ++ r ++ after) ≡ pieces xs ++ (r ∷ [])
unfolding records
pieces-last xs r after h l m =
    let n : ℕ = length xs / record_size in
    let w : record_size * n ≡ length xs = omega (arith, m) in
    let t : length (xs ++ r ++ after) ≡ length xs + record_size + length after =
    omega (arith, length-append (xs ++ r) after, length-append xs r) in
    let k : length (xs ++ r ++ after) / record_size ≡ n + 1 = omega (arith, t) in
    let front : records n 0 (xs ++ (r ++ after)) ≡ records n 0 xs =
    sym (records_inside n (length xs) 0 0 (xs ++ (r ++ after)) (omega arith))
    ∙ ap (records n 0) (take_at xs (r ++ after) (length xs) refl) in
    let back : take record_size (drop (record_size * n) (xs ++ (r ++ after))) ≡ r =
    rw w (ap (take record_size) (drop_at xs (r ++ after) (length xs) refl) ∙ take_at r after record_size h) in
    rw (k, append_assoc xs r after)
    (records-add n 1 0 (xs ++ (r ++ after)) ∙ rw (front, zero-add (record_size * n), back))

-- the chunks from the back are the records from the back
pub YieldsList-from_last_records : {s : ChunksExact ℕ} (n m p : ℕ) (c : List ℕ) → p + record_size * n ≤ length c →
    m ≡ record_size * n → chunks_exact_rest s ≡ take m (drop p c) → chunks_exact_size s ≡ record_size →
    YieldsList (chunks_exact_steps_back {A = ℕ}) (λ x. x.now) s (reverse (records n p c))
YieldsList-from_last_records {s} n m p c h e r z =
    rw (← pieces_are n m p c h e, ← r)
    (YieldsList-from_shown_while (chunks_exact_steps_back {A = ℕ}) (λ x. x.now)
    (λ t. reverse (pieces (chunks_exact_rest t)))
    (λ t. chunks_exact_size t ≡ record_size)
    (λ a t k q. length-reverse (pieces (chunks_exact_rest a))
    ∙ pieces-short (chunks_exact_rest a) (omega (arith, q.2.0, k)))
    (λ a x t k q. (q.0 ∙ k, before a x t k q.2.0 q.2.1 q.2.2 q.2.3))
    s z)
  where
    before : (a : ChunksExact ℕ) (x : Bor (List ℕ)) (t : ChunksExact ℕ) → chunks_exact_size a ≡ record_size →
        (after : List ℕ) → chunks_exact_rest a ≡ (chunks_exact_rest t ++ x.now) ++ after →
        length x.now ≡ chunks_exact_size a → length after ≡ length (chunks_exact_rest a) % chunks_exact_size a →
        reverse (pieces (chunks_exact_rest a)) ≡ x.now ∷ reverse (pieces (chunks_exact_rest t))
    before a x t k after e l m =
        let w : length after ≡ length (chunks_exact_rest a) % record_size =
        m ∙ ap (λ (j : ℕ). length (chunks_exact_rest a) % j) k in
        let y : length (chunks_exact_rest a) ≡ length (chunks_exact_rest t) + record_size + length after =
        ap length e ∙ length-append (chunks_exact_rest t ++ x.now) after
        ∙ omega (arith, length-append (chunks_exact_rest t) x.now, l, k) in
        ap reverse (ap pieces e
        ∙ pieces-last (chunks_exact_rest t) x.now after (l ∙ k) (omega (arith, w)) (omega (arith, w, y)))
        ∙ reverse-append (pieces (chunks_exact_rest t)) (x.now ∷ [])
