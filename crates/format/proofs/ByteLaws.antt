-- A container's bytes by position, and those that two containers share when they differ in data and slack alone.
-- Assumes nothing.
use mathlib.Core.Path.{◌≡◌, refl, sym, ap, ap₂, ◌∙◌}
use mathlib.Core.Bool.{Bool, true, false}
use mathlib.Core.List.{List, ◌++◌, append_assoc}
use Prim.Native.Nat.{ℕ, ◌+◌, ◌-◌, ◌*◌, ◌≤◌, ◌<◌}
use native.Mathlib.Omega.{arith}
use lib.ListN.{length, take, drop, get_or, replicate, length-append, length-replicate, get_or-append}
use lib.Seq.{take-add, drop-drop, get_or-take, get_or-drop}
use lib.Dec.{ltb}
use borrow.Author.Tests.{ltb-true, ltb-false}
use Rattle.octets.specs.Numbers.{digits}
use Rattle.octets.specs.Strings.{join}
use Rattle.octets.proofs.ListLaws.{at_past, at_rep, at_app_right}
use Rattle.octets.proofs.StringLaws.{same-eq, rest_field}
use Rattle.format.specs.Layout.{magic, node_size, secret_size, size_width, record_size, fixed_places, node_at, size_at}
use Rattle.format.specs.Layout.{offset_at, leases_at, data_at, node_of, enabler_of, size_of, data_of, leases_of, data_end}
use Rattle.format.specs.Layout.{used_end}
use Rattle.format.specs.Container.{well_formed}
use Rattle.format.specs.Parts.{Parts, count_in, used, head_of, tail_of, encode}
use Rattle.format.specs.Claims.{Valid}
use Rattle.format.proofs.WellFormed.{formed_facts}
use Rattle.format.proofs.RoundTrip.{count_is, node_field, enabler_field, four_field, written}
use Rattle.format.proofs.ViewLaws.{length-head, loose}

-- lists that agree before their seam and behind it
at_append : (a x b y : List ℕ) (i : ℕ) → length a ≡ length x → (i < length a → get_or a i 0 ≡ get_or x i 0) →
    (length a ≤ i → get_or b (i - length a) 0 ≡ get_or y (i - length a) 0) → get_or (a ++ b) i 0 ≡ get_or (x ++ y) i 0
at_append a x b y i l f g = go (ltb i (length a)) refl
  where
    go : (t : Bool) → ltb i (length a) ≡ t → get_or (a ++ b) i 0 ≡ get_or (x ++ y) i 0
    go true e =
        let h : i < length a = ltb-true i (length a) e in
        get_or-append a b 0 i h ∙ f h ∙ sym (get_or-append x y 0 i (omega arith))
    go false e =
        let h : length a ≤ i = ltb-false i (length a) e in
        at_app_right a b i h ∙ g h ∙ rw l (sym (at_app_right x y i (omega arith)))

-- ---- one container
-- from a on, by what stands from a on
at_from : (c : List ℕ) (a i : ℕ) → a ≤ i → get_or c i 0 ≡ get_or (drop a c) (i - a) 0
at_from c a i h =
    let e : i ≡ a + (i - a) = omega arith in
    ap (λ (j : ℕ). get_or c j 0) e ∙ sym (get_or-drop a c (i - a) 0)

at_field : (c : List ℕ) (a n i : ℕ) → a ≤ i → i < a + n → get_or c i 0 ≡ get_or (take n (drop a c)) (i - a) 0
at_field c a n i h k = at_from c a i h ∙ sym (get_or-take n (drop a c) (i - a) 0 (omega arith))

pub at_data : (c : List ℕ) (i : ℕ) → data_at ≤ i → i < data_end c → get_or c i 0 ≡ get_or (data_of c) (i - data_at) 0
unfolding data_of
at_data c i h k = at_field c data_at (size_of c) i h k

pub at_unused : (c : List ℕ) (i : ℕ) → well_formed c ≡ true → used_end c ≤ i → get_or c i 0 ≡ 0
at_unused c i w h =
    at_from c (used_end c) i h
    ∙ ap (λ (l : List ℕ). get_or l (i - used_end c) 0) (rest_field c (used_end c) (formed_facts c w).contents.zeros)
    ∙ at_rep (length c - used_end c) (i - used_end c)

-- slack reads as what is behind the data
pub at_loose : (d : List ℕ) (n i : ℕ) → get_or (d ++ replicate n 0) i 0 ≡ get_or d i 0
at_loose d n i = go (ltb i (length d)) refl
  where
    go : (b : Bool) → ltb i (length d) ≡ b → get_or (d ++ replicate n 0) i 0 ≡ get_or d i 0
    go true e = get_or-append d (replicate n 0) 0 i (ltb-true i (length d) e)
    go false e =
        let h : length d ≤ i = ltb-false i (length d) e in
        at_app_right d (replicate n 0) i h ∙ at_rep n (i - length d) ∙ sym (at_past d i h)

-- ---- two containers
-- where a field is the same in both, so is each of its bytes
same_at : (b c : List ℕ) (a n i : ℕ) → take n (drop a b) ≡ take n (drop a c) → a ≤ i → i < a + n
    → get_or b i 0 ≡ get_or c i 0
same_at b c a n i e h k =
    at_field b a n i h k ∙ ap (λ (l : List ℕ). get_or l (i - a) 0) e ∙ sym (at_field c a n i h k)

-- a field and the next one, as one
same_next : (b c : List ℕ) (a m n : ℕ) → take m (drop a b) ≡ take m (drop a c)
    → take n (drop (a + m) b) ≡ take n (drop (a + m) c) → take (m + n) (drop a b) ≡ take (m + n) (drop a c)
same_next b c a m n e f =
    rw (take-add m n (drop a b), take-add m n (drop a c), drop-drop m a b, drop-drop m a c) (ap₂ ◌++◌ e f)

-- parts written out: the size field, the offset field, and what stands behind the head
encode-loose : (p : Parts) → encode p
    ≡ head_of p ++ (loose p.bytes p.slack ++ (tail_of p ++ replicate (p.room - used p) 0))
unfolding encode
encode-loose p = ap (λ (x : List ℕ). head_of p ++ x) (sym (append_assoc p.bytes (replicate p.slack 0) _))

same-tail : (p q : Parts) → count_in p ≡ count_in q → p.leases ≡ q.leases → p.room ≡ q.room →
    tail_of p ++ replicate (p.room - used p) 0 ≡ tail_of q ++ replicate (q.room - used q) 0
unfolding tail_of used
same-tail p q e l m = rw (e, l, m)

module _ (p q : Parts) (v : Valid p) (w : Valid q) (i : ℕ) where
  pub same_size : length p.bytes ≡ length q.bytes → size_at ≤ i → i < offset_at →
      get_or (encode p) i 0 ≡ get_or (encode q) i 0
  same_size e h k =
      same_at (encode p) (encode q) size_at size_width i
      ((written p v).size ∙ ap (digits size_width) e ∙ sym (written q w).size) h k

  pub same_offset : count_in p ≡ count_in q → offset_at ≤ i → i < leases_at → get_or (encode p) i 0 ≡ get_or (encode q) i 0
  same_offset e h k =
      same_at (encode p) (encode q) offset_at size_width i
      ((written p v).offset ∙ ap (digits size_width) e ∙ sym (written q w).offset) h k

  -- from the data's beginning on, where the count, the leases and the buffer's length are the same
  pub same_behind : count_in p ≡ count_in q → p.leases ≡ q.leases → p.room ≡ q.room → data_at ≤ i →
      get_or p.bytes (i - data_at) 0 ≡ get_or q.bytes (i - data_at) 0 → get_or (encode p) i 0 ≡ get_or (encode q) i 0
  same_behind e l m h d =
      let ends : length (loose p.bytes p.slack) ≡ length (loose q.bytes q.slack) =
      rw (length-append p.bytes, length-append q.bytes, length-replicate {A = ℕ}, length-replicate {A = ℕ})
      (omega (arith, count_is p, count_is q)) in
      ap (λ (x : List ℕ). get_or x i 0) (encode-loose p)
      ∙ at_append (head_of p) (head_of q) _ _ i (length-head p v ∙ sym (length-head q w))
      (λ g. absurd (omega (arith, length-head p v)))
      (λ g. rw (length-head p v)
      (at_append (loose p.bytes p.slack) (loose q.bytes q.slack) _ _ (i - data_at) ends
      (λ g. at_loose p.bytes p.slack (i - data_at) ∙ d ∙ sym (at_loose q.bytes q.slack (i - data_at)))
      (λ g. ap (λ (x : List ℕ). get_or x (i - data_at - length (loose p.bytes p.slack)) 0) (same-tail p q e l m))))
      ∙ sym (ap (λ (x : List ℕ). get_or x i 0) (encode-loose q))

module _ (b c : List ℕ) where
  -- magic, node id and enabler
  pub same_front : well_formed b ≡ true → well_formed c ≡ true → node_of b ≡ node_of c → enabler_of b ≡ enabler_of c
      → (i : ℕ) → i < size_at → get_or b i 0 ≡ get_or c i 0
  same_front wb wc n e i h =
      let m : (x : List ℕ) → well_formed x ≡ true → take node_at x ≡ magic =
      λ x w. same-eq (take node_at x) magic (formed_facts x w).fields.magical in
      same_at b c 0 size_at i
      (same_next b c 0 node_at (node_size + secret_size) (m b wb ∙ sym (m c wc))
      (same_next b c node_at node_size secret_size (node_field b ∙ n ∙ sym (node_field c))
      (enabler_field b ∙ e ∙ sym (enabler_field c))))
      (omega arith) h

  -- the four lease places
  pub same_four : leases_of b ≡ leases_of c → (i : ℕ) → leases_at ≤ i → i < data_at → get_or b i 0 ≡ get_or c i 0
  same_four l i h k =
      same_at b c leases_at (fixed_places * record_size) i
      (four_field b ∙ ap (λ (ls : List (List ℕ)). join (take fixed_places ls)) l ∙ sym (four_field c)) h k
