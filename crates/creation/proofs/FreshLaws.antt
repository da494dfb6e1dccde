-- Create: which row applies at each way out, and what the stores into a cleared buffer make of it. Assumes nothing.
use mathlib.Core.Path.{◌≡◌, refl, sym, ◌∙◌}
use mathlib.Core.Bool.{true, false, ◌&&◌}
use mathlib.Core.List.{List, [], ◌++◌, append_assoc}
use Prim.Native.Nat.{ℕ, ◌+◌, ◌-◌, ◌*◌, ◌≤◌}
use native.Mathlib.Omega.{arith}
use lib.Dec.{eqb}
use lib.ListN.{length, take, replicate, length-append, length-replicate}
use borrow.Author.Tests.{eq-eqb}
use Rattle.octets.specs.Moves.{put}
use Rattle.octets.specs.Numbers.{digits}
use Rattle.octets.specs.Strings.{same, join}
use Rattle.format.specs.Layout.{magic, used_length, least, node_size, node_at, secret_size, offset_at, size_width}
use Rattle.format.specs.Layout.{count_size, data_at, enabler_at, fixed_places, leases_at, record_size, size_at}
use Rattle.format.specs.Container.{length_allowed}
use Rattle.format.specs.Parts.{count_in, used, extras, encode, no_lease, fresh}
use Rattle.rules.specs.Outcomes.{answer_of, no_node, create_outcome, create_answer, created_container}
use Rattle.octets.specs.Rows.{first_row}
use Rattle.octets.proofs.MoveLaws.{put_append_zeros, zeros_split}
use Rattle.format.proofs.RoundTrip.{encode_flat}
use Rattle.rules.specs.declared.Answer.{Answer}

-- ---- the ways out: the answer, and the buffer afterwards
module _ (c node enabler : List ℕ) (x : Answer) where
  pub create_length : length_allowed c ≡ false → x ≡ answer_of 1 no_node 0 → (x ≡ create_answer c node enabler)
      × (c ≡ created_container c node enabler)
  unfolding create_answer created_container create_outcome first_row
  create_length h e = (rw (h, e), rw h)

  pub create_lengths : length_allowed c ≡ true → (eqb (length node) node_size && eqb (length enabler) secret_size) ≡ false
      → x ≡ answer_of 3 no_node 0
      → (x ≡ create_answer c node enabler) × (c ≡ created_container c node enabler)
  unfolding create_answer created_container create_outcome first_row
  create_lengths h k e = (rw (h, k, e), rw (h, k))

  pub create_magic : length_allowed c ≡ true → length node ≡ node_size → length enabler ≡ secret_size
      → same (take node_at c) magic ≡ true → x ≡ answer_of 12 no_node 0
      → (x ≡ create_answer c node enabler) × (c ≡ created_container c node enabler)
  unfolding create_answer created_container create_outcome first_row
  create_magic h n k m e = (rw (h, eq-eqb _ _ n, eq-eqb _ _ k, m, e), rw (h, eq-eqb _ _ n, eq-eqb _ _ k, m))

  pub create_done : (c' : List ℕ) → length_allowed c ≡ true → length node ≡ node_size → length enabler ≡ secret_size
      → same (take node_at c) magic ≡ false → x ≡ answer_of 0 no_node 0
      → c' ≡ encode (fresh (length c) node enabler) → (x ≡ create_answer c node enabler)
      × (c' ≡ created_container c node enabler)
  unfolding create_answer created_container create_outcome first_row
  create_done c' h n k m e f = (rw (h, eq-eqb _ _ n, eq-eqb _ _ k, m, e), rw (h, eq-eqb _ _ n, eq-eqb _ _ k, m) f)

-- ---- the stores
-- The stores that make a fresh container of n zeros.
module _ (n : ℕ) (m node enabler o : List ℕ) (room : least ≤ n) (lm : length m ≡ node_at) (ln : length node ≡ node_size)
    (le : length enabler ≡ secret_size) (lo : length o ≡ size_width) where
  put-head : put enabler_at enabler (put node_at node (put 0 m (replicate n 0)))
      ≡ ((m ++ node) ++ enabler) ++ replicate (n - size_at) 0
  put-head =
      let l : length (m ++ node) ≡ enabler_at = length-append m node ∙ omega arith in
      let p = put_append_zeros 0 n (n - node_at) m [] refl (omega arith) in
      let q = put_append_zeros node_at (n - node_at) (n - enabler_at) node m lm (omega arith) in
      let r = put_append_zeros enabler_at (n - enabler_at) (n - size_at) enabler (m ++ node) l (omega arith) in
      rw (p, q, r)

  put_offset : put offset_at o (((m ++ node) ++ enabler) ++ replicate (n - size_at) 0)
      ≡ ((((m ++ node) ++ enabler) ++ replicate size_width 0) ++ o) ++ replicate (n - leases_at) 0
  put_offset =
      let h : List ℕ = (m ++ node) ++ enabler in
      let l : length (h ++ replicate size_width 0) ≡ offset_at = simp (length-append, length-replicate) (omega arith) in
      let k : n - size_at ≡ size_width + (n - offset_at) = omega arith in
      rw (
        k,
        zeros_split size_width (n - offset_at),
        ← append_assoc h (replicate size_width 0)
            (replicate (n - offset_at) 0),
      )
      (put_append_zeros offset_at (n - offset_at) (n - leases_at) o (h ++ replicate size_width 0) l (omega arith))

  zeros_end : replicate {A = ℕ} (n - leases_at) 0
      ≡ replicate (fixed_places * record_size) 0 ++ (replicate count_size 0 ++ replicate (n - least) 0)
  zeros_end =
      let k : n - leases_at ≡ fixed_places * record_size + (count_size + (n - least)) = omega arith in
      rw (k, zeros_split (fixed_places * record_size) (count_size + (n - least)), zeros_split count_size (n - least))

  put_all : put offset_at o (put enabler_at enabler (put node_at node (put 0 m (replicate n 0))))
      ≡ m
      ++ (node
      ++ (enabler
      ++ (replicate size_width 0
      ++ (o
      ++ (replicate (fixed_places * record_size) 0 ++ (replicate count_size 0 ++ replicate (n - least) 0))))))
  put_all = rw (put-head, put_offset, zeros_end) (simp append_assoc)

pub fresh-bytes : (n : ℕ) (node enabler : List ℕ) → least ≤ n → length node ≡ node_size → length enabler ≡ secret_size
    → put offset_at (digits size_width data_at) (put enabler_at enabler (put node_at node (put 0 magic (replicate n 0))))
    ≡ encode (fresh n node enabler)
unfolding fresh used count_in extras used_length digits join no_lease
fresh-bytes n node enabler h k l =
    put_all n magic node enabler (digits size_width data_at) h refl k l refl ∙ sym (encode_flat (fresh n node enabler))
