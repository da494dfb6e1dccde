-- The numbers of a container that has been judged, and its data as the code lends it. Assumes nothing.
use mathlib.Core.Path.{◌≡◌, sym, ap, ◌∙◌}
use mathlib.Core.List.{List}
use Prim.Native.Nat.{ℕ, ◌+◌, ◌-◌, ◌*◌, ◌≤◌}
use native.Mathlib.Omega.{arith}
use lib.ListN.{length, take, drop, replicate}
use Rattle.format.specs.declared.layout.Frame.{Frame}
use Rattle.format.specs.Judging.{Known}
use Rattle.format.specs.Layout.{data_at, data_of, limit, record_size, count_size, size_of, count_at, extras_of}
use Rattle.format.specs.Layout.{extra_limit, leases_of, slack_of}
use Rattle.format.specs.Parts.{extras}
use Rattle.format.proofs.WellFormed.{data_length_lem, length_leases}
use Rattle.format.proofs.RoundTrip.{slack_field}
use Rattle.format.proofs.JudgingLaws.{known_most, known_sized}

-- The slice of the data, up to their end e.
abbrev pub lent : List ℕ → ℕ → List ℕ
lent c e = take (e - data_at) (drop data_at c)

pub leases_extras : (c : List ℕ) → extras (leases_of c) ≡ extras_of c
unfolding extras
leases_extras c = omega (arith, length_leases c)

module _ {c : List ℕ} {f : Frame} (K : Known c f) where
  -- The frame's numbers, as the fields have them.
  pub frame_size : f.size ≡ size_of c
  frame_size = ap (λ (x : Frame). x.size) K.is

  pub frame_count : f.offset ≡ count_at c
  frame_count = ap (λ (x : Frame). x.offset) K.is

  pub frame_extras : f.extras ≡ extras_of c
  frame_extras = ap (λ (x : Frame). x.extras) K.is

  -- The same, as the parts have them.
  pub data_framed : length (data_of c) ≡ f.size
  data_framed = data_length_lem c K.formed ∙ sym frame_size

  pub extras_framed : extras (leases_of c) ≡ f.extras
  extras_framed = leases_extras c ∙ sym frame_extras

  pub known_room : (data_at + f.size ≤ f.offset) × (f.offset + count_size + record_size * f.extras ≤ length c)
      × (length c ≤ limit) × (f.extras ≤ extra_limit)
  known_room = let z = known_sized c f K in (z.behind, z.fits, known_most c f K, z.few)

  -- The slack is zeros.
  pub slack_zeros : take (f.offset - (data_at + f.size)) (drop (data_at + f.size) c)
      ≡ replicate (f.offset - (data_at + f.size)) 0
  unfolding slack_of
  slack_zeros = rw (frame_count, frame_size) (slack_field c K.formed)

  module _ {e : ℕ} (E : e ≡ data_at + f.size) where
    pub data_lent_lem : lent c e ≡ data_of c
    unfolding data_of
    data_lent_lem =
        let n : e - data_at ≡ size_of c = omega (arith, frame_size) in
        ap (λ (k : ℕ). take k (drop data_at c)) n

    pub lent_small : length (lent c e) ≤ limit
    lent_small = rw (data_lent_lem, data_framed) (omega (arith, known_room))
