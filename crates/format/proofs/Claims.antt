-- The round trip, whole. Assumes nothing.
use mathlib.Core.List.{List, [], ◌∷◌, ◌++◌, foldr}
use Prim.Native.Nat.{ℕ, zero, suc, ◌+◌, ◌-◌}
use native.Mathlib.Omega.{arith}
use lib.ListN.{length, take, drop, replicate}
use Rattle.octets.specs.Numbers.{number_after, number, digits}
use Rattle.octets.specs.Strings.{join}
use Rattle.octets.specs.Facts.{Octets, Each}
use Rattle.octets.proofs.NumberLaws.{octets_digits}
use Rattle.octets.proofs.StringLaws.{octets_take, octets_drop, octets_append, octets_join}
use Rattle.format.specs.Layout.{magic, node_at, enabler_at, leases_at, data_at, count_at, node_of, enabler_of, size_of}
use Rattle.format.specs.Layout.{data_of, extras_of, records, leases_of, count_size, fixed_places, record_size}
use Rattle.format.specs.Layout.{node_size, secret_size, size_width, extras_at}
use Rattle.format.specs.Parts.{Parts, extras, count_in, used, parts_of, encode}
use Rattle.format.specs.Claims.{OctetParts, RoundTrip}
use Rattle.octets.proofs.ListLaws.{each_append, each_take, each_drop}
use Rattle.format.proofs.RoundTrip.{encode_parts, parts_valid, parts_encode, encode_formed, parts_determine}
use Rattle.format.proofs.RoundTrip.{encode_flat}

-- ---- strings made of bytes
octets_zeros : (n : ℕ) → Octets (replicate n 0)
octets_zeros zero i = omega arith
octets_zeros (suc n) zero = omega arith
octets_zeros (suc n) (suc i) = octets_zeros n i

-- one after the other, then t
octets_onto : (ss : List (List ℕ)) (t : List ℕ) → Each Octets ss → Octets t → Octets (foldr ◌++◌ t ss)
octets_onto [] t h o = o
octets_onto (s ∷ ss) t h o = octets_append s (foldr ◌++◌ t ss) h.0 (octets_onto ss t h.1 o)

-- the magic is the 32 digits of a number
octets_magic : Octets magic
unfolding digits number number_after
octets_magic = octets_digits node_at (number magic)

octets_records : (n p : ℕ) (c : List ℕ) → Octets c → Each Octets (records n p c)
unfolding records
octets_records zero p c h = tt
octets_records (suc n) p c h = (
  octets_take record_size (drop p c) (octets_drop p c h),
  octets_records n (p + record_size) c h,
)

-- ---- the encoding of parts made of bytes
octets_encode : (p : Parts) → OctetParts p → Octets (encode p)
octets_encode p o =
    let s : ℕ = length p.bytes in
    let a : ℕ = count_in p in
    let e : ℕ = extras p.leases in
    let four : List ℕ = join (take fixed_places p.leases) in
    let more : List ℕ = join (drop fixed_places p.leases) in
    let f : Octets four = octets_join (take fixed_places p.leases) (each_take Octets fixed_places p.leases
    o.leases) in
    let m : Octets more = octets_join (drop fixed_places p.leases) (each_drop Octets fixed_places p.leases
    o.leases) in
    let rest : List (List ℕ) = four ∷ p.bytes ∷ replicate p.slack 0 ∷ digits count_size e ∷ more ∷ [] in
    let h : Each Octets rest = (f, (o.bytes, (octets_zeros p.slack, (octets_digits count_size e, (m, tt))))) in
    let z : ℕ = p.room - used p in
    rw encode_flat
    (octets_onto (magic ∷ p.node ∷ p.enabler ∷ digits size_width s ∷ digits size_width a ∷ rest)
    (replicate z 0)
    (octets_magic, (o.node, (o.enabler, (octets_digits size_width s, (octets_digits size_width a, h)))))
    (octets_zeros z))

-- ---- the parts of a container made of bytes
octets_parts : (c : List ℕ) → Octets c → OctetParts (parts_of c)
unfolding parts_of node_of enabler_of data_of leases_of
octets_parts c h =
    let k : ℕ = extras_at (count_at c) in
    record {
      node = octets_take node_size (drop node_at c) (octets_drop node_at c h);
      enabler = octets_take secret_size (drop enabler_at c) (octets_drop enabler_at c h);
      bytes = octets_take (size_of c) (drop data_at c) (octets_drop data_at c h);
      leases = each_append Octets (records fixed_places leases_at c) _ (octets_records fixed_places leases_at c h)
          (octets_records (extras_of c) k c h);
    }

-- DEMAND 2: the round trip
pub round_trip : RoundTrip
round_trip = record {
  bytes = encode_parts;
  valid = parts_valid;
  parts = parts_encode;
  formed = encode_formed;
  determined = parts_determine;
  octets = octets_encode;
  octet_parts = octets_parts;
}
