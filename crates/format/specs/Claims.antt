-- What is claimed of the format: demand 2's round trip between a container and its parts. Proved in proofs/Claims.antt.
use Rattle.std.specs.Prelude.{ℕ, ◌≤◌, ◌≡◌, true, List, length, drop}
use Rattle.octets.specs.Facts.{Each, Octets}
use Rattle.format.specs.Layout.{node_size, secret_size, record_size, fixed_places, lease_limit, least, limit}
use Rattle.format.specs.Container.{record_ok, last_held, well_formed}
use Rattle.format.specs.Parts.{Parts, used, encode, parts_of}

-- A lease place obeys the rules: 92 bytes, all zero where the owner is 0 (docs/RULES.md, E3).
pub record Place (r : List ℕ) : Type 0 where
  pub size : length r ≡ record_size
  pub ok : record_ok r ≡ true

-- Parts that obey the rules and fit (E3).
pub record Valid (p : Parts) : Type 0 where
  pub at_least : least ≤ p.room
  pub at_most : p.room ≤ limit
  pub node_size_holds : length p.node ≡ node_size
  pub enabler_size : length p.enabler ≡ secret_size
  pub four : fixed_places ≤ length p.leases
  pub few : length p.leases ≤ lease_limit
  pub places : Each Place p.leases
  pub last : last_held (drop fixed_places p.leases) ≡ true
  pub fits : used p ≤ p.room

-- Parts made of bytes.
pub record OctetParts (p : Parts) : Type 0 where
  pub node : Octets p.node
  pub enabler : Octets p.enabler
  pub bytes : Octets p.bytes
  pub leases : Each Octets p.leases

-- Reading a container into its parts and writing it out gives the same bytes, and the reverse too (E4).
pub record RoundTrip : Type 0 where
  -- every well-formed container made of bytes is the encoding of its parts
  pub bytes : (c : List ℕ) → well_formed c ≡ true → Octets c → encode (parts_of c) ≡ c
  -- its parts obey the rules
  pub valid : (c : List ℕ) → well_formed c ≡ true → Valid (parts_of c)
  -- parts that obey the rules are those of their encoding
  pub parts : (p : Parts) → Valid p → parts_of (encode p) ≡ p
  -- their encoding is well formed
  pub formed : (p : Parts) → Valid p → well_formed (encode p) ≡ true
  -- the parts determine every byte
  pub determined : (b c : List ℕ) → well_formed b ≡ true → well_formed c ≡ true → Octets b → Octets c →
      parts_of b ≡ parts_of c → b ≡ c
  -- parts made of bytes have an encoding made of bytes
  pub octets : (p : Parts) → OctetParts p → Octets (encode p)
  -- a container made of bytes has parts made of bytes
  pub octet_parts : (c : List ℕ) → Octets c → OctetParts (parts_of c)
