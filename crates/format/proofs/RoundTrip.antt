-- The round trip: a well-formed container is the encoding of its parts, and valid parts are those of their encoding.
-- Assumes nothing.
use mathlib.Core.Path.{◌≡◌, refl, sym, ap, ◌∙◌}
use mathlib.Core.Bool.{true, false}
use mathlib.Core.List.{List, [], ◌∷◌, ◌++◌, append_assoc}
use Prim.Native.Nat.{ℕ, zero, suc, ◌+◌, ◌-◌, ◌*◌, ◌^◌, ◌≤◌}
use native.Mathlib.Omega.{arith}
use lib.ListN.{length, take, drop, replicate, length-append, length-drop, length-replicate, take-append-drop}
use lib.Seq.{length-take-le, take_at, drop_at}
use Rattle.octets.specs.Numbers.{number_after, number, number_at, digits}
use Rattle.octets.specs.Strings.{all_zero, join}
use Rattle.octets.specs.Facts.{Octets, Each}
use Rattle.octets.proofs.NumberLaws.{length_digits, number_digits, digits_at}
use Rattle.octets.proofs.StringLaws.{same-eq, same_refl, zeros_are, rest_field, all_zero-replicate}
use Rattle.format.specs.Layout.{magic, least, limit, node_at, enabler_at, size_at, offset_at, leases_at, data_at}
use Rattle.format.specs.Layout.{count_at, used_length, node_of, enabler_of, size_of, data_of, extras_of, records}
use Rattle.format.specs.Layout.{leases_of, owner_of, count_size, fixed_places, extra_limit, record_size, size_width}
use Rattle.format.specs.Layout.{node_size, secret_size, extras_at, data_end, used_end, slack_of}
use Rattle.format.specs.Container.{held, record_ok, last_held, well_formed}
use Rattle.format.specs.Parts.{Parts, extras, count_in, used, parts_of, encode, no_lease, fresh, head_of}
use Rattle.format.specs.Parts.{front_of, tail_of}
use Rattle.format.specs.Claims.{Place, Valid}
use Rattle.octets.specs.Lists.{every}
use Rattle.octets.proofs.ListLaws.{both, each_append, each_drop, each_take, field_then, field_back}
use Rattle.format.proofs.WellFormed.{Fields, Contents, formed_facts, formed_true, used_is, slack_is}
use Rattle.format.proofs.WellFormed.{length-records, records_shift, length_leases, join-records, length-join}
use Rattle.format.proofs.WellFormed.{records-join, data_length_lem}

-- ---- lease places and the test on records
pub places_sizes : (ls : List (List ℕ)) → Each Place ls → Each (λ r. length r ≡ record_size) ls
places_sizes [] h = h
places_sizes (r ∷ ls) h = (h.0.size, places_sizes ls h.1)

pub places_ok : (ls : List (List ℕ)) → Each Place ls → every record_ok ls ≡ true
unfolding every
places_ok [] h = refl
places_ok (r ∷ ls) h = rw h.0.ok (places_ok ls h.1)

pub ok_places : (ls : List (List ℕ)) → Each (λ r. length r ≡ record_size) ls → every record_ok ls ≡ true → Each Place ls
unfolding every
ok_places [] h e = h
ok_places (r ∷ ls) h e =
    let k = both _ _ e in
    (record { size = h.0; ok = k.0 }, ok_places ls h.1 k.1)

pub records_sizes : (n p : ℕ) (c : List ℕ) → p + record_size * n ≤ length c
    → Each (λ r. length r ≡ record_size) (records n p c)
unfolding records
records_sizes zero p c h = tt
records_sizes (suc n) p c h = (
  length-take-le record_size (drop p c) (rw length-drop (omega arith)),
  records_sizes n (p + record_size) c (omega arith),
)

-- ---- the leases of a container: the four, then the extras
pub four_leases : (c : List ℕ) → take fixed_places (leases_of c) ≡ records fixed_places leases_at c
unfolding leases_of
four_leases c = take_at (records fixed_places leases_at c) (records (extras_of c) (extras_at (count_at c)) c) fixed_places
    (length-records fixed_places leases_at c)

pub extra_leases : (c : List ℕ) → drop fixed_places (leases_of c)
    ≡ records (extras_of c) (extras_at (count_at c)) c
unfolding leases_of
extra_leases c = drop_at (records fixed_places leases_at c) (records (extras_of c) (extras_at (count_at c)) c) fixed_places
    (length-records fixed_places leases_at c)

pub leases_sizes : (c : List ℕ) → data_end c ≤ count_at c → used_end c ≤ length c
    → Each (λ r. length r ≡ record_size) (leases_of c)
unfolding leases_of
leases_sizes c b h =
    let u = used_is (count_at c) (extras_of c) in
    each_append _ (records fixed_places leases_at c) _ (records_sizes fixed_places leases_at c (omega arith))
    (records_sizes (extras_of c) (extras_at (count_at c)) c (omega arith))

pub count_is : (p : Parts) → count_in p ≡ data_at + length p.bytes + p.slack
unfolding count_in
count_is p = refl

-- ---- from the bytes: the parts are valid
pub parts_count : (c : List ℕ) → well_formed c ≡ true → count_in (parts_of c) ≡ count_at c
unfolding count_in parts_of
parts_count c w = rw (data_length_lem c w) (omega (arith, slack_is c, (formed_facts c w).fields.behind))

pub parts_used : (c : List ℕ) → well_formed c ≡ true → used (parts_of c) ≡ used_end c
unfolding used extras parts_of
parts_used c w =
    let k : fixed_places + extras_of c - fixed_places ≡ extras_of c = omega arith in
    rw (parts_count c w, length_leases c, k)

pub parts_valid : (c : List ℕ) → well_formed c ≡ true → Valid (parts_of c)
unfolding parts_of node_of enabler_of
parts_valid c w =
    let f = formed_facts c w in
    let h = f.fields in
    let l = length_leases c in
    let n : least ≤ length c = f.least_length in
    record {
      at_least = n;
      at_most = f.most;
      node_size_holds = length-take-le node_size (drop node_at c) (rw length-drop (omega arith));
      enabler_size = length-take-le secret_size (drop enabler_at c) (rw length-drop (omega arith));
      four = omega arith;
      few = omega arith;
      places = ok_places (leases_of c) (leases_sizes c h.behind h.fits) f.contents.records;
      last = f.contents.last;
      fits = rw (parts_used c w) h.fits;
    }

-- ---- from the bytes: they are the encoding of the parts
pub size_field : (c : List ℕ) → number_at size_width size_at c ≡ size_of c
unfolding size_of
size_field c = refl

count_field : (c : List ℕ) → number_at size_width offset_at c ≡ count_at c
unfolding count_at
count_field c = refl

pub extras_field : (c : List ℕ) → number_at count_size (count_at c) c ≡ extras_of c
unfolding extras_of
extras_field c = refl

pub data_field : (c : List ℕ) → take (size_of c) (drop data_at c) ≡ data_of c
unfolding data_of
data_field c = refl

pub slack_field : (c : List ℕ) → well_formed c ≡ true → take (slack_of c) (drop (data_end c) c) ≡ replicate (slack_of c) 0
slack_field c w =
    let f = formed_facts c w in
    zeros_are _ f.contents.slack
    ∙ ap (λ (n : ℕ). replicate n 0) (length-take-le (slack_of c) (drop (data_end c) c)
    (rw length-drop (omega (arith, f.fields, used_is (count_at c) (extras_of c), slack_is c))))

pub node_field : (c : List ℕ) → take node_size (drop node_at c) ≡ node_of c
unfolding node_of
node_field c = refl

pub enabler_field : (c : List ℕ) → take secret_size (drop enabler_at c) ≡ enabler_of c
unfolding enabler_of
enabler_field c = refl

pub four_field : (c : List ℕ) → take (fixed_places * record_size) (drop leases_at c) ≡ join (take fixed_places (leases_of c))
four_field c = sym (ap join (four_leases c) ∙ join-records fixed_places leases_at c)

pub extra_field : (c : List ℕ) → take (record_size * extras_of c) (drop (extras_at (count_at c)) c)
    ≡ join (drop fixed_places (leases_of c))
extra_field c = sym (ap join (extra_leases c) ∙ join-records (extras_of c) (extras_at (count_at c)) c)

-- The table, with the parts as they stand in the container.
pub laid_out : (c : List ℕ) → well_formed c ≡ true → Octets c
    → c ≡ magic
    ++ (node_of c
    ++ (enabler_of c
    ++ (digits size_width (size_of c)
    ++ (digits size_width (count_at c) ++ (join (take fixed_places (leases_of c))
    ++ (data_of c
    ++ (replicate (slack_of c) 0
    ++ (digits count_size (extras_of c) ++ (join (drop fixed_places (leases_of c))
    ++ replicate (length c - used_end c) 0)))))))))
laid_out c w o =
    let s : ℕ = size_of c in
    let a : ℕ = count_at c in
    let e : ℕ = extras_of c in
    let u = used_is a e in
    let f = formed_facts c w in
    let h = f.fields in
    let y : data_end c + slack_of c ≡ a = omega (arith, slack_is c, h.behind) in
    let z9 = rest_field c (used_length a e) f.contents.zeros in
    let z8 = field_then c (extras_at a) (record_size * e) (used_length a e) _ _ (omega arith)
    (extra_field c) z9 in
    let z7 = field_then c a count_size (extras_at a) _ _ refl
    (digits_at c count_size a e (omega arith) o (extras_field c)) z8 in
    let z6' = field_then c (data_end c) (slack_of c) a _ _ y (slack_field c w) z7 in
    let z6 = field_then c data_at s (data_end c) _ _ refl (data_field c) z6' in
    let z5 = field_then c leases_at (fixed_places * record_size) data_at _ _ refl (four_field c) z6 in
    let z4 = field_then c offset_at size_width leases_at _ _ refl
    (digits_at c size_width offset_at a (omega arith) o (count_field c)) z5 in
    let z3 = field_then c size_at size_width offset_at _ _ refl
    (digits_at c size_width size_at s (omega arith) o (size_field c)) z4 in
    let z2 = field_then c enabler_at secret_size size_at _ _ refl (enabler_field c) z3 in
    let z1 = field_then c node_at node_size enabler_at _ _ refl (node_field c) z2 in
    field_then c 0 node_at node_at _ _ refl (same-eq (take node_at c) magic h.magical) z1

-- The encoding, field after field.
flat : (m a b u v j d k x y z : List ℕ) →
    ((m ++ (a ++ (b ++ (u ++ v)))) ++ j) ++ (d ++ (k ++ ((x ++ y) ++ z)))
    ≡ m ++ (a ++ (b ++ (u ++ (v ++ (j ++ (d ++ (k ++ (x ++ (y ++ z)))))))))
flat m a b u v j d k x y z = simp append_assoc

pub encode_flat : (p : Parts) →
    encode p
    ≡ magic
    ++ (p.node
    ++ (p.enabler
    ++ (digits size_width (length p.bytes)
    ++ (digits size_width (count_in p)
    ++ (join (take fixed_places p.leases)
    ++ (p.bytes
    ++ (replicate p.slack 0
    ++ (digits count_size (extras p.leases)
    ++ (join (drop fixed_places p.leases) ++ replicate (p.room - used p) 0)))))))))
unfolding encode head_of front_of tail_of
encode_flat p =
    flat magic p.node p.enabler (digits size_width (length p.bytes))
    (digits size_width (count_in p)) (join (take fixed_places p.leases)) p.bytes (replicate p.slack 0)
    (digits count_size (extras p.leases)) (join (drop fixed_places p.leases)) (replicate (p.room - used p) 0)

pub encode_parts : (c : List ℕ) → well_formed c ≡ true → Octets c → encode (parts_of c) ≡ c
unfolding parts_of used extras
encode_parts c w o =
    let k : fixed_places + extras_of c - fixed_places ≡ extras_of c = omega arith in
    encode_flat (parts_of c)
    ∙ rw (parts_count c w, data_length_lem c w, length_leases c, k) (sym (laid_out c w o))

pub parts_determine : (b c : List ℕ) → well_formed b ≡ true → well_formed c ≡ true → Octets b → Octets c → parts_of b
    ≡ parts_of c → b ≡ c
parts_determine b c wb wc ob oc e = sym (encode_parts b wb ob) ∙ ap encode e ∙ encode_parts c wc oc

-- ---- from the parts
-- Joined records read back.
pub records-back : (n a : ℕ) (c : List ℕ) (ls : List (List ℕ)) (t : List ℕ) → drop a c ≡ join ls ++ t → length ls ≡ n
    → Each (λ r. length r ≡ record_size) ls → records n a c ≡ ls
records-back n a c ls t e l h =
    let k : a ≡ a + 0 = omega arith in
    ap (λ (i : ℕ). records n i c) k ∙ records_shift n a 0 c ∙ ap (records n 0) e
    ∙ ap (λ (m : ℕ). records m 0 (join ls ++ t)) (sym l) ∙ records-join ls t h

-- What stands where in the encoding of the parts, with s bytes of data, the count at o and e extras.
pub record Written (p : Parts) (s o e : ℕ) (c : List ℕ) : Type 0 where
  pub magical : take node_at c ≡ magic
  pub node : take node_size (drop node_at c) ≡ p.node
  pub enabler : take secret_size (drop enabler_at c) ≡ p.enabler
  pub size : take size_width (drop size_at c) ≡ digits size_width s
  pub offset : take size_width (drop offset_at c) ≡ digits size_width o
  pub after_offset : List ℕ
  pub four : drop leases_at c ≡ join (take fixed_places p.leases) ++ after_offset
  pub bytes : take s (drop data_at c) ≡ p.bytes
  pub slack : take p.slack (drop (data_at + s) c) ≡ replicate p.slack 0
  pub count : take count_size (drop o c) ≡ digits count_size e
  pub more : drop (extras_at o) c ≡ join (drop fixed_places p.leases)
      ++ replicate (p.room - used_length o e) 0
  pub rest : drop (used_length o e) c ≡ replicate (p.room - used_length o e) 0

module _ (p : Parts) (v : Valid p) where
  sizes : Each (λ r. length r ≡ record_size) p.leases
  sizes = places_sizes p.leases v.places

  four_long : length (take fixed_places p.leases) ≡ fixed_places
  four_long = length-take-le fixed_places p.leases v.four

  extras_long : length (drop fixed_places p.leases) ≡ extras p.leases
  unfolding extras
  extras_long = length-drop fixed_places p.leases

  pub four_bytes : length (join (take fixed_places p.leases)) ≡ (fixed_places * record_size)
  four_bytes = length-join (take fixed_places p.leases) (each_take _ fixed_places p.leases sizes) ∙ rw four_long

  pub extra_bytes : length (join (drop fixed_places p.leases)) ≡ record_size * extras p.leases
  extra_bytes = length-join (drop fixed_places p.leases) (each_drop _ fixed_places p.leases sizes) ∙ rw extras_long

  room_used : used_length (count_in p) (extras p.leases) ≤ p.room
  unfolding used
  room_used = v.fits

  pub length-encode : length (encode p) ≡ p.room
  unfolding used
  length-encode =
      rw encode_flat (simp (
        length-append,
        length_digits,
        length-replicate,
        four_bytes,
        extra_bytes,
        v.node_size_holds,
        v.enabler_size,
      ) (omega (arith, room_used, count_is p, used_is (count_in p) (extras p.leases))))

  pub written : Written p (length p.bytes) (count_in p) (extras p.leases) (encode p)
  unfolding used
  written =
      let s : ℕ = length p.bytes in
      let o : ℕ = count_in p in
      let e : ℕ = extras p.leases in
      let c : List ℕ = encode p in
      let z0 = field_back c 0 node_at node_at magic _ (encode_flat p) refl refl in
      let z1 = field_back c node_at node_size enabler_at p.node _ z0.1 v.node_size_holds refl in
      let z2 = field_back c enabler_at secret_size size_at p.enabler _ z1.1 v.enabler_size refl in
      let z3 = field_back c size_at size_width offset_at (digits size_width s) _ z2.1 (length_digits size_width s) refl in
      let z4 = field_back c offset_at size_width leases_at (digits size_width o) _ z3.1
      (length_digits size_width o) refl in
      let z5 = field_back c leases_at (fixed_places * record_size) data_at (join (take fixed_places p.leases)) _
      z4.1 four_bytes refl in
      let z6 = field_back c data_at s (data_at + s) p.bytes _ z5.1 refl refl in
      let z6' = field_back c (data_at + s) p.slack o (replicate p.slack 0) _ z6.1
      (length-replicate p.slack 0) (sym (count_is p)) in
      let z7 = field_back c o count_size (extras_at o) (digits count_size e) _ z6'.1
      (length_digits count_size e) refl in
      let q : extras_at o + record_size * e ≡ used_length o e = omega (arith, used_is o e) in
      let z8 = field_back c (extras_at o) (record_size * e) (used_length o e)
      (join (drop fixed_places p.leases)) _ z7.1 extra_bytes q in
      record {
        magical = z0.0;
        node = z1.0;
        enabler = z2.0;
        size = z3.0;
        offset = z4.0;
        after_offset = _;
        four =
            z4.1;
        bytes = z6.0;
        slack = z6'.0;
        count = z7.0;
        more = z7.1;
        rest = z8.1;
      }

  -- what the fields of the encoding say
  pub size_encode : size_of (encode p) ≡ length p.bytes
  unfolding size_of number_at
  size_encode =
      let h : 256 ^ size_width ≡ 18446744073709551616 = refl in
      ap number written.size
      ∙ number_digits size_width (length p.bytes)
      (omega (arith, room_used, count_is p, used_is (count_in p) (extras p.leases), v.at_most))

  pub count_encode : count_at (encode p) ≡ count_in p
  unfolding count_at number_at
  count_encode =
      let h : 256 ^ size_width ≡ 18446744073709551616 = refl in
      ap number written.offset
      ∙ number_digits size_width (count_in p)
      (omega (arith, room_used, used_is (count_in p) (extras p.leases), v.at_most))

  pub extras-encode : extras_of (encode p) ≡ extras p.leases
  unfolding extras_of number_at
  extras-encode =
      let h : 256 ^ count_size ≡ 4294967296 = refl in
      rw count_encode (ap number written.count
      ∙ number_digits count_size (extras p.leases)
      (omega (arith, room_used, used_is (count_in p) (extras p.leases), v.at_most)))

  pub node-encode : node_of (encode p) ≡ p.node
  unfolding node_of
  node-encode = written.node

  pub enabler-encode : enabler_of (encode p) ≡ p.enabler
  unfolding enabler_of
  enabler-encode = written.enabler

  pub data_encode : data_of (encode p) ≡ p.bytes
  unfolding data_of
  data_encode = rw size_encode written.bytes

  four_encode : records fixed_places leases_at (encode p) ≡ take fixed_places p.leases
  four_encode = records-back fixed_places leases_at (encode p) (take fixed_places p.leases) written.after_offset
      written.four four_long (each_take _ fixed_places p.leases sizes)

  more_encode : records (extras p.leases) (extras_at (count_in p)) (encode p) ≡ drop fixed_places p.leases
  more_encode = records-back (extras p.leases) (extras_at (count_in p)) (encode p)
      (drop fixed_places p.leases) _ written.more extras_long (each_drop _ fixed_places p.leases sizes)

  pub leases_encode : leases_of (encode p) ≡ p.leases
  unfolding leases_of
  leases_encode = rw (count_encode, extras-encode, four_encode, more_encode) (take-append-drop fixed_places p.leases)

  slack_encode : slack_of (encode p) ≡ p.slack
  unfolding slack_of
  slack_encode = rw (count_encode, size_encode) (omega (arith, count_is p))

  -- read back
  pub parts_encode : parts_of (encode p) ≡ p
  unfolding parts_of
  parts_encode = rw (length-encode, node-encode, enabler-encode, data_encode, slack_encode, leases_encode)

  -- what the encoding is, is well formed
  fields_encode : Fields (encode p)
  fields_encode = record {
    magical = rw written.magical (same_refl magic);
    behind = rw (size_encode, count_encode) (omega (arith, count_is p));
    few = rw extras-encode few_extras;
    fits = rw (count_encode, extras-encode, length-encode) room_used;
  }
    where
      few_extras : extras p.leases ≤ extra_limit
      few_extras = omega (arith, sym extras_long ∙ length-drop fixed_places p.leases, v.few)

  contents_encode : Contents (encode p)
  contents_encode = record {
    records = rw leases_encode (places_ok p.leases v.places);
    last = rw leases_encode v.last;
    zeros = rw (count_encode, extras-encode, written.rest)
        (all_zero-replicate (p.room - used_length (count_in p) (extras p.leases)));
    slack = rw (slack_encode, size_encode, written.slack) (all_zero-replicate p.slack);
  }

  pub encode_formed : well_formed (encode p) ≡ true
  encode_formed = formed_true (encode p) (record {
    least_length = rw length-encode v.at_least;
    most =
        rw length-encode v.at_most;
    fields = fields_encode;
    contents = contents_encode;
  })

-- ---- a fresh container
pub no_lease_lem : Place no_lease
unfolding no_lease record_ok held owner_of number_at number number_after all_zero
no_lease_lem = record { size = refl; ok = refl }

pub no_lease-held : held no_lease ≡ false
unfolding no_lease held owner_of number_at number number_after
no_lease-held = refl

-- an empty place that obeys the rules
pub empty_is : (r : List ℕ) → Place r → held r ≡ false → r ≡ no_lease
unfolding record_ok no_lease
empty_is r p h = zeros_are r (sym (rw h refl) ∙ p.ok) ∙ ap (λ (n : ℕ). replicate n 0) p.size

pub fresh_valid : (n : ℕ) (node enabler : List ℕ) → least ≤ n → n ≤ limit → length node ≡ node_size
    → length enabler ≡ secret_size → Valid (fresh n node enabler)
unfolding fresh used count_in extras used_length last_held
fresh_valid n node enabler a b e f = record {
  at_least = a;
  at_most = b;
  node_size_holds = e;
  enabler_size = f;
  four = omega arith;
  few = omega arith;
  places = (no_lease_lem, (no_lease_lem, (no_lease_lem, (no_lease_lem, tt))));
  last = refl;
  fits = a;
}
