-- Changes to the lease places, in the container's view: a record put at a place, a new extra, the tail that is dropped.
-- Assumes nothing.
use mathlib.Core.Path.{◌≡◌, refl, sym, ap, ap₂, ◌∙◌}
use mathlib.Core.Bool.{Bool, true, false}
use mathlib.Core.List.{List, [], ◌∷◌, ◌++◌, append_assoc, append-nil}
use Prim.Native.Nat.{ℕ, zero, suc, ◌+◌, ◌-◌, ◌*◌, ◌≤◌, ◌<◌, max}
use native.Mathlib.Omega.{arith}
use lib.ListN.{length, take, drop, get_or, set, replicate, length-append, length-take, length-drop, length-set}
use lib.ListN.{take-append-drop}
use lib.Seq.{length-take-le, take_at, drop_at, drop-drop, take-append-le, drop-append-le, set-get_or}
use lib.Seq.{take-set-le, take-set-lt, drop-set-lt, drop-set-add}
use Rattle.octets.specs.Numbers.{number_at, digits}
use Rattle.octets.specs.Strings.{join}
use Rattle.octets.specs.Facts.{Octets, Each}
use Rattle.octets.specs.Moves.{put}
use Rattle.octets.proofs.NumberLaws.{length_digits, digits_at}
use Rattle.octets.proofs.StringLaws.{octets_take, octets_drop, join_snoc}
use Rattle.format.specs.Layout.{expiry_of, count_size, record_size, fixed_places, leases_at, leases_of}
use Rattle.format.specs.Layout.{data_of, slack_of, used_length, extras_at, records, expiry_at, renewal_at}
use Rattle.format.specs.Container.{held}
use Rattle.format.specs.Claims.{Place, Valid}
use Rattle.format.specs.Parts.{extras, Parts, front_of, head_of, tail_of, parts_of, count_in, used, no_lease}
use Rattle.octets.proofs.ListLaws.{each_take, each_drop, each_set, field_then}
use Rattle.format.proofs.RoundTrip.{count_is, parts_count, parts_valid, places_sizes, no_lease_lem, records-back}
use Rattle.format.proofs.RoundTrip.{encode_parts, empty_is}
use Rattle.rules.specs.Leasing.{later, with_last, trim, drop_tail, extended}
use Rattle.rules.specs.Outcomes.{with_leases}
use Rattle.octets.proofs.MoveLaws.{put-over, put_right, put-within, zeros_split}
use Rattle.format.specs.View.{tail_size, Laid, place_at}
use Rattle.format.proofs.ViewLaws.{length_front, loose, laid_encoded, formed_laid, put-head, put_behind, put-tail}
use Rattle.format.proofs.ViewLaws.{tail_less}
use Rattle.format.specs.Judging.{Known}
use Rattle.format.proofs.WellFormed.{length_leases, used_is}
use Rattle.leases.specs.Changes.{leased_as}
use Rattle.leases.proofs.PlaceLaws.{known_places, by_place, fixed_at, extra_at, lease_at, place_inside}
use Rattle.leases.proofs.PlaceLaws.{expiry_at_lem}
use Rattle.format.proofs.KnownLaws.{frame_count, extras_framed}
use Rattle.rules.proofs.LeaseLaws.{length-trim, length-later}
use Rattle.format.specs.declared.layout.Frame.{Frame}

-- ---- joined records
-- one of them replaced
put-joined : (ls : List (List ℕ)) (i : ℕ) (r : List ℕ) → Each (λ x. length x ≡ record_size) ls → i < length ls →
    length r ≡ record_size → put (record_size * i) r (join ls) ≡ join (set ls i r)
unfolding join
put-joined [] i r e h l = absurd (omega arith)
put-joined (x ∷ ls) zero r e h l =
    let z : record_size * 0 ≡ 0 = omega arith in
    rw z (put-over 0 [] x r (join ls) refl (e.0 ∙ sym l))
put-joined (x ∷ ls) (suc i) r e h l =
    put_right (record_size * suc i) (record_size * i) r x (join ls) (omega (arith, e.0))
    ∙ ap (λ (m : List ℕ). x ++ m) (put-joined ls i r e.1 (omega arith) l)

-- ---- the empty tail
-- what `trim` leaves out is zeros
trim_zeros : (x : List (List ℕ)) → Each Place x →
    join x ≡ join (trim x) ++ replicate (record_size * (length x - length (trim x))) 0
unfolding join trim with_last no_lease
trim_zeros [] h = refl
trim_zeros (r ∷ x) h = go (trim x) (held r) refl (trim_zeros x h.1)
  where
    go : (t : List (List ℕ)) (b : Bool) → held r ≡ b →
        join x ≡ join t ++ replicate (record_size * (length x - length t)) 0 →
        r ++ join x ≡ join (with_last r t) ++ replicate (record_size * (suc (length x) - length (with_last r t))) 0
    go [] true e ih =
        let z : suc (length x) - 1 ≡ length x - 0 = omega arith in
        rw (e, append-nil r, z) (ap (λ (l : List ℕ). r ++ l) ih)
    go [] false e ih =
        let n : ℕ = record_size * (length x - 0) in
        let z : record_size * (suc (length x) - 0) ≡ record_size + n = omega arith in
        rw (e, z, zeros_split record_size n) (ap₂ ◌++◌ (empty_is r h.0 e) ih)
    go (y ∷ t) b e ih =
        let z : suc (length x) - suc (suc (length t)) ≡ length x - suc (length t) = omega arith in
        rw (z, append_assoc r (y ++ join t)) (ap (λ (l : List ℕ). r ++ l) ih)

-- ---- head and tail of parts with other leases
extras-set : (ls : List (List ℕ)) (i : ℕ) (r : List ℕ) → extras (set ls i r) ≡ extras ls
unfolding extras
extras-set ls i r = rw (length-set ls i r)

pub extras_more : (ls : List (List ℕ)) (r : List ℕ) → fixed_places ≤ length ls → extras (ls ++ (r ∷ [])) ≡ extras ls + 1
unfolding extras
extras_more ls r h = rw length-append (omega arith)

-- a record put at a place
module _ (p : Parts) (v : Valid p) (i : ℕ) (r : List ℕ) (l : length r ≡ record_size) (h : i < length p.leases) where
  abbrev ls : List (List ℕ)
  ls = p.leases

  abbrev q : Parts
  q = with_leases p (set ls i r)

  sizes : Each (λ x. length x ≡ record_size) ls
  sizes = places_sizes ls v.places

  -- one of the four
  module _ (g : i < fixed_places) where
    head-set : put (leases_at + record_size * i) r (head_of p) ≡ head_of q
    unfolding head_of front_of count_in with_leases
    head-set =
        let f : List (List ℕ) = take fixed_places ls in
        let lf : i < length f = rw length-take (omega arith) in
        put_right (leases_at + record_size * i) (record_size * i) r (front_of p) (join f) (omega (arith, length_front p v))
        ∙ ap (λ (x : List ℕ). front_of p ++ x)
        (put-joined f i r (each_take _ fixed_places ls sizes) lf l ∙ rw (take-set-lt fixed_places ls i r g))

    tail-same : tail_of p ≡ tail_of q
    unfolding tail_of with_leases
    tail-same = rw (extras-set ls i r, drop-set-lt fixed_places ls i r g)

  -- an extra place
  module _ (g : fixed_places ≤ i) where
    head-same : head_of p ≡ head_of q
    unfolding head_of front_of count_in with_leases
    head-same = rw (take-set-le fixed_places ls i r g)

    tail-set : put (tail_size (i - fixed_places)) r (tail_of p) ≡ tail_of q
    unfolding tail_of with_leases
    tail-set =
        let j : ℕ = i - fixed_places in
        let x : List (List ℕ) = drop fixed_places ls in
        let n : List ℕ = digits count_size (extras ls) in
        let z : i ≡ fixed_places + j = omega arith in
        let lx : j < length x = rw length-drop (omega arith) in
        let s : drop fixed_places (set ls i r) ≡ set x j r =
        ap (λ (m : ℕ). drop fixed_places (set ls m r)) z ∙ drop-set-add fixed_places ls j r in
        rw (extras-set ls i r, s)
        (put_right (tail_size j) (record_size * j) r n (join x)
        (omega (arith, length_digits count_size (extras ls)))
        ∙ ap (λ (y : List ℕ). n ++ y) (put-joined x j r (each_drop _ fixed_places ls sizes) lx l))

-- another count in front of the extras
put_count : (m n : ℕ) (x : List ℕ) → put 0 (digits count_size n) (digits count_size m ++ x) ≡ digits count_size n ++ x
put_count m n x =
    let e : length (digits count_size m) ≡ length (digits count_size n) =
    length_digits count_size m ∙ sym (length_digits count_size n) in
    put-over 0 [] (digits count_size m) (digits count_size n) x refl e

module _ (p : Parts) (h : fixed_places ≤ length p.leases) where
  abbrev four : List (List ℕ)
  four = take fixed_places p.leases

  abbrev more : List (List ℕ)
  more = drop fixed_places p.leases

  abbrev count : ℕ
  count = extras p.leases

  -- a record behind the extras, and the count with it
  module _ (r : List ℕ) where
    head_more : head_of p ≡ head_of (with_leases p (p.leases ++ (r ∷ [])))
    unfolding head_of front_of count_in with_leases
    head_more = rw (take-append-le fixed_places p.leases (r ∷ []) h)

    tail_more : put 0 (digits count_size (count + 1)) (tail_of p ++ r) ≡ tail_of (with_leases p (p.leases ++ (r ∷ [])))
    unfolding tail_of with_leases
    tail_more =
        rw (
          extras_more p.leases r h,
          drop-append-le fixed_places p.leases (r ∷ []) h,
          join_snoc more r,
          append_assoc (digits count_size count) (join more) r,
        )
        (put_count count (count + 1) (join more ++ r))

  -- the empty extras at the end left out, and the count without them
  four_long : length four ≡ fixed_places
  four_long = length-take-le fixed_places p.leases h

  head_trimmed : head_of p ≡ head_of (with_leases p (drop_tail p.leases))
  unfolding head_of front_of count_in with_leases drop_tail
  head_trimmed = rw (take_at four (trim more) fixed_places four_long)

  extras_trimmed : extras (drop_tail p.leases) ≡ length (trim more)
  unfolding extras drop_tail
  extras_trimmed = rw (length-append, four_long) (omega arith)

  tail_split : Each Place p.leases →
      tail_of p ≡ digits count_size count ++ join (trim more) ++ replicate (record_size * (count - length (trim more))) 0
  unfolding tail_of extras
  tail_split v =
      rw (← length-drop fixed_places p.leases, append_assoc)
      (ap (λ (l : List ℕ). digits count_size (length more) ++ l)
      (trim_zeros more (each_drop Place fixed_places p.leases v)))

  more_trimmed : drop fixed_places (drop_tail p.leases) ≡ trim more
  unfolding drop_tail
  more_trimmed = drop_at four (trim more) fixed_places four_long

  tail_trimmed : put 0 (digits count_size (length (trim more))) (digits count_size count ++ join (trim more))
      ≡ tail_of (with_leases p (drop_tail p.leases))
  unfolding tail_of with_leases
  tail_trimmed = put_count count (length (trim more)) (join (trim more)) ∙ rw (extras_trimmed, more_trimmed)

-- ---- the later expiry
later-put : (x : ℕ) (r : List ℕ) → expiry_of r ≤ x → put expiry_at (digits 4 x) r ≡ later x r
unfolding later
later-put x r h =
    let m : max (expiry_of r) x ≡ x = omega arith in
    rw (length_digits 4 x, m) (append_assoc (take expiry_at r) (digits 4 x) (drop renewal_at r))

later_same : (x : ℕ) (r : List ℕ) → length r ≡ record_size → Octets r → x ≤ expiry_of r → later x r ≡ r
unfolding later expiry_of
later_same x r l o h =
    let n : ℕ = number_at 4 expiry_at r in
    let m : max n x ≡ n = omega arith in
    let d : take 4 (drop expiry_at r) ≡ digits 4 n = digits_at r 4 expiry_at n (omega arith) o refl in
    rw m (ap (λ (y : List ℕ). take expiry_at r ++ y) (sym (field_then r expiry_at 4 renewal_at _ _ refl d refl))
    ∙ take-append-drop expiry_at r)

-- ---- the changes
-- the extras of a view, read back
extras-back : {n a k : ℕ} {c h d : List ℕ} (m : ℕ) (x : List (List ℕ)) →
    Laid n a k c h d (digits count_size m ++ join x) → Each (λ r. length r ≡ record_size) x →
    records (length x) (extras_at a) c ≡ x
extras-back {n} {a} {k} {c} {h} {d} m x l e =
    let z : List ℕ = replicate (n - (a + k)) 0 in
    let t : List ℕ = digits count_size m ++ join x ++ z in
    let lp : length (h ++ d) ≡ a = rw length-append (omega (arith, l.head, l.upto)) in
    let y : drop a c ≡ t =
    ap (drop a) (l.is ∙ sym (append_assoc h d t)) ∙ drop_at (h ++ d) t a lp in
    let b : drop (extras_at a) c ≡ join x ++ z =
    sym (drop-drop count_size a c) ∙ ap (drop count_size) (y ∙ append_assoc (digits count_size m) (join x) z)
    ∙ drop_at (digits count_size m) (join x ++ z) count_size (length_digits count_size m) in
    records-back (length x) (extras_at a) c x z b refl e

count_leased : (c : List ℕ) (f : Frame) → Known c f → (ls : List (List ℕ)) →
    count_in (with_leases (parts_of c) ls) ≡ f.offset
unfolding count_in with_leases
count_leased c f k ls = sym (count_is (parts_of c)) ∙ parts_count c k.formed ∙ sym (frame_count k)

pub used_leases : (c : List ℕ) (f : Frame) → Known c f → (ls : List (List ℕ)) →
    used (with_leases (parts_of c) ls) ≡ used_length f.offset (extras ls)
unfolding used with_leases parts_of
used_leases c f k ls = rw (count_leased c f k ls)

-- the count says how many extras are left without the empty ones at the tail
abbrev pub recounted : Frame → List ℕ → List ℕ
recounted f d =
    put f.offset (digits count_size (length (trim (records f.extras (extras_at f.offset) d)))) d

module _ (c : List ℕ) (f : Frame) (k : Known c f) (o : Octets c) where
  abbrev P : Parts
  P = parts_of c

  -- d has the view of c with the leases ls, and m bytes of tail
  abbrev pub Leased : List (List ℕ) → ℕ → List ℕ → Type 0
  Leased ls m d =
      Laid (length c) f.offset m d (head_of (with_leases P ls)) (loose (data_of c) (slack_of c))
      (tail_of (with_leases P ls))

  leased : (ls : List (List ℕ)) (m : ℕ) (d : List ℕ) → Leased ls m d → m ≡ tail_size (extras ls) →
      d ≡ leased_as c ls
  unfolding with_leases parts_of
  leased ls m d l e =
      laid_encoded (with_leases P ls) m d (rw (count_leased c f k ls) l)
      (used_leases c f k ls ∙ rw (e, count_leased c f k ls) (omega (arith, used_is f.offset (extras ls))))

  abbrev size : ℕ
  size = tail_size f.extras

  valid : Valid P
  valid = parts_valid c k.formed

  long : fixed_places ≤ length (leases_of c)
  long = omega (arith, length_leases c)

  -- a record put at a place
  laid_set : (i : ℕ) (r : List ℕ) → i < fixed_places + f.extras → length r ≡ record_size →
      Leased (set (leases_of c) i r) size (put (place_at f.offset i) r c)
  unfolding parts_of
  laid_set i r h l =
      let g : i < length (leases_of c) = omega (arith, known_places c f k) in
      let w = formed_laid c f k o in
      let j : ℕ = record_size * (i - fixed_places) in
      by_place i
      (λ (b : i < fixed_places).
      rw (fixed_at f.offset i b, ← head-set P valid i r l g b, ← tail-same P valid i r l g b)
      (put-head w (leases_at + record_size * i) r (omega arith)))
      (λ (b : fixed_places ≤ i).
      rw (extra_at f.offset i b, ← head-same P valid i r l g b, ← tail-set P valid i r l g b)
      (put-tail w (extras_at f.offset + j) (count_size + j) r (omega arith)
      (omega arith)))

  pub put_place : (i : ℕ) (r : List ℕ) → i < fixed_places + f.extras → length r ≡ record_size →
      put (place_at f.offset i) r c ≡ leased_as c (set (leases_of c) i r)
  put_place i r h l =
      leased (set (leases_of c) i r) size _ (laid_set i r h l) (rw (extras-set (leases_of c) i r, extras_framed k))

  -- a new extra
  pub put_extra : (r : List ℕ) → used_length f.offset (f.extras + 1) ≤ length c → length r ≡ record_size →
      put f.offset (digits count_size (f.extras + 1)) (put (used_length f.offset f.extras) r c)
      ≡ leased_as c (leases_of c ++ (r ∷ []))
  unfolding parts_of
  put_extra r h l =
      let ls : List (List ℕ) = leases_of c ++ (r ∷ []) in
      let n : List ℕ = digits count_size (f.extras + 1) in
      let e = extras_framed k in
      let u = used_is f.offset in
      let b = put_behind (formed_laid c f k o) (used_length f.offset f.extras) r (omega (arith, u f.extras))
      (omega (arith, h, u (f.extras + 1))) in
      let w = put-tail b f.offset 0 n (omega arith)
      (omega (arith, length_digits count_size (f.extras + 1))) in
      let t : put 0 n (tail_of P ++ r) ≡ tail_of (with_leases P ls) =
      ap (λ (m : ℕ). put 0 (digits count_size (m + 1)) (tail_of P ++ r)) (sym e) ∙ tail_more P long r in
      leased ls (size + length r) _ (rw (← t, ← head_more P long r) w)
      (rw (extras_more (leases_of c) r long, e) (omega arith))

  -- other places, as many as before, and the tail dropped
  module _ (ls : List (List ℕ)) (many : length ls ≡ length (leases_of c)) (sound : Each Place ls) (d : List ℕ)
      (laid : Leased ls size d) where
    abbrev Q : Parts
    Q = with_leases P ls

    abbrev extra : List (List ℕ)
    extra = drop fixed_places ls

    as_long : fixed_places ≤ length ls
    as_long = rw many long

    as_many : extras ls ≡ f.extras
    unfolding extras
    as_many = rw many (extras_framed k)

    extra_long : length extra ≡ f.extras
    unfolding extras
    extra_long = length-drop fixed_places ls ∙ as_many

    -- the extras as they stand then
    extras-read : records f.extras (extras_at f.offset) d ≡ extra
    unfolding tail_of with_leases
    extras-read =
        rw (← extra_long)
        (extras-back (extras ls) extra laid (each_drop _ fixed_places ls (places_sizes ls sound)))

    pub drop_tail_lem : recounted f d ≡ leased_as c (drop_tail ls)
    unfolding with_leases
    drop_tail_lem =
        let n : ℕ = length (trim extra) in
        let j : ℕ = record_size * (extras ls - n) in
        let u : List ℕ = digits count_size (extras ls) ++ join (trim extra) in
        let few : n ≤ f.extras = omega (arith, length-trim extra, extra_long) in
        let w = put-tail (tail_less laid j u (tail_split Q as_long sound) (omega (arith, as_many)))
        f.offset 0 (digits count_size n) (omega arith)
        (omega (arith, length_digits count_size n, as_many)) in
        rw extras-read
        (leased (drop_tail ls) (size - j) _ (rw (← tail_trimmed Q as_long, ← head_trimmed Q as_long) w)
        (rw (extras_trimmed Q as_long) (omega (arith, as_many))))

  -- one place emptied, and the tail dropped
  pub drop_place : (i : ℕ) → i < fixed_places + f.extras → (d : List ℕ) → d ≡ put (place_at f.offset i) no_lease c →
      recounted f d ≡ leased_as c (drop_tail (set (leases_of c) i no_lease))
  unfolding parts_of
  drop_place i h d e =
      drop_tail_lem (set (leases_of c) i no_lease) (length-set (leases_of c) i no_lease)
      (each_set Place (leases_of c) i no_lease valid.places no_lease_lem) d
      (rw e (laid_set i no_lease h no_lease_lem.size))

  -- a place that keeps the later expiry
  module _ (i x p : ℕ) (h : i < fixed_places + f.extras) (q : p ≡ place_at f.offset i) where
    abbrev r : List ℕ
    r = take record_size (drop p c)

    ends : p + record_size ≤ length c
    ends = rw q (place_inside c f k i h)

    lr : length r ≡ record_size
    lr = length-take-le record_size (drop p c) (rw length-drop (omega (arith, ends)))

    is_lease_lem : get_or (leases_of c) i [] ≡ r
    is_lease_lem = lease_at c f k i h ∙ rw q

    pub put_expiry : number_at 4 (p + expiry_at) c < x →
        put (p + expiry_at) (digits 4 x) c ≡ leased_as c (extended x (leases_of c) i)
    unfolding extended
    put_expiry l =
        let ld : length (digits 4 x) ≡ 4 = length_digits 4 x in
        put-within p expiry_at record_size (digits 4 x) c (omega arith) ends
        ∙ ap₂ (λ (a : ℕ) (y : List ℕ). put a y c) q (later-put x r (omega (arith, expiry_at_lem p c)))
        ∙ put_place i (later x r) h (length-later x r lr) ∙ rw is_lease_lem

    pub keep_expiry : x ≤ number_at 4 (p + expiry_at) c → c ≡ leased_as c (extended x (leases_of c) i)
    unfolding extended with_leases parts_of
    keep_expiry l =
        let or : Octets r = octets_take record_size (drop p c) (octets_drop p c o) in
        let y : later x (get_or (leases_of c) i []) ≡ get_or (leases_of c) i [] =
        rw is_lease_lem (later_same x r lr or (omega (arith, expiry_at_lem p c))) in
        sym (rw (y, set-get_or (leases_of c) i []) (encode_parts c k.formed o))
