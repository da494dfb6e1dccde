-- The sweep over a container's bytes: one place, places in a row, a judged container, and what is answered. Assumes
-- nothing.
use mathlib.Core.Path.{◌≡◌, refl, sym, ap, ap₂, ◌∙◌}
use mathlib.Core.Bool.{Bool, true, false, cond}
use mathlib.Core.List.{List, [], ◌++◌, append-nil, map, map-append}
use Prim.Native.Nat.{ℕ, suc, ◌+◌, ◌-◌, ◌*◌, ◌≤◌, ◌<◌}
use native.Mathlib.Omega.{arith}
use lib.Dec.{eqb}
use lib.ListN.{length, take, drop, replicate, length-drop, length-map, take-append-drop, drop_of_length-le}
use lib.Seq.{length-take-le, take-add, take_at, drop_at}
use borrow.Author.Tests.{lt-ltb, le-ltb, ne_eqb}
use Rattle.octets.specs.Facts.{Octets, Each}
use Rattle.octets.specs.Moves.{put}
use Rattle.octets.specs.Numbers.{number_at, digits}
use Rattle.octets.specs.Strings.{join}
use Rattle.octets.specs.Rows.{first_row}
use Rattle.octets.proofs.ListLaws.{each_take, each_drop}
use Rattle.octets.proofs.MoveLaws.{put-put, put_right, put-end, put-beyond, put-length}
use Rattle.octets.proofs.NumberLaws.{length_digits}
use Rattle.format.specs.Claims.{Place, Valid}
use Rattle.format.specs.Container.{held, container_rows}
use Rattle.std.specs.Prelude.{Err}
use Rattle.format.specs.Judging.{Judges, Known}
use Rattle.format.specs.declared.judging.Flaw.{Flaw}
use Rattle.format.specs.declared.judging.Flaw.TheVariants.{BadLength, Malformed}
use Rattle.rules.specs.Refusals.{number_of, refusal_of}
use Rattle.format.specs.Layout.{count_size, expiry_at, expiry_of, extras_at, fixed_places, lease_limit, leases_at, leases_of}
use Rattle.format.specs.Layout.{record_size, records, count_at, extras_of}
use Rattle.format.specs.Parts.{count_in, extras, front_of, head_of, no_lease, Parts, parts_of, tail_of}
use Rattle.format.specs.View.{tail_size}
use Rattle.format.specs.declared.layout.Frame.{Frame}
use Rattle.format.proofs.JudgingLaws.{known_sized}
use Rattle.format.proofs.KnownLaws.{extras_framed, frame_count, frame_extras}
use Rattle.format.proofs.RoundTrip.{extra_bytes, four_bytes, no_lease_lem, no_lease-held, parts_valid, places_sizes}
use Rattle.format.proofs.ViewLaws.{formed_laid, length_front, put-head, put-tail}
use Rattle.format.proofs.WellFormed.{length-join, length-records, records_shift}
use Rattle.rules.specs.Leasing.{present}
use Rattle.rules.specs.Outcomes.{answer_of, no_node, with_leases}
use Rattle.leases.specs.Changes.{leased_as}
use Rattle.leases.proofs.PlaceLaws.{expiry_at_lem, known_places, present-append, present_most}
use Rattle.leases.proofs.ChangeLaws.{drop_tail_lem, Leased, recounted}
use Rattle.leases.proofs.OperationLaws.{present-drop_tail}
use Rattle.upkeep_rules.specs.Sweeping.{after_sweep, expired, swept, sweep_answer, sweep_outcome, sweep_to, swept_container}
use Rattle.upkeep_rules.specs.Sweeping.{swept_place}
use Rattle.upkeep_rules.proofs.SweepLaws.{places_swept}

-- ---- one place
swept_size : (time : ℕ) (r : List ℕ) → length r ≡ record_size → length (swept_place time r) ≡ record_size
unfolding swept_place
swept_size time r l = go (expired time r)
  where
    go : (b : Bool) → length (cond b no_lease r) ≡ record_size
    go true = no_lease_lem.size
    go false = l

-- the place at p is swept: whether a lease is left in it, and d are the bytes
abbrev pub Swept : ℕ → ℕ → List ℕ → Bool → List ℕ → Type 0
Swept time p c b d =
    let r : List ℕ = take record_size (drop p c) in
    (b ≡ held (swept_place time r)) × (d ≡ put p (swept_place time r) c)

module _ (time p : ℕ) (c : List ℕ) (fits : p + record_size ≤ length c) where
  abbrev r : List ℕ
  r = take record_size (drop p c)

  place_size : length r ≡ record_size
  place_size = length-take-le record_size (drop p c) (rw length-drop (omega arith))

  put_same : put p r c ≡ c
  put_same = rw (place_size, ← take-add p record_size c) (take-append-drop (p + record_size) c)

  stays : (b : Bool) → held r ≡ b → swept_place time r ≡ r → Swept time p c b c
  stays b h e = rw (e, h) (refl, sym put_same)

  pub stays_empty : held r ≡ false → Swept time p c false c
  unfolding swept_place expired
  stays_empty h = stays false h (rw h)

  pub lasts : held r ≡ true → time ≤ number_at 4 (p + expiry_at) c → Swept time p c true c
  unfolding swept_place expired
  lasts h e = stays true h (rw (h, le-ltb (expiry_of r) time (omega (arith, expiry_at_lem p c))))

  pub emptied : held r ≡ true → number_at 4 (p + expiry_at) c < time →
      Swept time p c false (put p (replicate (p + record_size - p) 0) c)
  unfolding swept_place expired no_lease
  emptied h e =
      let z : p + record_size - p ≡ record_size = omega arith in
      let s : swept_place time r ≡ no_lease = rw (h, lt-ltb (expiry_of r) time (omega (arith, expiry_at_lem p c))) in
      rw (s, no_lease-held, z) (refl, refl)

-- ---- places in a row
abbrev pub swept_from : ℕ → ℕ → ℕ → List ℕ → List (List ℕ)
swept_from time n p c = map (swept_place time) (records n p c)

-- what is put before them leaves them
records-beyond : (n p at : ℕ) (r c : List ℕ) → at ≤ length c → at + length r ≤ p →
    records n p (put at r c) ≡ records n p c
records-beyond n p at r c h l =
    let z : p ≡ p + 0 = omega arith in
    ap (λ (i : ℕ). records n i (put at r c)) z ∙ records_shift n p 0 (put at r c)
    ∙ ap (records n 0) (put-beyond at p r c h l)
    ∙ sym (ap (λ (i : ℕ). records n i c) z ∙ records_shift n p 0 c)

one_most : (b : Bool) → cond b 1 0 ≤ 1
one_most true = omega arith
one_most false = omega arith

-- the places from i on are still to be swept in c: what is left, put into c, is the whole, put into c₀
pub record Sweeping (time from n : ℕ) (c₀ : List ℕ) (i count : ℕ) (c : List ℕ) : Type 0 where
  pub long : length c ≡ length c₀
  pub inside : from + record_size * n ≤ length c
  pub few : count ≤ i
  pub counted : present (swept_from time n from c₀) ≡ count + present (swept_from time (n - i) (from + record_size * i) c)
  pub bytes : put from (join (swept_from time n from c₀)) c₀
      ≡ put (from + record_size * i) (join (swept_from time (n - i) (from + record_size * i) c)) c

module _ (time from n : ℕ) (c₀ : List ℕ) where
  pub sweeping-none : from + record_size * n ≤ length c₀ → Sweeping time from n c₀ 0 0 c₀
  sweeping-none h =
      let p : from + record_size * 0 ≡ from = omega arith in
      let m : n - 0 ≡ n = omega arith in
      record { long = refl; inside = h; few = omega arith; counted = rw (p, m) (omega arith); bytes = rw (p, m) refl }

  -- a turn, by where its place begins and how many come behind it
  sweeping_turn : (i count left at : ℕ) (b : Bool) (c d : List ℕ) → Sweeping time from n c₀ i count c → i < n →
      n - i ≡ suc left → from + record_size * i ≡ at → from + record_size * (i + 1) ≡ at + record_size →
      n - (i + 1) ≡ left → Swept time at c b d → Sweeping time from n c₀ (i + 1) (count + cond b 1 0) d
  unfolding records join present
  sweeping_turn i count left at b c d s h m p q l w =
      let r : List ℕ = swept_place time (take record_size (drop at c)) in
      let f : at + record_size ≤ length c = omega (arith, s.inside) in
      let lr : length r ≡ record_size = swept_size time _ (place_size time at c f) in
      let ld : length d ≡ length c = ap length w.1 ∙ put-length at r c (omega arith) in
      let e : swept_from time left (at + record_size) d ≡ swept_from time left (at + record_size) c =
      ap (map (swept_place time))
      (ap (records left (at + record_size)) w.1 ∙ records-beyond left (at + record_size) at r c (omega arith) (omega arith)) in
      record {
        long = ld ∙ s.long;
        inside = omega (arith, s.inside);
        few = omega (arith, s.few, one_most b);
        counted = rw (q, l, e) (omega (arith, rw (m, p, ← w.0) at s.counted));
        bytes =
            rw (m, p) at s.bytes
            ∙ rw (q, l, e, w.1) (sym (put-put at (at + record_size) r (join (swept_from time left (at + record_size) c)) c (omega arith) (omega arith)));
      }

  pub sweeping_more : (i count : ℕ) (b : Bool) (c d : List ℕ) → Sweeping time from n c₀ i count c → i < n →
      Swept time (from + record_size * i) c b d → Sweeping time from n c₀ (i + 1) (count + cond b 1 0) d
  sweeping_more i count b c d s h w =
      sweeping_turn i count (n - (i + 1)) (from + record_size * i) b c d s h (omega arith) refl (omega arith) refl w

  pub sweeping_all : (i count : ℕ) (c : List ℕ) → Sweeping time from n c₀ i count c → n ≤ i →
      (count ≡ present (swept_from time n from c₀)) × (c ≡ put from (join (swept_from time n from c₀)) c₀)
  unfolding records join present
  sweeping_all i count c s h =
      let m : n - i ≡ 0 = omega arith in
      (omega (arith, rw m at s.counted), sym (s.bytes ∙ rw m (put-end (from + record_size * i) [] c refl)))

-- ---- a judged container
put_whole : (m r : List ℕ) → length m ≡ length r → put 0 r m ≡ r
put_whole m r e = rw (drop_of_length-le m {i = 0 + length r} (omega arith)) (append-nil r)

-- all places replaced: the four are the end of the head, the extras of the tail
module _ (p : Parts) (v : Valid p) (ls : List (List ℕ)) (many : length ls ≡ length p.leases)
    (sizes : Each (λ r. length r ≡ record_size) ls) where
  abbrev four : List (List ℕ)
  four = take fixed_places ls

  abbrev more : List (List ℕ)
  more = drop fixed_places ls

  four_size : length (join four) ≡ fixed_places * record_size
  four_size =
      length-join four (each_take _ fixed_places ls sizes)
      ∙ rw (length-take-le fixed_places ls (omega (arith, v.four)))

  more_size : length (join more) ≡ record_size * extras p.leases
  unfolding extras
  more_size = length-join more (each_drop _ fixed_places ls sizes) ∙ rw (length-drop fixed_places ls, many)

  head_all : put leases_at (join four) (head_of p) ≡ head_of (with_leases p ls)
  unfolding head_of front_of count_in with_leases
  head_all =
      put_right leases_at 0 (join four) (front_of p) (join (take fixed_places p.leases))
      (omega (arith, length_front p v))
      ∙ ap (λ (x : List ℕ). front_of p ++ x) (put_whole _ (join four) (four_bytes p v ∙ sym four_size))

  tail_all : put count_size (join more) (tail_of p) ≡ tail_of (with_leases p ls)
  unfolding tail_of with_leases extras
  tail_all =
      let n : List ℕ = digits count_size (length p.leases - fixed_places) in
      rw many
      (put_right count_size 0 (join more) n (join (drop fixed_places p.leases))
      (omega (arith, length_digits count_size (length p.leases - fixed_places)))
      ∙ ap (λ (x : List ℕ). n ++ x) (put_whole _ (join more) (extra_bytes p v ∙ sym more_size)))

-- all places are swept, with n leases left, and d are the bytes; the tail is still to be dropped
pub record AllSwept (time : ℕ) (c : List ℕ) (f : Frame) (n : ℕ) (d : List ℕ) : Type 0 where
  pub few : n ≤ lease_limit
  pub counts : n ≡ present (swept time (leases_of c))
  pub leaves : recounted f d ≡ leased_as c (swept time (leases_of c))

module _ (c : List ℕ) (f : Frame) (k : Known c f) (o : Octets c) where
  valid : Valid (parts_of c)
  valid = parts_valid c k.formed

  laid_all : (ls : List (List ℕ)) → length ls ≡ length (leases_of c) → Each (λ r. length r ≡ record_size) ls →
      Leased c f k o ls (tail_size f.extras)
      (put (extras_at f.offset) (join (drop fixed_places ls)) (put leases_at (join (take fixed_places ls)) c))
  unfolding parts_of
  laid_all ls many sizes =
      let w = put-head (formed_laid c f k o) leases_at (join (take fixed_places ls))
      (omega (arith, four_size (parts_of c) valid ls many sizes)) in
      rw (← head_all (parts_of c) valid ls many sizes, ← tail_all (parts_of c) valid ls many sizes)
      (put-tail w (extras_at f.offset) count_size (join (drop fixed_places ls)) refl
      (omega (arith, more_size (parts_of c) valid ls many sizes, extras_framed k)))

  module _ (time : ℕ) where
    abbrev all : List (List ℕ)
    all = map (swept_place time) (leases_of c)

    abbrev first : List (List ℕ)
    first = swept_from time fixed_places leases_at c

    abbrev others : List (List ℕ)
    others = swept_from time f.extras (extras_at f.offset) c

    all_are : all ≡ first ++ others
    unfolding leases_of
    all_are =
        rw (frame_count k, frame_extras k)
        (map-append (swept_place time) (records fixed_places leases_at c) (records (extras_of c) (extras_at (count_at c)) c))

    first_long : length first ≡ fixed_places
    first_long = length-map (records fixed_places leases_at c) (swept_place time) ∙ length-records fixed_places leases_at c

    first_are : take fixed_places all ≡ first
    first_are = rw all_are (take_at first others fixed_places first_long)

    others_are : drop fixed_places all ≡ others
    others_are = rw all_are (drop_at first others fixed_places first_long)

    sound : Each Place all
    unfolding parts_of
    sound = places_swept time (leases_of c) valid.places

    as_many : length all ≡ length (leases_of c)
    as_many = length-map (leases_of c) (swept_place time)

    counts : present first + present others ≡ present all
    counts = sym (ap present all_are ∙ present-append first others)

    -- the four are swept first, which leaves the extras as they are
    others_stay : swept_from time f.extras (extras_at f.offset) (put leases_at (join first) c) ≡ others
    unfolding parts_of
    others_stay =
        let l : length (join first) ≡ fixed_places * record_size =
        rw first_are at (four_size (parts_of c) valid all as_many (places_sizes all sound)) in
        let z = known_sized c f k in
        ap (map (swept_place time))
        (records-beyond f.extras (extras_at f.offset) leases_at (join first) c (omega arith) (omega arith))

    -- the four, with x leases left, then the extras, with y
    pub all_swept : (x y q : ℕ) (d e : List ℕ) → (x ≡ present first) × (d ≡ put leases_at (join first) c) →
        q ≡ extras_at f.offset →
        (y ≡ present (swept_from time f.extras q d)) × (e ≡ put q (join (swept_from time f.extras q d)) d) →
        AllSwept time c f (x + y) e
    unfolding swept
    all_swept x y q d e g h w =
        let u : swept_from time f.extras q d ≡ others = rw (h, g.1) others_stay in
        let t = rw (others_are, first_are) at (laid_all all as_many (places_sizes all sound)) in
        let n : x + y ≡ present all = ap₂ ◌+◌ g.0 (w.0 ∙ ap present u) ∙ counts in
        record {
          few = omega (arith, present_most all, as_many, known_places c f k, (known_sized c f k).few);
          counts = n ∙ sym (present-drop_tail all);
          leaves = drop_tail_lem c f k o all as_many sound e (rw (w.1, u, h, g.1) t);
        }

-- ---- what is answered
sweep_refused : (c : List ℕ) (time n : ℕ) → suc n ≡ first_row (container_rows c) →
    (answer_of (suc n) no_node 0 ≡ sweep_answer c time) × (c ≡ swept_container c time)
unfolding sweep_answer sweep_to sweep_outcome swept_container
sweep_refused c time n e =
    let z : eqb (suc n) 0 ≡ false = ne_eqb (suc n) 0 (λ w. omega arith) in
    rw (← e, z) (refl, refl)

pub sweep_flawed : (c : List ℕ) (time : ℕ) (e : Flaw) → Judges c (Err e) →
    (answer_of (number_of (refusal_of e)) no_node 0 ≡ sweep_answer c time) × (c ≡ swept_container c time)
sweep_flawed c time BadLength j = sweep_refused c time 0 j.number
sweep_flawed c time Malformed j = sweep_refused c time 1 j.number

pub sweep_done : (c : List ℕ) (time n : ℕ) (d : List ℕ) → 0 ≡ first_row (container_rows c) →
    (n ≡ present (swept time (leases_of c))) × (d ≡ leased_as c (swept time (leases_of c))) →
    (answer_of 0 no_node n ≡ sweep_answer c time) × (d ≡ swept_container c time)
unfolding sweep_answer sweep_to sweep_outcome swept_container after_sweep with_leases parts_of
sweep_done c time n d e w = rw (← e, w.0, w.1) (refl, refl)
