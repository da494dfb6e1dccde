-- The sweep: any bytes, any time, each number exactly when, and what it leaves. Assumes nothing.
use mathlib.Core.Path.{◌≡◌, refl, sym, ap, ◌∙◌}
use mathlib.Core.Bool.{Bool, true, false, true≢false, false≢true}
use mathlib.Core.List.{List, [], ◌∷◌, map}
use mathlib.Core.Logic.{◌↔◌}
use Prim.Native.Nat.{ℕ, ◌≤◌, ◌<◌}
use native.Mathlib.Omega.{arith}
use lib.Dec.{eqb}
use lib.ListN.{length, length-map}
use borrow.Author.Tests.{ne_eqb}
use Rattle.octets.specs.Facts.{Among}
use Rattle.octets.specs.Lists.{any_of}
use Rattle.octets.specs.Rows.{first_row}
use Rattle.format.specs.Layout.{leases_of, expiry_of, count_at}
use Rattle.format.specs.Container.{length_allowed, held, well_formed}
use Rattle.format.specs.Parts.{Parts, count_in, parts_of, encode}
use Rattle.format.specs.Claims.{Valid}
use Rattle.format.proofs.RoundTrip.{leases_encode, parts_encode, encode_formed, encode_parts, parts_valid}
use Rattle.format.proofs.RoundTrip.{parts_count}
use Rattle.rules.specs.Outcomes.{with_leases}
use Rattle.upkeep_rules.specs.Sweeping.{swept_place, swept, after_sweep, sweep_outcome, sweep_to, sweep_answer}
use Rattle.upkeep_rules.specs.Sweeping.{swept_container}
use Rattle.upkeep_rules.specs.Claims.{Sweeps, DemandSweep}
use Rattle.upkeep_rules.proofs.SweepLaws.{sweep_formed, places_swept, swept_valid}
use Rattle.upkeep_rules.proofs.NumberLaws.{given, other, not_both}
use Rattle.upkeep_rules.proofs.LeftLaws.{only-drop_tail, at_drop_tail, each_drop_tail, drop_tail-held, only-swept, at_swept}
use Rattle.upkeep_rules.proofs.LeftLaws.{each_above, none-swept}

-- ---- a well-formed container
module _ (c : List ℕ) (w : well_formed c ≡ true) (time : ℕ) where
  abbrev p : Parts
  p = after_sweep time (parts_of c)

  abbrev ls : List (List ℕ)
  ls = leases_of c

  valid : Valid (parts_of c)
  valid = parts_valid c w

  valid_after : Valid p
  valid_after = swept_valid time (parts_of c) valid

  pub swept_is : swept_container c time ≡ encode p
  unfolding swept_container
  swept_is = rw (sweep_formed c w)

  pub leases_swept : leases_of (swept_container c time) ≡ swept time ls
  unfolding after_sweep with_leases parts_of
  leases_swept = ap leases_of swept_is ∙ leases_encode p valid_after

  pub parts_swept : parts_of (swept_container c time) ≡ with_leases (parts_of c) (swept time ls)
  unfolding after_sweep parts_of
  parts_swept = ap parts_of swept_is ∙ parts_encode p valid_after

  pub swept_formed : well_formed (swept_container c time) ≡ true
  swept_formed = ap well_formed swept_is ∙ encode_formed p valid_after

  count_swept : count_at (swept_container c time) ≡ count_at c
  unfolding count_in with_leases
  count_swept =
      sym (parts_count (swept_container c time) swept_formed) ∙ ap count_in parts_swept ∙ parts_count c w

  pub sweeps : Sweeps c time
  unfolding parts_of with_leases swept after_sweep sweep_answer sweep_to
  sweeps = record {
    none_below = rw leases_swept
        (each_drop_tail (λ r. held r ≡ true → time ≤ expiry_of r) (map (swept_place time) ls) (each_above time ls));
    places = λ i. rw leases_swept
        (at_drop_tail (map (swept_place time) ls) i (rw (length-map ls (swept_place time)) valid.four)
        (places_swept time ls valid.places)
        ∙ at_swept time ls i);
    left = rw leases_swept (only-drop_tail (map (swept_place time) ls) ∙ only-swept time ls);
    count = rw (sweep_formed c w, leases_swept);
    tail = rw leases_swept valid_after.last;
    bytes = ap (λ (x : Parts). x.bytes) parts_swept;
    slack = ap (λ (x : Parts). x.slack) parts_swept;
    count_at_holds = count_swept;
    node = ap (λ (x : Parts). x.node) parts_swept;
    enabler = ap (λ (x : Parts). x.enabler) parts_swept;
    parts = parts_swept;
    nothing = λ o e. swept_is
        ∙ rw (none-swept time ls e, drop_tail-held ls valid.last) (encode_parts c w o);
  }

-- ---- any bytes
module _ (c : List ℕ) (time : ℕ) where
  abbrev number : ℕ
  number = (sweep_answer c time).number

  is_outcome : (k : ℕ) → sweep_outcome c ≡ k → number ≡ k
  unfolding sweep_answer sweep_to
  is_outcome k e = e

  refusal : (k : ℕ) → sweep_outcome c ≡ k → 0 < k → (well_formed c ≡ true → ⊥) → Among number (0 ∷ 1 ∷ 2 ∷ []) →
      (number ≡ 1) ↔ (length_allowed c ≡ false) →
      (number ≡ 2) ↔ ((length_allowed c ≡ true) × (well_formed c ≡ false)) → DemandSweep c time
  unfolding sweep_answer sweep_to swept_container
  refusal k e h n a one two =
      let z : eqb k 0 ≡ false = ne_eqb k 0 (λ q. omega (arith, h, q)) in
      let same : swept_container c time ≡ c = rw (e, z) in
      record {
        number = a;
        exactly = other k 0 e (λ q. omega (arith, h, q)) n;
        one = one;
        two = two;
        refused = λ _. same;
        uncounted = λ _. rw (e, z);
        sweeps = λ w. absurd (n w);
        container_length = ap length same;
        stays_formed = λ w. absurd (n w);
        no_node_holds = refl;
      }

  by_tests : (a w : Bool) → length_allowed c ≡ a → well_formed c ≡ w → DemandSweep c time
  unfolding sweep_outcome first_row any_of sweep_answer sweep_to parts_of with_leases
  by_tests false w ea ew =
      let e : sweep_outcome c ≡ 1 = rw ea in
      refusal 1 e (omega arith) (λ f. not_both c f ea) (rw ea refl) (given 1 e ea)
      (other 1 2 e (λ q. omega (arith, q)) (λ x. false≢true (sym ea ∙ x.0)))
  by_tests true false ea ew =
      let e : sweep_outcome c ≡ 2 = rw (ea, ew) in
      refusal 2 e (omega arith) (λ f. false≢true (sym ew ∙ f)) (rw (ea, ew) refl)
      (other 2 1 e (λ q. omega (arith, q)) (λ x. true≢false (sym ea ∙ x))) (given 2 e (ea, ew))
  by_tests true true ea ew =
      let e : number ≡ 0 = is_outcome 0 (sweep_formed c ew) in
      record {
        number = rw e refl;
        exactly = given 0 e ew;
        one = other 0 1 e (λ q. omega (arith, q)) (not_both c ew);
        two = other 0 2 e (λ q. omega (arith, q)) (λ x. true≢false (sym ew ∙ x.1));
        refused = λ n. absurd (n e);
        uncounted = λ n. absurd (n e);
        sweeps = λ w. sweeps c w time;
        container_length = ap (λ (x : Parts). x.room) (parts_swept c ew time);
        stays_formed = λ w. swept_formed c w time;
        no_node_holds = refl;
      }

-- THE SWEEP
pub demand_sweep : (c : List ℕ) (time : ℕ) → DemandSweep c time
demand_sweep c time = by_tests c time (length_allowed c) (well_formed c) refl refl
