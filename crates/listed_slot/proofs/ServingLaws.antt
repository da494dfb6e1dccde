-- What each outcome beside a list makes of answer, container, list and reply space. Assumes nothing.
use mathlib.Core.Path.{◌≡◌, refl, sym, ap, ◌∙◌}
use mathlib.Core.Bool.{Bool, true, false, cond, false≢true}
use mathlib.Core.List.{List, []}
use mathlib.Core.Option.{Option, none, some}
use Prim.Native.Nat.{ℕ, ◌≤◌, ◌<◌}
use native.Mathlib.Omega.{arith}
use lib.ListN.{length}
use lib.Dec.{eqb, leb}
use borrow.Author.Tests.{eqb-true, eq-eqb, ne_eqb, leb-true, leb-false, lt-ltb, le-ltb}
use Rattle.octets.specs.Facts.{Fits32}
use Rattle.format.specs.Container.{well_formed}
use Rattle.std.specs.Prelude.{Option as Maybe, Some, None, Result, Err}
use Rattle.format.specs.Judging.{Known, Judges}
use Rattle.format.specs.declared.judging.Flaw.{Flaw}
use Rattle.format.specs.declared.judging.Flaw.TheVariants.{BadLength, Malformed}
use Rattle.format.proofs.JudgingLaws.{judged-length, judged-malformed}
use Rattle.format.specs.Layout.{data_of, limit}
use Rattle.format.specs.Parts.{Parts, parts_of}
use Rattle.format.specs.declared.layout.Frame.{Frame}
use Rattle.format.proofs.KnownLaws.{data_framed, known_room}
use Rattle.rules.specs.Requests.{Request, test_write, add, renew, cancel, read, request_of, by_kind, kind_of}
use Rattle.rules.specs.Changes.{changes_of}
use Rattle.rules.specs.Outcomes.{answer_of, no_node, outcome, answered, container_after, reply_after}
use Rattle.rules.specs.declared.Answer.{Answer}
use Rattle.rules.specs.declared.outcomes.Refusal.{Refusal}
use Rattle.verdicts.specs.Writing.{verdict_number, verdict_of, Tells}
use Rattle.verdicts.specs.declared.writing.Verdict.{Verdict}
use Rattle.rules.proofs.OutcomeLaws.{answered-number}
use Rattle.rules.specs.Refusals.{number_of, refusal_of}
use Rattle.rules.specs.declared.outcomes.Refusal.TheVariants.{TooManyStretches, BadList}
use Rattle.rules.proofs.RefusalLaws.{Refused, Silent, silent-answer, refusal_silent, flawed}
use Rattle.requests.specs.Forms.{PartedIn, WriteRequest, asked, writes_in, write_in, cut_in}
use Rattle.requests.specs.declared.forms.Form.{Form}
use Rattle.requests.specs.declared.forms.Form.TheVariants.{TestWrite, Add, Renew, Cancel}
use Rattle.requests.specs.declared.forms.Form.TheVariants.{Read as ReadForm}
use Rattle.requests.specs.declared.forms.Parted.{Parted}
use Rattle.writing.proofs.WriteRequestLaws.{number_is}
use Rattle.container.specs.Looking.{read_bytes, read_of}
use Rattle.stretches.specs.Stretches.{Stretch, stretches_after}
use Rattle.stretches.specs.List.{list_length, row_limit, rows_at, row_count, stretches_of, list_bytes, list_ok}
use Rattle.stretches.specs.Claims.{Storable}
use Rattle.stretches.proofs.ByteLaws.{length-rows_from, list_facts}
use Rattle.stretches.proofs.Claims.{list_round_trip}
use Rattle.listed_rules.specs.Outcomes.{next_stretches, outcome_beside, list_to, answered_beside, container_beside}
use Rattle.listed_rules.specs.Outcomes.{list_after, reply_beside}
use Rattle.listed_rules.proofs.BesideLaws.{beside_by, beside-malformed, beside_formed, own_by, list_kept, list_moved}
use Rattle.listed_slot.specs.Following.{followed_by}

-- ---- requests that leave the list
-- No test-and-write.
abbrev pub Still : Option Request → Type 0
Still none = Unit {0}
Still (some (test_write k ts ws cut)) = ⊥
Still (some (add r)) = Unit {0}
Still (some (renew t x)) = Unit {0}
Still (some (cancel t)) = Unit {0}
Still (some (read rs)) = Unit {0}

still_next : (p : Parts) (w : Option Request) (rs : List Stretch) → Still w → next_stretches p w rs ≡ rs
unfolding next_stretches changes_of stretches_after
still_next p none rs h = refl
still_next p (some (test_write k ts ws cut)) rs h = absurd h
still_next p (some (add r)) rs h = refl
still_next p (some (renew t x)) rs h = refl
still_next p (some (cancel t)) rs h = refl
still_next p (some (read rs')) rs h = refl

still_list : (p : Parts) (w : Option Request) (l : List ℕ) → Still w → list_to p w l ≡ l
unfolding list_to
still_list p none l h = refl
still_list p (some (test_write k ts ws cut)) l h = absurd h
still_list p (some (add r)) l h = refl
still_list p (some (renew t x)) l h = refl
still_list p (some (cancel t)) l h = refl
still_list p (some (read rs)) l h = refl

-- Of the forms only a test-and-write's is none of them.
pub still_form : (q : List ℕ) (f : Maybe Form) → ((x : Parted) → f ≡ Some (TestWrite x) → ⊥) → Still (asked q f)
still_form q None k = tt
still_form q (Some (TestWrite t)) k = absurd (k t refl)
still_form q (Some (Add r)) k = tt
still_form q (Some (Renew t x)) k = tt
still_form q (Some (Cancel t)) k = tt
still_form q (Some (ReadForm t)) k = tt

empty_still : Still (request_of [])
unfolding request_of by_kind kind_of
empty_still = tt

-- What a caller may ask where all is lent for reading only.
pub still_read : (q : List ℕ) → Still (request_of (read_of q))
unfolding read_of read_bytes
still_read q = go (request_of q) refl
  where
    go : (w : Option Request) → request_of q ≡ w → Still (request_of (read_bytes w q))
    go none e = empty_still
    go (some (test_write k ts ws cut)) e = empty_still
    go (some (add r)) e = empty_still
    go (some (renew t x)) e = empty_still
    go (some (cancel t)) e = empty_still
    go (some (read rs)) e = rw e tt

-- ---- one call, by its outcome
-- What has to be shown of answer, container, list and reply space afterwards.
abbrev pub Served : (c l q r : List ℕ) → Answer → (d m s : List ℕ) → Type 0
Served c l q r x d m s =
    (x ≡ answered_beside c l q r)
    × ((d ≡ container_beside c l q r) × ((m ≡ list_after c l q r) × (s ≡ reply_beside c l q r)))

silent13 : Silent 13
silent13 = refusal_silent TooManyStretches (λ e. cc)

silent16 : Silent 16
silent16 = refusal_silent BadList (λ e. cc)

-- what is no container is not well formed, whatever its flaw
flawed_formed : (c : List ℕ) (e : Flaw) → Judges c (Err e) → well_formed c ≡ false
unfolding well_formed
flawed_formed c BadLength j = rw (judged-length c j)
flawed_formed c Malformed j = (judged-malformed c j).1

module _ (c l q r : List ℕ) where
  -- With the container's own number all but the list is the container's.
  own_served : {x : Answer} {d m s : List ℕ} → outcome_beside c l q (length r) ≡ outcome c q (length r) →
      x ≡ answered c q r → d ≡ container_after c q r → m ≡ list_after c l q r → s ≡ reply_after c q r →
      Served c l q r x d m s
  own_served o a e i j =
      let w = own_by c l q r o in
      (a ∙ sym w.answer, (e ∙ sym w.container, (i, j ∙ sym w.reply)))

  -- A number of the list's own changes nothing.
  silent_served : {x : Answer} (n : ℕ) → Silent n → outcome_beside c l q (length r) ≡ n → x ≡ answer_of n no_node 0 →
      Served c l q r x c l r
  unfolding answered_beside container_beside list_after reply_beside
  silent_served n s o a = (
    a ∙ rw o (silent-answer n (parts_of c) (request_of q) s),
    (rw (o, s.not_done), (rw (o, s.not_done), rw (o, s.no_reply))),
  )

  -- A container that is not well formed refuses before the list is looked at.
  malformed_served : {x : Answer} (n : ℕ) → 0 < n → well_formed c ≡ false → Refused n c q r →
      x ≡ answer_of n no_node 0 → Served c l q r x c l r
  malformed_served n h w f a =
      let o : outcome_beside c l q (length r) ≡ outcome c q (length r) = beside-malformed c l q (length r) w in
      let k : outcome c q (length r) ≡ n =
      sym (answered-number c q r) ∙ sym (ap (λ (y : Answer). y.number) f.answer) in
      let z : outcome_beside c l q (length r) ≡ 0 → ⊥ = λ e. omega (arith, o, k, e) in
      own_served o (a ∙ f.answer) f.container (sym (list_kept c l q r z)) f.reply

  pub flawed_served : {x : Answer} (e : Flaw) → Judges c (Err e) → x ≡ answer_of (number_of (refusal_of e)) no_node 0 →
      Served c l q r x c l r
  flawed_served BadLength j a =
      malformed_served 1 (omega arith) (flawed_formed c BadLength j) (flawed BadLength c q r j) a
  flawed_served Malformed j a =
      malformed_served 2 (omega arith) (flawed_formed c Malformed j) (flawed Malformed c q r j) a

  module _ (w : well_formed c ≡ true) where
    -- 16
    pub bad_list_lem : {x : Answer} → list_ok l (data_of c) ≡ false → x ≡ answer_of 16 no_node 0 → Served c l q r x c l r
    unfolding beside_by
    bad_list_lem k a = silent_served 16 silent16 (beside_formed c l q (length r) w ∙ rw k) a

    module _ (k : list_ok l (data_of c) ≡ true) where
      few_rows : length (stretches_of l) ≤ row_limit
      unfolding stretches_of
      few_rows = omega (arith, length-rows_from (row_count l) rows_at l, (list_facts l (data_of c) k).few)

      abbrev next : List Stretch
      next = next_stretches (parts_of c) (request_of q) (stretches_of l)

      -- Where no more than 256 rows would result, and where the container's own rows refuse, the number is its own.
      few_own : length next ≤ row_limit → outcome_beside c l q (length r) ≡ outcome c q (length r)
      unfolding beside_by
      few_own h =
          beside_formed c l q (length r) w ∙ rw (k, le-ltb row_limit (length next) h)
          (go (eqb (outcome c q (length r)) 0) refl)
        where
          go : (b : Bool) → eqb (outcome c q (length r)) 0 ≡ b →
              cond b 0 (outcome c q (length r)) ≡ outcome c q (length r)
          go true e = sym (eqb-true (outcome c q (length r)) 0 e)
          go false e = refl

      -- A request that leaves the list.
      pub still_served : {x : Answer} {d s : List ℕ} → Still (request_of q) → x ≡ answered c q r →
          d ≡ container_after c q r → s ≡ reply_after c q r → Served c l q r x d l s
      unfolding list_after
      still_served h a e j =
          let n : next ≡ stretches_of l = still_next (parts_of c) (request_of q) (stretches_of l) h in
          own_served (few_own (omega (arith, ap length n, few_rows))) a e
          (rw (still_list (parts_of c) (request_of q) l h) (go (eqb (outcome_beside c l q (length r)) 0))) j
        where
          go : (b : Bool) → l ≡ cond b l l
          go true = refl
          go false = refl

      -- A request that the container refuses.
      pub refused_served : {x : Answer} {d s : List ℕ} → (outcome c q (length r) ≡ 0 → ⊥) → x ≡ answered c q r →
          d ≡ container_after c q r → s ≡ reply_after c q r → Served c l q r x d l s
      unfolding beside_by
      refused_served z a e j =
          let o : outcome_beside c l q (length r) ≡ outcome c q (length r) =
          beside_formed c l q (length r) w ∙ rw (k, ne_eqb (outcome c q (length r)) 0 z) in
          own_served o a e (sym (list_kept c l q r (λ y. z (sym o ∙ y)))) j

      -- 13
      many_served : {x : Answer} → outcome c q (length r) ≡ 0 → row_limit < length next → x ≡ answer_of 13 no_node 0 →
          Served c l q r x c l r
      unfolding beside_by
      many_served z h a =
          silent_served 13 silent13
          (beside_formed c l q (length r) w ∙ rw (k, z, lt-ltb row_limit (length next) h)) a

      -- Done: the list moves too.
      done_served : {x : Answer} {d m s : List ℕ} → outcome c q (length r) ≡ 0 → length next ≤ row_limit →
          x ≡ answered c q r → d ≡ container_after c q r → m ≡ list_to (parts_of c) (request_of q) l →
          s ≡ reply_after c q r → Served c l q r x d m s
      done_served z h a e i j =
          let o : outcome_beside c l q (length r) ≡ outcome c q (length r) = few_own h in
          own_served o a e (i ∙ sym (list_moved c l q r (o ∙ z))) j

-- ---- a test-and-write beside a good list
module _ {c : List ℕ} (l : List ℕ) {q : List ℕ} {f : Frame} {t : Parted} (K : Known c f) (W : WriteRequest q t)
    (G : list_ok l (data_of c) ≡ true) where
  -- What the writes and the cut make of the list.
  abbrev made : List Stretch
  made = followed_by (writes_in t q) (cut_in t.cut) f.size (stretches_of l)

  made_is : next_stretches (parts_of c) (request_of q) (stretches_of l) ≡ made
  unfolding next_stretches changes_of parts_of
  made_is = rw (W.is, data_framed K)

  list_is : list_to (parts_of c) (request_of q) l ≡ list_bytes made
  unfolding list_to
  list_is = rw W.is (ap list_bytes (rw W.is at made_is))

  -- What writing the list asks for.
  pub list_storable : PartedIn q t
      × ((f.size ≤ limit) × ((length l ≡ list_length) × Storable (stretches_of l) f.size))
  list_storable =
      let b : f.size ≤ limit = omega (arith, known_room K) in
      let d : Fits32 (length (data_of c)) = rw (data_framed K) (omega arith) in (
        W.parted,
        (
          b,
          (
            (list_facts l (data_of c) G).long,
            rw (data_framed K) at ((list_round_trip l (data_of c) [] 0).parts_hold G d),
          ),
        ),
      )

  -- b is whether the list was written.
  module _ (r : List ℕ) {x : Answer} {b : Bool} (z : outcome c q (length r) ≡ 0)
      (B : b ≡ leb (length made) row_limit) where
    pub many-refused : {m : List ℕ} → b ≡ false → m ≡ cond b (list_bytes made) l → x ≡ answer_of 13 no_node 0 →
        Served c l q r x c m r
    many-refused {m} e i a =
        let k : m ≡ l = i ∙ rw e in
        rw k (many_served c l q r K.formed G z (rw made_is (leb-false (length made) row_limit (sym B ∙ e))) a)

    pub list_written : {d m s : List ℕ} → b ≡ true → m ≡ cond b (list_bytes made) l → x ≡ answered c q r →
        d ≡ container_after c q r → s ≡ reply_after c q r → Served c l q r x d m s
    list_written e i a p j =
        done_served c l q r K.formed G z (rw made_is (leb-true (length made) row_limit (sym B ∙ e))) a p
        (i ∙ rw e (sym list_is)) j

-- ---- the verdict v on it, and b whether it accepts
module _ {c q : List ℕ} (l r : List ℕ) {f : Frame} {t : Parted} {v : Result Verdict Refusal} {b : Bool}
    (p : Known c f × (WriteRequest q t × (list_ok l (data_of c) ≡ true)))
    (V : Tells v (verdict_of (parts_of c) (write_in t q) (length r))) (is : b ≡ eqb (verdict_number v) 0) where
  same : outcome c q (length r) ≡ verdict_number v
  same = number_is {c = c} {q = q} {r = r} {f = f} {t = t} {v = v} (record { known = p.0; request = p.1.0; verdict = V })

  pub accepted_zero : b ≡ true → outcome c q (length r) ≡ 0
  accepted_zero e = same ∙ eqb-true (verdict_number v) 0 (sym is ∙ e)

  pub refused_some : b ≡ false → outcome c q (length r) ≡ 0 → ⊥
  refused_some e z = false≢true (sym e ∙ is ∙ eq-eqb (verdict_number v) 0 (sym same ∙ z))
