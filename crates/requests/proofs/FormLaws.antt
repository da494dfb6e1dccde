-- What the tests of a request's form say, and the form that they leave. Assumes nothing.
use mathlib.Core.Path.{◌≡◌, refl, sym, ap, subst, ◌∙◌}
use mathlib.Core.Bool.{Bool, true, false, cond, not, ◌&&◌, false≢true}
use mathlib.Core.List.{List, [], ◌∷◌}
use mathlib.Core.Option.{Option, none, some}
use Rattle.std.specs.Prelude.{Option as Maybe, Some, None, Result, Ok, Err, ◌⊎◌}
use Rattle.std.proofs.Common.{inl, inr}
use Rattle.std.specs.Result.{result_ok}
use Rattle.requests.specs.declared.cursors.Next.{Next}
use Rattle.requests.specs.declared.kinds.Kind.{Kind}
use Rattle.requests.specs.declared.kinds.NoKind.{NoKind}
use Rattle.requests.specs.Kinds.{Names, kind_byte}
use Prim.Native.Nat.{ℕ, zero, suc, ◌+◌, ◌*◌, ◌-◌, ◌≤◌, ◌<◌}
use native.Mathlib.Omega.{arith}
use native.Mathlib.Nat.{mul-suc}
use native.Mathlib.Numerals.{add-one}
use lib.ListN.{length, take, drop, get_or, length-drop}
use lib.Seq.{take_all, drop-drop}
use lib.Dec.{eqb}
use borrow.Author.Tests.{eqb-true, leb-true, eq-eqb, ne_eqb, le-leb, lt-leb}
use Rattle.requests.specs.declared.cursors.Body.{Body}
use Rattle.requests.specs.declared.cursors.Record.{Record}
use Rattle.requests.specs.declared.cursors.Header.{Header}
use Rattle.requests.specs.declared.cursors.ReadHeader.{ReadHeader}
use Rattle.requests.specs.declared.forms.Form.{Form}
use Rattle.requests.specs.declared.cursors.Entry.{Entry}
use Rattle.requests.specs.declared.cursors.TestEntry.{TestEntry}
use Rattle.requests.specs.declared.forms.Form.TheVariants.{Add, Renew, Cancel}
use Rattle.octets.specs.Facts.{Octets}
use Rattle.rules.specs.Requests.{all_from, by_kind, cut_of, cut_ok, entry_count, entry_size, request_limit, specimens_at}
use Rattle.rules.specs.Requests.{sum_from, test_count, test_entry_ok, test_size, test_write_end, test_write_of, test_write_ok}
use Rattle.rules.specs.Requests.{writes_at, Request, entry_limit, entry_specimen, new_data_at, secret_at, tests_at}
use Rattle.rules.specs.Requests.{write_count, cut_flag, new_length, add_ok, cancel_ok, read_count}
use Rattle.rules.specs.Requests.{entry_ok}
use Rattle.rules.specs.Requests.{read_ok, reads_at, renew_ok, request_of, kind_of}
use Rattle.requests.specs.Cursors.{byte_at, entry_at, test_at, body_at, record_at, header_at, read_header_at}
use Rattle.std.specs.Bool.{then_some}
use Rattle.octets.specs.Lists.{is_some}
use Rattle.requests.specs.Forms.{parted_as, tests_passed, writes_passed, form_of_read, FormIn, Takes, asked, cut_in}
use Rattle.octets.proofs.ListLaws.{both, and_assoc, and-true, by_refuting}
use Rattle.requests.proofs.CursorLaws.{count_below, specimen_below}
use Rattle.format.specs.Layout.{secret_size, owner_of, expiry_of, renewal_of, expiry_at, renewal_at, record_size}
use Rattle.format.specs.Container.{held}
use Rattle.octets.specs.Numbers.{number, number_at}

-- ---- the first entry of a table and the rest
module _ (stride left p : ℕ) (h : 0 < left) where
  one : left ≡ suc (left - 1)
  one = omega arith

  pub all_next : (t : ℕ → Bool) → all_from t stride left p ≡ (t p && all_from t stride (left - 1) (p + stride))
  unfolding all_from
  all_next t = ap (λ (n : ℕ). all_from t stride n p) one

  pub sum_next : (f : ℕ → ℕ) → sum_from f stride left p ≡ f p + sum_from f stride (left - 1) (p + stride)
  unfolding sum_from
  sum_next f = ap (λ (n : ℕ). sum_from f stride n p) one

  pub times_next : stride * left ≡ stride * (left - 1) + stride
  times_next = ap (λ (n : ℕ). stride * n) one ∙ mul-suc stride (left - 1)

module _ (stride left p : ℕ) (h : left ≤ 0) where
  none_left : left ≡ 0
  none_left = omega arith

  pub all_end : (t : ℕ → Bool) → all_from t stride left p ≡ true
  unfolding all_from
  all_end t = ap (λ (n : ℕ). all_from t stride n p) none_left

-- ---- the last of a table's first entries
pub all_last : (t : ℕ → Bool) (stride n p : ℕ) → all_from t stride (n + 1) p ≡ (all_from t stride n p && t (p + stride * n))
unfolding all_from
all_last t stride n p = rw add-one (go n p)
  where
    go : (n p : ℕ) → all_from t stride (suc n) p ≡ (all_from t stride n p && t (p + stride * n))
    go zero p = let e : p + stride * 0 ≡ p = omega arith in rw e (and-true (t p))
    go (suc n) p =
        let e : p + stride * suc n ≡ p + stride + stride * n = omega (arith, mul-suc stride n) in
        rw e (ap (λ (b : Bool). t p && b) (go n (p + stride)) ∙ sym (and_assoc (t p) _ _))

pub sum_last : (f : ℕ → ℕ) (stride n p : ℕ) → sum_from f stride (n + 1) p ≡ sum_from f stride n p + f (p + stride * n)
unfolding sum_from
sum_last f stride n p = rw add-one (go n p)
  where
    go : (n p : ℕ) → sum_from f stride (suc n) p ≡ sum_from f stride n p + f (p + stride * n)
    go zero p = let e : p + stride * 0 ≡ p = omega arith in rw e (omega arith)
    go (suc n) p =
        let e : p + stride * suc n ≡ p + stride + stride * n = omega (arith, mul-suc stride n) in
        rw e (omega (arith, go n (p + stride)))

pub sum_most : (f : ℕ → ℕ) (stride b : ℕ) → ((p : ℕ) → f p < b) → (n p : ℕ) → sum_from f stride n p ≤ b * n
unfolding sum_from
sum_most f stride b h zero p = omega arith
sum_most f stride b h (suc n) p = omega (arith, h p, sum_most f stride b h n (p + stride), mul-suc b n)

pub specimens_most : (q : List ℕ) → Octets q → (n p : ℕ) → sum_from (λ i. entry_specimen i q) test_size n p ≤ 65536 * n
specimens_most q h n p = sum_most (λ i. entry_specimen i q) test_size 65536 (λ i. specimen_below i q h) n p

pub bodies_most : (q : List ℕ) → Octets q → (n p : ℕ) → sum_from (λ i. entry_count i q) entry_size n p ≤ 4294967296 * n
bodies_most q h n p = sum_most (λ i. entry_count i q) entry_size 4294967296 (λ i. count_below i q h) n p

-- ---- passing over a table
-- what passing over the first tests of a table from p on has found
pub record Testing (q : List ℕ) (p done : ℕ) (good : Bool) (sum at : ℕ) : Type 0 where
  pub reaches : at ≡ p + test_size * done
  pub tested : good ≡ all_from (test_entry_ok q) test_size done p
  pub summed : sum ≡ sum_from (λ i. entry_specimen i q) test_size done p

pub testing_start : (q : List ℕ) (p : ℕ) → Testing q p 0 true 0 p
unfolding all_from sum_from
testing_start q p = record { reaches = omega arith; tested = refl; summed = refl }

pub testing_next : {q : List ℕ} {p done : ℕ} {good : Bool} {sum at : ℕ} → Testing q p done good sum at
    → (x : TestEntry) → x ≡ test_at at q → (g : Bool) → g ≡ entry_ok x.opcode x.padding
    → Testing q p (done + 1) (good && g) (sum + x.specimen) x.next.at
unfolding test_entry_ok
testing_next {q} {p} {done} {good} {sum} {at} t x e g k = rw (k, e) (record {
  reaches = omega (arith, t.reaches);
  tested = rw (all_last, ← t.reaches, t.tested);
  summed = rw (sum_last, ← t.reaches, t.summed);
})

-- the same of writes
pub record Adding (q : List ℕ) (p done sum at : ℕ) : Type 0 where
  pub reaches : at ≡ p + entry_size * done
  pub summed : sum ≡ sum_from (λ i. entry_count i q) entry_size done p

pub adding_start : (q : List ℕ) (p : ℕ) → Adding q p 0 0 p
unfolding sum_from
adding_start q p = record { reaches = omega arith; summed = refl }

pub adding_next : {q : List ℕ} {p done sum at : ℕ} → Adding q p done sum at
    → (x : Entry) → x ≡ entry_at at entry_size q → Adding q p (done + 1) (sum + x.count) x.next.at
adding_next {q} {p} {done} {sum} {at} t x e =
    rw e (record { reaches = omega (arith, t.reaches); summed = rw (sum_last, ← t.reaches, t.summed) })

-- ---- the cut
pub cut_is : (flag new : ℕ) → cut_in (then_some (not (eqb flag 0)) new) ≡ cut_of flag new
unfolding cut_of
cut_is flag new = go (eqb flag 0)
  where
    go : (b : Bool) → cut_in (then_some (not b) new) ≡ cond b none (some new)
    go true = refl
    go false = refl

-- ---- what is there under a test
then-some : (b : Bool) (x y : ℕ) → then_some b x ≡ Some y → (b ≡ true) × (x ≡ y)
then-some true x y e = (refl, cc)
then-some false x y e = cc

then-none : (b : Bool) (x : ℕ) → then_some b x ≡ None → b ≡ false
then-none true x e = cc
then-none false x e = refl

-- ---- forms
pub takes_broken : (q : List ℕ) (w : Option Request) → w ≡ none → Takes q w None
unfolding is_some
takes_broken q w e = record { number = rw e; asks = sym e; inside = tt }

-- ---- a test-and-write
pub record TableFacts (q : List ℕ) : Type 0 where
  pub tests : test_count q ≤ entry_limit
  pub writes : write_count q ≤ entry_limit
  pub cut : cut_ok (cut_flag q) (new_length q) ≡ true
  pub ends : test_write_end q ≡ length q
  pub entries : all_from (test_entry_ok q) test_size (test_count q) tests_at ≡ true

pub table_facts : (q : List ℕ) → test_write_ok q ≡ true → TableFacts q
unfolding test_write_ok
table_facts q e =
    let a = both _ _ e in
    let b = both _ _ a.1 in
    let c = both _ _ b.1 in
    let d = both _ _ c.1 in
    record {
      tests = leb-true _ _ a.0;
      writes = leb-true _ _ b.0;
      cut = c.0;
      ends = eqb-true _ _ d.0;
      entries = d.1;
    }

table_true : (q : List ℕ) → TableFacts q → test_write_ok q ≡ true
unfolding test_write_ok
table_true q h = rw (le-leb _ _ h.tests, le-leb _ _ h.writes, h.cut, eq-eqb _ _ h.ends, h.entries)

pub no_table : (q : List ℕ) → (TableFacts q → ⊥) → Takes q (by_kind 1 q) None
unfolding by_kind
no_table q k = takes_broken q _ (rw (by_refuting (test_write_ok q) (λ e. k (table_facts q e))))

-- Where its parts begin and end.
pub record TablePlaces (q : List ℕ) : Type 0 where
  pub writes : writes_at q ≡ tests_at + test_size * test_count q
  pub specimens : specimens_at q ≡ writes_at q + entry_size * write_count q
  pub bodies : new_data_at q ≡ specimens_at q + sum_from (λ p. entry_specimen p q) test_size (test_count q) tests_at
  pub ends : test_write_end q ≡ new_data_at q + sum_from (λ p. entry_count p q) entry_size (write_count q) (writes_at q)

pub table_places : (q : List ℕ) → TablePlaces q
unfolding writes_at specimens_at new_data_at test_write_end
table_places q = record { writes = refl; specimens = refl; bodies = refl; ends = refl }

-- The header, read after the kind.
pub record HeaderIs (q : List ℕ) (x : Header) : Type 0 where
  pub tests : x.tests ≡ test_count q
  pub writes : x.writes ≡ write_count q
  pub flag : x.flag ≡ cut_flag q
  pub new : x.new ≡ new_length q
  pub next : x.next.at ≡ secret_at

pub header_is : (q : List ℕ) (p : ℕ) (x : Header) → p ≡ 1 → x ≡ header_at p q → HeaderIs q x
unfolding test_count write_count cut_flag new_length
header_is q p x k e = rw e (rw k (record { tests = refl; writes = refl; flag = refl; new = refl; next = refl }))

-- The parts where they stand by the rules.
abbrev placed_at : List ℕ → Form
placed_at q =
    parted_as (record {
      tests = test_count q;
      writes = write_count q;
      flag = cut_flag q;
      new = new_length q;
      next =
          record { at = secret_at };
    })
    (record { at = tests_at }) (record { at = writes_at q }) (record { at = specimens_at q }) (record { at = new_data_at q })

asked-placed : (q : List ℕ) → asked q (Some (placed_at q)) ≡ some (test_write_of q)
unfolding test_write_of
asked-placed q = rw (cut_is (cut_flag q) (new_length q))

inside-placed : (q : List ℕ) → TableFacts q → length q ≤ request_limit → FormIn q (placed_at q)
inside-placed q f s =
    let m = table_places q in
    let e = f.ends in
    record {
      short = s;
      enabler = omega arith;
      tests = record { wide = omega arith; narrow = omega arith; few = f.tests; inside = omega arith };
      tests_stride = refl;
      writes = record { wide = omega arith; narrow = omega arith; few = f.writes; inside = omega arith };
      writes_stride = refl;
      specimens = omega arith;
      bodies = omega arith;
    }

-- What the code has found: header x, enabler e, tests t and writes w passed over.
pub record Found (q : List ℕ) (x : Header) (e : Body) (t : Next (Maybe ℕ)) (w : Next ℕ) : Type 0 where
  pub header : HeaderIs q x
  pub enabler : e ≡ body_at x.next.at secret_size
  pub tests : t ≡ tests_passed e.next.at x.tests q
  pub writes : w ≡ writes_passed t.next.at x.writes q

pub found_by : {q : List ℕ} {p : ℕ} {x : Header} {e : Body} {t : Next (Maybe ℕ)} {w : Next ℕ} → p ≡ 1 → x ≡ header_at p q
    → e ≡ body_at x.next.at secret_size → t ≡ tests_passed e.next.at x.tests q → w ≡ writes_passed t.next.at x.writes q
    → Found q x e t w
found_by {q} {p} {x} k h e t w = record { header = header_is q p x k h; enabler = e; tests = t; writes = w }

module _ {q : List ℕ} {x : Header} {e : Body} {t : Next (Maybe ℕ)} {w : Next ℕ} (F : Found q x e t w) where
  header_next : x.next ≡ record { at = secret_at }
  header_next = ap (λ (p : ℕ). record { at = p }) F.header.next

  enabler_at_lem : e ≡ body_at secret_at secret_size
  enabler_at_lem = F.enabler ∙ rw F.header.next

  pub tests_at_lem : t ≡ tests_passed tests_at (test_count q) q
  tests_at_lem = F.tests ∙ rw (enabler_at_lem, F.header.tests)

  pub writes_at_lem : w ≡ writes_passed (writes_at q) (write_count q) q
  unfolding writes_at
  writes_at_lem = F.writes ∙ rw (tests_at_lem, F.header.writes)

  pub specimens_at_lem : w.next.at ≡ specimens_at q
  unfolding specimens_at
  specimens_at_lem = ap (λ (y : Next ℕ). y.next.at) writes_at_lem

  value_at : t.value ≡ then_some (all_from (test_entry_ok q) test_size (test_count q) tests_at)
      (sum_from (λ p. entry_specimen p q) test_size (test_count q) tests_at)
  value_at = ap (λ (y : Next (Maybe ℕ)). y.value) tests_at_lem

  pub entries_bad : t.value ≡ None → TableFacts q → ⊥
  entries_bad n h = false≢true (sym (then-none _ _ (sym value_at ∙ n)) ∙ h.entries)

  -- every entry is good, and n the specimens' lengths added up
  module _ (n : ℕ) (good : t.value ≡ Some n) where
    found_value : (all_from (test_entry_ok q) test_size (test_count q) tests_at ≡ true)
        × (sum_from (λ p. entry_specimen p q) test_size (test_count q) tests_at ≡ n)
    found_value = then-some _ _ _ (sym value_at ∙ good)

    pub entries_at : all_from (test_entry_ok q) test_size (test_count q) tests_at ≡ true
    entries_at = found_value.0

    pub length_at : n ≡ sum_from (λ p. entry_specimen p q) test_size (test_count q) tests_at
    length_at = sym found_value.1

    pub ends_at : test_write_end q ≡ w.next.at + n + w.value
    unfolding test_write_end new_data_at
    ends_at = sym (rw (specimens_at_lem, length_at, writes_at_lem))

    -- nothing wraps
    pub sums_small : Octets q → x.tests ≤ entry_limit → x.writes ≤ entry_limit → w.next.at + n + w.value < 4294967296 * 32
    sums_small o h k =
        let m = table_places q in
        let s = specimens_most q o (test_count q) tests_at in
        let b = bodies_most q o (write_count q) (writes_at q) in
        let v = ap (λ (y : Next ℕ). y.value) writes_at_lem in
        omega (arith, specimens_at_lem, length_at, F.header.tests, F.header.writes)

    placed_is : (b : Body) → b ≡ body_at w.next.at n → parted_as x e.next t.next w.next b.next ≡ placed_at q
    unfolding writes_at specimens_at new_data_at
    placed_is b k = rw (
      k,
      length_at,
      header_next,
      enabler_at_lem,
      tests_at_lem,
      writes_at_lem,
      F.header.tests,
      F.header.writes,
      F.header.flag,
      F.header.new,
    )

    pub taken : (b : Body) (r : Form) → b ≡ body_at w.next.at n → r ≡ parted_as x e.next t.next w.next b.next
        → TableFacts q → length q ≤ request_limit → Takes q (by_kind 1 q) (Some r)
    unfolding by_kind is_some
    taken b r k e f s =
        rw (e ∙ placed_is b k)
        (record {
          number = rw (table_true q f);
          asks = rw (table_true q f) (asked-placed q);
          inside = inside-placed q f s;
        })

-- ---- a read
pub record ReadFacts (q : List ℕ) : Type 0 where
  pub reads : read_count q ≤ entry_limit
  pub first : get_or q 2 0 ≡ 0
  pub second : get_or q 3 0 ≡ 0
  pub ends : reads_at + entry_size * read_count q ≡ length q

pub read_facts : (q : List ℕ) → read_ok q ≡ true → ReadFacts q
unfolding read_ok
read_facts q e =
    let a = both _ _ e in
    let b = both _ _ a.1 in
    let c = both _ _ b.1 in
    record {
      reads = leb-true _ _ a.0;
      first = eqb-true _ _ b.0;
      second = eqb-true _ _ c.0;
      ends = eqb-true _ _ c.1;
    }

read-true : (q : List ℕ) → ReadFacts q → read_ok q ≡ true
unfolding read_ok
read-true q h = rw (le-leb _ _ h.reads, h.first, h.second, eq-eqb _ _ h.ends)

pub no_read : (q : List ℕ) → (ReadFacts q → ⊥) → Takes q (by_kind 5 q) None
unfolding by_kind
no_read q k = takes_broken q _ (rw (by_refuting (read_ok q) (λ e. k (read_facts q e))))

pub record ReadHeaderIs (q : List ℕ) (x : ReadHeader) : Type 0 where
  pub reads : x.reads ≡ read_count q
  pub first : x.first ≡ get_or q 2 0
  pub second : x.second ≡ get_or q 3 0
  pub next : x.next.at ≡ reads_at

pub read_header_is : (q : List ℕ) (p : ℕ) (x : ReadHeader) → p ≡ 1 → x ≡ read_header_at p q → ReadHeaderIs q x
unfolding read_count
read_header_is q p x k e = rw e (rw k (record { reads = refl; first = refl; second = refl; next = refl }))

pub read_taken : (q : List ℕ) (x : ReadHeader) (a n : ℕ) → ReadHeaderIs q x → ReadFacts q → a ≡ x.next.at → n
    ≡ x.reads
    → Takes q (by_kind 5 q) (form_of_read (Some (record { first = record { at = a }; count = n; stride = entry_size })))
unfolding by_kind is_some
read_taken q x a n h f ea en =
    let i : a ≡ reads_at = ea ∙ h.next in
    let k : n ≡ read_count q = en ∙ h.reads in
    rw (i, k) (record {
      number = rw (read-true q f);
      asks = rw (read-true q f);
      inside = (
        record { wide = omega arith; narrow = omega arith; few = f.reads; inside = omega (arith, f.ends) },
        refl,
      );
    })

-- ---- lease requests, after their kind
rest_is : (q : List ℕ) (n : ℕ) → length q ≡ 1 + n → take n (drop 1 q) ≡ drop 1 q
rest_is q n e = take_all n (drop 1 q) (rw length-drop (omega arith))

owner_is : (q : List ℕ) → held (drop 1 q) ≡ not (eqb (number_at 4 1 q) 0)
unfolding held owner_of number_at
owner_is q = refl

pub add-length : (q : List ℕ) → (length q ≡ 1 + record_size → ⊥) → Takes q (by_kind 2 q) None
unfolding by_kind add_ok
add-length q h = takes_broken q _ (rw (ne_eqb _ _ h))

pub add_unowned : (q : List ℕ) → length q ≡ 1 + record_size → number_at 4 1 q ≡ 0 → Takes q (by_kind 2 q) None
unfolding by_kind add_ok
add_unowned q l h = takes_broken q _ (rw (eq-eqb _ _ l, owner_is q, h))

-- the fields of the record behind the kind, as they stand in the request
renewal_here : (q : List ℕ) → take secret_size (drop (1 + renewal_at) q) ≡ renewal_of (drop 1 q)
unfolding renewal_of
renewal_here q = ap (take secret_size) (sym (drop-drop renewal_at 1 q))

expiry_here : (q : List ℕ) → number_at 4 (1 + expiry_at) q ≡ expiry_of (drop 1 q)
unfolding expiry_of number_at
expiry_here q = ap (λ (s : List ℕ). number (take 4 s)) (sym (drop-drop expiry_at 1 q))

pub add_taken : (q : List ℕ) (x : Record) → length q ≡ 1 + record_size → (number_at 4 1 q ≡ 0 → ⊥) → x ≡ record_at 1 q
    → Takes q (by_kind 2 q) (Some (Add x))
unfolding by_kind add_ok is_some
add_taken q x l h e =
    let o : held (drop 1 q) ≡ true = owner_is q ∙ rw (ne_eqb _ _ h) in
    let r = rest_is q record_size l in
    rw e (record {
      number = rw (eq-eqb _ _ l, o);
      asks = rw (eq-eqb _ _ l, o, r);
      inside = record {
        whole = omega arith;
        renewal = omega arith;
        owned = rw r o;
        renewal_is = rw r (renewal_here q);
        expiry_is = rw r (expiry_here q);
      };
    })

pub renew-length : (q : List ℕ) → (length q ≡ 1 + secret_size + 4 → ⊥) → Takes q (by_kind 3 q) None
unfolding by_kind renew_ok
renew-length q h = takes_broken q _ (rw (ne_eqb _ _ h))

pub renew_taken : (q : List ℕ) (p x : ℕ) → length q ≡ 1 + secret_size + 4 → p ≡ 1
    → x ≡ number_at 4 (1 + secret_size) q → Takes q (by_kind 3 q) (Some (Renew (record { at = p }) x))
unfolding by_kind renew_ok is_some
renew_taken q p x l e f =
    rw (e, f) (record { number = rw (eq-eqb _ _ l); asks = rw (eq-eqb _ _ l); inside = omega arith })

pub cancel-length : (q : List ℕ) → (length q ≡ 1 + secret_size → ⊥) → Takes q (by_kind 4 q) None
unfolding by_kind cancel_ok
cancel-length q h = takes_broken q _ (rw (ne_eqb _ _ h))

pub cancel_taken : (q : List ℕ) (p : ℕ) → length q ≡ 1 + secret_size → p ≡ 1
    → Takes q (by_kind 4 q) (Some (Cancel (record { at = p })))
unfolding by_kind cancel_ok is_some
cancel_taken q p l e =
    rw e (record {
      number = rw (eq-eqb _ _ l);
      asks = rw (eq-eqb _ _ l, rest_is q secret_size l);
      inside = omega arith;
    })

-- ---- by the first byte
pub by_kind_lem : (q : List ℕ) (k : ℕ) (r : Maybe Form) → length q ≤ request_limit → k ≡ get_or q 0 0 → Takes q (by_kind k q) r
    → Takes q (request_of q) r
unfolding request_of kind_of
by_kind_lem q k r l e t = rw (le-leb _ _ l, ← e) t

pub too_long : (q : List ℕ) → request_limit < length q → Takes q (request_of q) None
unfolding request_of
too_long q l = takes_broken q _ (rw (lt-leb _ _ l))

unknown_kind : (q : List ℕ) (k : ℕ) → (k ≡ 0) ⊎ (5 < k) → by_kind k q ≡ none
unfolding by_kind
unknown_kind q k (inl e) = rw e
unknown_kind q k (inr h) = rw (
  ne_eqb k 1 (λ e. omega arith),
  ne_eqb k 2 (λ e. omega arith),
  ne_eqb k 3 (λ e. omega arith),
  ne_eqb k 4 (λ e. omega arith),
  ne_eqb k 5 (λ e. omega arith),
)

-- The first byte and the cursor behind it, and the kind that the byte names.
module _ (q : List ℕ) (b : Next ℕ) {p : ℕ} (z : p ≡ 0) (e : b ≡ byte_at p q) where
  first_is : b ≡ byte_at 0 q
  first_is = e ∙ ap (λ (x : ℕ). byte_at x q) z

  pub begins_at : b.next.at ≡ 1
  begins_at = ap (λ (x : Next ℕ). x.next.at) first_is

  byte_is : b.value ≡ get_or q 0 0
  byte_is = ap (λ (x : Next ℕ). x.value) first_is

  module _ (l : length q ≤ request_limit) (n : Result Kind NoKind) (h : Names b.value n) where
    pub takes_kind : (k : Kind) (r : Maybe Form) → result_ok n ≡ Some k → Takes q (by_kind (kind_byte k) q) r
        → Takes q (request_of q) r
    takes_kind k r o t = by_kind_lem q (kind_byte k) r l (named n h o ∙ byte_is) t
      where
        named : (m : Result Kind NoKind) → Names b.value m → result_ok m ≡ Some k → kind_byte k ≡ b.value
        named (Ok j) g i = let j_is : j ≡ k = cc in subst (λ (x : Kind). kind_byte x ≡ b.value) j_is g
        named (Err y) g i = cc

    pub takes_none : result_ok n ≡ None → Takes q (request_of q) None
    takes_none o = by_kind_lem q b.value None l byte_is (takes_broken q _ (go n h o))
      where
        go : (m : Result Kind NoKind) → Names b.value m → result_ok m ≡ None → by_kind b.value q ≡ none
        go (Ok j) g i = cc
        go (Err y) g i = unknown_kind q b.value g

pub empty_kind : (q : List ℕ) → length q ≡ 0 → Takes q (request_of q) None
unfolding request_of kind_of by_kind
empty_kind [] e = takes_broken [] none refl
empty_kind (x ∷ q) e = absurd (omega arith)
