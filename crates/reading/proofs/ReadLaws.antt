-- Kind 5 on a well-formed container: what its reader may rely on, and which row applies at each way out. Assumes
-- nothing.
use mathlib.Core.Path.{◌≡◌, refl, sym, ◌∙◌}
use mathlib.Core.Bool.{true, false, not}
use mathlib.Core.List.{List, [], ◌∷◌, map}
use Prim.Native.Nat.{ℕ, ◌+◌, ◌≤◌, ◌<◌}
use lib.Dec.{ltb}
use lib.ListN.{length}
use Rattle.octets.specs.Moves.{put}
use borrow.Author.Tests.{lt-ltb, le-ltb}
use Rattle.format.specs.declared.layout.Frame.{Frame}
use Rattle.rules.specs.declared.Answer.{Answer}
use Rattle.requests.specs.declared.forms.Table.{Table}
use Rattle.std.specs.Prelude.{Option, Some, None}
use Rattle.rules.proofs.RefusalLaws.{Silent, silent-refused}
use Rattle.format.specs.Judging.{Known}
use Rattle.octets.specs.Lists.{maybe}
use Rattle.rules.specs.Outcomes.{outcome, reply_to, answer_of, replies, answered}
use Rattle.rules.specs.Outcomes.{no_node, answer_to, counted, reply_after, reply_bytes}
use Rattle.octets.specs.Rows.{first_row, row}
use Rattle.format.specs.Parts.{parts_of}
use Rattle.replies.specs.Pieces.{pieces_in, resolve_from, measured_of}
use Rattle.rules.specs.Testing.{reply_of, read_piece}
use Rattle.requests.specs.Forms.{ReadRequest}
use Rattle.format.specs.Layout.{data_at, data_of}
use Rattle.format.proofs.KnownLaws.{lent, data_lent_lem}
use Rattle.rules.specs.Requests.{reads_from}
use Rattle.rules.proofs.ShortReads.{all_resolve, read-outcome}
use Rattle.replies.proofs.PieceLaws.{read_pieces, read-resolve, measured-some, measured-none}

pub refused : (c q r : List ℕ) (x : Answer) (m : ℕ) → outcome c q (length r) ≡ m → Silent m → x ≡ answer_of m no_node 0
    → (x ≡ answered c q r) × (r ≡ reply_after c q r)
refused c q r x m e h a = let f = silent-refused m c q r h e in (a ∙ f.answer, f.reply)

-- What the code has measured: d, the data as it takes them, and m, what the table asks of them.
pub record Asked (c q d : List ℕ) (f : Frame) (t : Table) (m : Option ℕ) : Type 0 where
  pub known : Known c f
  pub request : ReadRequest q t
  pub bytes : d ≡ data_of c
  pub measured : m ≡ measured_of t q d

pub asked_by : {c q : List ℕ} {f : Frame} {t : Table} {m : Option ℕ} {e : ℕ} → Known c f × ReadRequest q t
    → e ≡ data_at + f.size → m ≡ measured_of t q (lent c e) → Asked c q (lent c e) f t m
asked_by h k n = record { known = h.0; request = h.1; bytes = data_lent_lem h.0 k; measured = n }

module _ {c q d : List ℕ} {f : Frame} {t : Table} {m : Option ℕ} (A : Asked c q d f t m) where
  pieces_are : pieces_in t q d ≡ map (read_piece (data_of c)) (reads_from t.count t.first.at q)
  pieces_are = rw (A.bytes, A.request.stride) (sym (read_pieces t.count t.first.at q (data_of c)))

  resolves_is : resolve_from t.stride t.count t.first.at q (length d) ≡ all_resolve c (reads_from t.count t.first.at q)
  resolves_is = rw (A.bytes, A.request.stride) (sym (read-resolve t.count t.first.at q (length (data_of c))))

  -- rows 4 and 7
  asked-outcome : (k : ℕ) → outcome c q k
      ≡ first_row (row 4 (not (resolve_from t.stride t.count t.first.at q (length d)))
      ∷ row 7 (ltb k (length (reply_of (pieces_in t q d)))) ∷ [])
  asked-outcome k =
      read-outcome c q k _ A.known.formed A.request.is
      ∙ rw (resolves_is, pieces_are)

  module _ (r : List ℕ) (x : Answer) where
    pub read_unresolved : m ≡ None → x ≡ answer_of 4 no_node 0 → (x ≡ answered c q r) × (r ≡ reply_after c q r)
    unfolding first_row replies
    read_unresolved h a =
        refused c q r x 4 (asked-outcome (length r) ∙ rw (measured-none t q d (sym A.measured ∙ h)))
        (record { not_done = refl; no_node_holds = refl; no_reply = refl }) a

    -- past the test of row 4
    module _ (n : ℕ) (h : m ≡ Some n) where
      sized : (resolve_from t.stride t.count t.first.at q (length d) ≡ true) × (length (reply_of (pieces_in t q d)) ≡ n)
      sized = measured-some t q d n (sym A.measured ∙ h)

      sized-outcome : (k : ℕ) → outcome c q k ≡ first_row (row 4 false ∷ row 7 (ltb k n) ∷ [])
      sized-outcome k = asked-outcome k ∙ rw (sized.0, sized.1)

      pub read_no_space : length r < n → x ≡ answer_of 7 no_node 0 → (x ≡ answered c q r) × (r ≡ reply_after c q r)
      unfolding first_row replies
      read_no_space l a =
          refused c q r x 7 (sized-outcome (length r) ∙ rw (lt-ltb _ _ l))
          (record { not_done = refl; no_node_holds = refl; no_reply = refl }) a

      pub read_done : (r' : List ℕ) → n ≤ length r → x ≡ answer_of 0 no_node n
          → r' ≡ put 0 (reply_of (pieces_in t q d)) r → (x ≡ answered c q r) × (r' ≡ reply_after c q r)
      unfolding first_row replies answered reply_after answer_to reply_bytes maybe counted reply_to parts_of
      read_done r' l a b =
          let o : outcome c q (length r) ≡ 0 = sized-outcome (length r) ∙ rw (le-ltb _ _ l) in
          (rw (a, ← sized.1, pieces_are, o, A.request.is), rw (b, o, A.request.is, pieces_are))

  pub reply_length : (n : ℕ) → m ≡ Some n → length (reply_of (pieces_in t q d)) ≡ n
  reply_length n h = (measured-some t q d n (sym A.measured ∙ h)).1
