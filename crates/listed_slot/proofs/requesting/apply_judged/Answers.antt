-- The list first; then a test-and-write goes by way of it, and any other request past it.
use mathlib.Core.Path.{◌≡◌, sym, ap, subst, ◌∙◌}
use native.Mathlib.Omega.{arith}
use Rattle.std.proofs.Common.{rules}
use Rattle.format.specs.Layout.{data_of}
use Rattle.format.proofs.KnownLaws.{known_room, data_lent_lem}
use Rattle.requests.specs.Forms.{asked}
use Rattle.stretches.specs.List.{list_ok}
use Rattle.listed_slot.proofs.ServingLaws.{Still, still_form, bad_list_lem, still_served}
use Rattle.listed_slot.proofs.requesting.apply_judged.Goals as goal
use Rattle.listed_slot.proofs.requesting.apply_judged.Goals.{in_default-via-in-Some+in_default, in_default-via-in_default}

pub data_end-to-requires : goal.data_end-to-requires
data_end-to-requires c = omega (arith, known_room c.requires)

pub slice_bounds-list_ok-end : goal.slice_bounds-list_ok-end
slice_bounds-list_ok-end c = omega (arith, c.data_end-to.ensures, known_room c.requires)

pub returns-then-not-list_ok : goal.returns-then-not-list_ok
returns-then-not-list_ok c =
    let judged : let a = c.args in
    list_ok a.l.now (data_of a.c.now) ≡ c.list_ok.result =
    let d = data_lent_lem c.requires c.data_end-to.ensures in
    sym (c.list_ok.ensures ∙ ap (list_ok c.args.l.now) d) in
    let a = c.args in
    let both = bad_list_lem a.c.now a.l.now a.q.now a.r.now c.requires.formed
    (judged ∙ c.if-not-list_ok.true) c.refused.ensures in
    record {
      value = both.0;
      c_after = both.1.0;
      l_after = both.1.1.0;
      r_after = both.1.1.1;
    }

pub write_beside-requires : goal.write_beside-requires
write_beside-requires c =
    let judged : let a = c.args in
    list_ok a.l.now (data_of a.c.now) ≡ c.list_ok.result =
    let d = data_lent_lem c.requires c.data_end-to.ensures in
    sym (c.list_ok.ensures ∙ ap (list_ok c.args.l.now) d) in
    let w = c.in-Some-TestWrite in
    let f = rw w.field-0-is at w.ensures in (
      c.requires,
      (record { parted = f.inside; is = sym f.asks }, judged ∙ c.if-not-list_ok.false),
    )

pub returns-in_default : goal.returns-in_default
returns-in_default c =
    let a = c.args in
    let judged : list_ok a.l.now (data_of a.c.now) ≡ c.list_ok.result =
    let d = data_lent_lem c.requires c.data_end-to.ensures in
    sym (c.list_ok.ensures ∙ ap (list_ok a.l.now) d) in
    let o : Still (asked a.q.now c.form_of.result) =
    elim c.in_default.branch [
      | in_default-via-in-Some+in_default w ↦ still_form a.q.now c.form_of.result (λ x e. search rules)
      | in_default-via-in_default w ↦ still_form a.q.now c.form_of.result (λ x e. search rules)
    ] in
    let f = c.apply_formed.ensures in
    let both = still_served a.c.now a.l.now a.q.now a.r.now c.requires.formed (judged ∙ c.if-not-list_ok.false)
    (subst Still c.form_of.ensures.asks o) f.value f.c_after f.r_after in
    record { value = both.0; c_after = both.1.0; l_after = both.1.1.0; r_after = both.1.1.1 }
