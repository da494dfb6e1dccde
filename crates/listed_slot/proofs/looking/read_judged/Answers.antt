-- The list first, then the request.
use mathlib.Core.Path.{◌≡◌, refl, sym, ap, ◌∙◌}
use native.Mathlib.Omega.{arith}
use Rattle.format.specs.Layout.{data_of}
use Rattle.format.proofs.KnownLaws.{known_room, data_lent_lem}
use Rattle.container.specs.Looking.{read_of}
use Rattle.stretches.specs.List.{list_ok}
use Rattle.listed_slot.proofs.ServingLaws.{still_read, bad_list_lem, still_served}
use Rattle.listed_slot.proofs.looking.read_judged.Goals as goal

pub data_end-to-requires : goal.data_end-to-requires
data_end-to-requires c = omega (arith, known_room c.requires)

pub slice_bounds-list_ok-end : goal.slice_bounds-list_ok-end
slice_bounds-list_ok-end c = omega (arith, c.data_end-to.ensures, known_room c.requires)

pub returns-then-not-list_ok : goal.returns-then-not-list_ok
returns-then-not-list_ok c =
    let judged : let a = c.args in
    list_ok a.l.now (data_of a.c.now) ≡ c.list_ok.result =
    let d = data_lent_lem c.requires c.data_end-to.ensures in
    sym (c.list_ok.ensures ∙ ap (list_ok c.args.l.now) d) in
    let a = c.args in
    let z = bad_list_lem a.c.now a.l.now (read_of a.q.now) a.r.now c.requires.formed
    (judged ∙ c.if-not-list_ok.true) c.refused.ensures in
    record {
      value = z.0;
      r_after = z.1.1.1;
    }

pub returns : goal.returns
returns c =
    let judged : let a = c.args in
    list_ok a.l.now (data_of a.c.now) ≡ c.list_ok.result =
    let d = data_lent_lem c.requires c.data_end-to.ensures in
    sym (c.list_ok.ensures ∙ ap (list_ok c.args.l.now) d) in
    let a = c.args in
    let z = still_served a.c.now a.l.now (read_of a.q.now) a.r.now c.requires.formed
    (judged ∙ c.if-not-list_ok.false) (still_read a.q.now) c.read_formed.ensures.value refl
    c.read_formed.ensures.r_after in
    record {
      value = z.0;
      r_after = z.1.1.1;
    }
