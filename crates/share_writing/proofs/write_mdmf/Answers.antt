-- A refusal leaves the space; else nothing refuses.
use mathlib.Core.Path.{refl, sym, ◌∙◌}
use native.Mathlib.Omega.{arith}
use Rattle.share_format.specs.Parts.{Share, part_list, places_of}
use Rattle.share_rules.specs.Writing.{mdmf_with, write_rows, write_outcome}
use Rattle.share_rules.proofs.WritingLaws.{places_end, answer-refused, answer-done, encoded}
use Rattle.share_writing.proofs.VerdictLaws.{layable, refusal_number-above}
use Rattle.share_writing.proofs.write_mdmf.Goals as goal

pub returns-in-Err : goal.returns-in-Err
unfolding part_list write_outcome write_rows
returns-in-Err c =
    let n = c.number.ensures in
    let both = answer-refused _ _ _ (n ∙ c.in-Err.ensures.number) (λ z. omega (arith, n, z, refusal_number-above c.in-Err.refusal)) in
    record {
      answer = both.0;
      space = both.1;
    }

pub lay_out-requires : goal.lay_out-requires
unfolding part_list places_of write_outcome write_rows
lay_out-requires c =
    let given : Share =
    let a = c.args in
    mdmf_with a.sequence a.root.now a.required a.total a.segment_size a.data_length
    a.private_key.now a.chain.now a.signature.now a.key.now a.spare.now a.share_data.now
    a.tree.now in
    let v = c.in-Ok.ensures in
    layable given _ _ (sym v.number) v.bounds

pub returns-in-Ok : goal.returns-in-Ok
unfolding part_list places_of write_outcome write_rows
returns-in-Ok c =
    let given : Share =
    let a = c.args in
    mdmf_with a.sequence a.root.now a.required a.total a.segment_size a.data_length
    a.private_key.now a.chain.now a.signature.now a.key.now a.spare.now a.share_data.now
    a.tree.now in
    let v = c.in-Ok.ensures in
    let both = answer-done given _ _ _ (sym v.number) (rw v.bounds (places_end given))
    (rw v.numbers at c.lay_out.ensures ∙ encoded given _ _ _ refl v.bounds) in
    record {
      answer = both.0;
      space = both.1;
    }
