-- The offsets stand behind the numbers.
use mathlib.Core.Path.{◌≡◌, ◌∙◌}
use mathlib.Core.List.{List}
use Prim.Native.Nat.{ℕ}
use native.Mathlib.Omega.{arith}
use lib.ListN.{length}
use Rattle.octets.specs.Strings.{join}
use Rattle.octets.proofs.MoveLaws.{put-put}
use Rattle.share_format.specs.Editions.{is_mdmf}
use Rattle.share_format.specs.Header.{offsets_at, number_fields, offset_fields}
use Rattle.share_format.proofs.HeaderLaws.{length-numbers}
use Rattle.share_storing.proofs.fields.put_header.Goals as goal

pub returns : goal.returns
returns c =
    let a = c.args in
    let x : List ℕ =
    join (number_fields (is_mdmf a.edition) a.numbers.sequence a.root.now a.iv.now a.numbers.required a.numbers.total a.numbers.segment_size
    a.numbers.data_length) in
    let l : length x ≡ offsets_at (is_mdmf a.edition) =
    length-numbers (is_mdmf a.edition) a.numbers.sequence a.root.now a.iv.now a.numbers.required a.numbers.total a.numbers.segment_size
    a.numbers.data_length c.requires.1 c.requires.2 in
    c.put_offsets.ensures
    ∙ rw c.put_numbers.ensures
    (put-put 0 (offsets_at (is_mdmf a.edition)) x (join (offset_fields (is_mdmf a.edition) a.bounds)) a.d.now (omega arith)
    (omega (arith, l)))
