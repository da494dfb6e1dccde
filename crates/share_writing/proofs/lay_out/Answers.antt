-- The parts stand behind the header.
use mathlib.Core.Path.{◌≡◌, ap, ◌∙◌}
use mathlib.Core.List.{List, ◌++◌, append_assoc}
use Prim.Native.Nat.{ℕ, ◌+◌}
use native.Mathlib.Omega.{arith}
use lib.ListN.{length, length-append}
use Rattle.octets.specs.Moves.{put}
use Rattle.octets.specs.Strings.{join}
use Rattle.octets.proofs.MoveLaws.{put-put}
use Rattle.share_format.specs.Editions.{is_mdmf}
use Rattle.share_format.specs.Header.{header_size, number_fields, offset_fields}
use Rattle.share_format.proofs.HeaderLaws.{length-numbers, length_offsets}
use Rattle.share_writing.specs.Facts.{strings}
use Rattle.share_writing.proofs.lay_out.Goals as goal

pub returns : goal.returns
returns c =
    let a = c.args in
    let f = c.requires.0 in
    let x : List ℕ =
    join (number_fields (is_mdmf a.edition) a.verdict.numbers.sequence a.root.now a.iv.now a.verdict.numbers.required
    a.verdict.numbers.total a.verdict.numbers.segment_size a.verdict.numbers.data_length) in
    let y : List ℕ = join (offset_fields (is_mdmf a.edition) a.verdict.bounds) in
    let z : List ℕ = join (strings a.parts.now) in
    let lx =
    length-numbers (is_mdmf a.edition) a.verdict.numbers.sequence a.root.now a.iv.now a.verdict.numbers.required
    a.verdict.numbers.total a.verdict.numbers.segment_size a.verdict.numbers.data_length f.root_size f.iv_size_holds in
    let l : header_size (is_mdmf a.edition) ≡ 0 + length (x ++ y) =
    rw length-append (omega (arith, lx, length_offsets (is_mdmf a.edition) a.verdict.bounds)) in
    c.put_parts.ensures
    ∙ rw (c.put_header.ensures, c.header_size.ensures)
    (put-put 0 (header_size (is_mdmf a.edition)) (x ++ y) z a.d.now (omega arith) l
    ∙ ap (λ (b : List ℕ). put 0 b a.d.now) (append_assoc x y z))
