-- Both fields stand in the head.
use Rattle.writes.specs.Rewrite.{with_fields}
use Rattle.writes.proofs.RewriteLaws.{offset_laid}
use Rattle.writes.proofs.rewrite.put_fields.Goals as goal

pub returns : goal.returns
unfolding with_fields
returns c o k =
    let a = c.args in
    record {
      turn = λ L.
          rw c.put_u64.ensures
          (offset_laid ((c.put_size.ensures o k).turn L) a.frame.offset);
    }
