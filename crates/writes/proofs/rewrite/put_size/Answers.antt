-- The size field stands in the head.
use Rattle.writes.proofs.RewriteLaws.{size_laid}
use Rattle.writes.proofs.rewrite.put_size.Goals as goal

pub returns : goal.returns
returns c o k =
    record {
      turn = λ L.
          rw c.put_u64.ensures (size_laid L c.args.size);
    }
