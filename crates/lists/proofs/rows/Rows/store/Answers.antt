use mathlib.Core.Path.{refl}
use native.Mathlib.Omega.{arith}
use Rattle.lists.proofs.StoreLaws.{counted, store_list}
use Rattle.lists.proofs.rows.Rows.store.Goals as goal

pub returns : goal.returns
returns c =
    let t = c.args.self.now in
    let n = counted t.count 0 t.bytes in
    store_list t.count _ c.args.l.now t.bytes _ _ c.clear_part.new.d (omega arith) (omega arith) (omega arith)
    (λ i. omega (arith, c.type_inv.l i)) c.put_u32.ensures refl c.copy_part.ensures c.clear_part.ensures
