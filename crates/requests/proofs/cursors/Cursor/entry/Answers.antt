-- Each field is what its callee promises.
use Rattle.requests.proofs.CursorLaws.{entry_made}
use Rattle.requests.proofs.cursors.Cursor.entry.Goals as goal

pub returns : goal.returns
returns c =
    let a = c.args in
    entry_made a.self.at a.stride a.q.now c.i32_at.result c.u32_at.result (record { sfits = c.i32_at.type_inv })
    c.i32_at.ensures c.u32_at.ensures
