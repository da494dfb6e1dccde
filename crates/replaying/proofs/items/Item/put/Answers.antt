-- Four bytes are put over all four.
use Rattle.std.proofs.Common.{◌∙◌, sym}
use Rattle.octets.specs.Numbers.{digits}
use Rattle.octets.proofs.NumberLaws.{length_digits}
use Rattle.replaying.proofs.ItemLaws.{put-whole}
use Rattle.replaying.proofs.items.Item.put.Goals as goal

pub returns-in-Number : goal.returns-in-Number
returns-in-Number c =
    let room = rw c.in-Number.is at c.requires.room in
    rw c.in-Number.is (c.put_u32.ensures
    ∙ put-whole (digits 4 c.in-Number.value) c.args.d.now (length_digits 4 c.in-Number.value ∙ sym room))
