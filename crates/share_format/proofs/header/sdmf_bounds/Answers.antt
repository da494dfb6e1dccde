-- The offsets as they were read; the end stands twice.
use Rattle.share_format.specs.Header.{numbers_from, offsets_of, bounds_of}
use Rattle.share_format.proofs.header.sdmf_bounds.Goals as goal

pub returns : goal.returns
unfolding bounds_of numbers_from offsets_of
returns c =
    rw (
      c.u64_at-end.ensures,
      c.u32_at.ensures,
      c.u32_at-2.ensures,
      c.u32_at-3.ensures,
      c.u32_at-4.ensures,
      c.u64_at.ensures,
    )
