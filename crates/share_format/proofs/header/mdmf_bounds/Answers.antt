-- The offsets as they were read.
use Rattle.share_format.specs.Header.{numbers_from, offsets_of, bounds_of}
use Rattle.share_format.proofs.header.mdmf_bounds.Goals as goal

pub returns : goal.returns
unfolding bounds_of numbers_from offsets_of
returns c =
    rw (
      c.u64_at.ensures,
      c.u64_at-2.ensures,
      c.u64_at-3.ensures,
      c.u64_at-4.ensures,
      c.u64_at-5.ensures,
      c.u64_at-6.ensures,
      c.u64_at-7.ensures,
      c.u64_at-8.ensures,
    )
