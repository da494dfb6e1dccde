-- The edge table of the share check, by computing. Assumes nothing.
use mathlib.Core.Path.{refl}
use Rattle.octets.specs.Lists.{any_of, sum}
use Rattle.octets.specs.Numbers.{number_after, number, number_at, digits}
use Rattle.octets.specs.Rows.{first_row}
use Rattle.share_format.specs.Bounds.{in_order, part_of}
use Rattle.share_format.specs.Header.{edition_of, numbers_from, offsets_of, bounds_of}
use Rattle.share_contents.specs.Nodes.{depth_from, depth, power, nodes_from, nodes_ok}
use Rattle.share_format.specs.Parts.{least_multiple}
use Rattle.share_numbers.specs.Coding.{coding_ok, segment_ok}
use Rattle.share_numbers.specs.Order.{placed_ok}
use Rattle.share_judging.specs.Judging.{ordered, head_rows, laid_rows, body_rows, share_outcome}
use Rattle.share_contents.specs.Contents.{chain_ok, rounded_up, segments, tree_size, tree_ok, blocks_size, blocks_ok}
use Rattle.share_contents.specs.Contents.{content_rows}
use Rattle.shares.specs.Share.{bounds_at, checked_at, checked_of}
use Rattle.shares.specs.Edges.{CheckEdgesHold}

pub check_edges : CheckEdgesHold
unfolding any_of sum number_after number number_at digits first_row in_order part_of edition_of numbers_from offsets_of bounds_of
    depth_from depth power nodes_from nodes_ok least_multiple coding_ok segment_ok placed_ok ordered chain_ok rounded_up segments
    tree_size tree_ok blocks_size blocks_ok content_rows head_rows laid_rows body_rows share_outcome bounds_at checked_at checked_of
check_edges = record { table = refl; mdmf_bounds = refl; sdmf_bounds = refl }
