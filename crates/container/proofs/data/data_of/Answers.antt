-- What is lent lies inside the slice, from where it begins to where it ends.
use native.Mathlib.Omega.{arith}
use Rattle.container.proofs.DataLaws.{beyond_is, stretch}
use Rattle.container.proofs.data.data_of.Goals as goal

pub slice_bounds-result-count : goal.slice_bounds-result-count
slice_bounds-result-count c = let h = stretch c.args.c.now _ c.find_data.ensures _ c.unwrap_or-lent.ensures in omega arith

pub slice_bounds-result-start : goal.slice_bounds-result-start
slice_bounds-result-start c = let h = stretch c.args.c.now _ c.find_data.ensures _ c.unwrap_or-lent.ensures in omega arith

pub slice_bounds-result-end : goal.slice_bounds-result-end
slice_bounds-result-end c = let h = stretch c.args.c.now _ c.find_data.ensures _ c.unwrap_or-lent.ensures in omega arith

pub returns : goal.returns
returns c =
    let h = stretch c.args.c.now _ c.find_data.ensures _ c.unwrap_or-lent.ensures in
    record { bytes = h.bytes; place = rw (← h.from) (beyond_is _ _) }
