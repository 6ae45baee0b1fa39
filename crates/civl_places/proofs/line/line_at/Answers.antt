use Rattle.std.proofs.Common.{arith}
use Rattle.std.proofs.lemmas.List.{take_rest}
use Rattle.civl_places.proofs.Feeds.{line_is, line_fits}
use Rattle.civl_places.proofs.line.line_at.Goals as goal

pub overflow_add-end : goal.overflow_add-end
overflow_add-end c =
    let ends = rw (take_rest c.args.bytes.now c.args.offset) at c.line_len.ensures in
    omega (arith, line_fits c.args.bytes.now c.args.offset _ c.requires ends)

pub slice_bounds-result-end : goal.slice_bounds-result-end
slice_bounds-result-end c =
    let ends = rw (take_rest c.args.bytes.now c.args.offset) at c.line_len.ensures in
    omega (arith, line_fits c.args.bytes.now c.args.offset _ c.requires ends)

pub returns : goal.returns
returns c =
    let ends = rw (take_rest c.args.bytes.now c.args.offset) at c.line_len.ensures in
    line_is _ _ _ _ c.requires c.line_start-start.ensures.within c.line_start-start.ensures.begin ends
