use Rattle.std.proofs.Common.{arith}
use Rattle.civl_history.proofs.Filling.{found_nowhere, found_in_table, entry_read, entry_past}
use Rattle.civl_history.proofs.spots.spot_of.Goals as goal

pub returns-then-frame-len : goal.returns-then-frame-len
returns-then-frame-len c = found_nowhere c.args.plain.now c.args.spots.now c.args.frame.now c.requires (omega arith)

pub returns-then-frame-entries : goal.returns-then-frame-entries
returns-then-frame-entries c =
    let table = c.index.result.now in
    found_in_table c.args.plain.now c.args.spots.now c.args.frame.now c.requires table c.index-entries-frame.result (omega arith) c.index.ensures
    (entry_read table.entries.items c.as_slice-entries.result.now c.args.frame.now.place c.index-entries-frame.result c.as_slice-entries.ensures.value c.if-frame-entries.true c.index-entries-frame.is)

pub returns-else-frame-entries : goal.returns-else-frame-entries
returns-else-frame-entries c =
    let table = c.index.result.now in
    found_in_table c.args.plain.now c.args.spots.now c.args.frame.now c.requires table _ (omega arith) c.index.ensures
    (entry_past table.entries.items c.as_slice-entries.result.now c.args.frame.now.place c.as_slice-entries.ensures.value c.if-frame-entries.false)
