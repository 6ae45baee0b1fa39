use Rattle.civl_circuits.proofs.Entries.{kept, same_gate}
use Rattle.civl_circuits.proofs.table.keep.Goals as goal

pub returns-clause-kept : goal.returns-clause-kept
returns-clause-kept c = kept _ _ _ _ _ c.put.ensures.entries (same_gate _)
