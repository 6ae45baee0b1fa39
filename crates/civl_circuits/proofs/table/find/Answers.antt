use Rattle.civl_circuits.proofs.Entries.{found, same_gate}
use Rattle.civl_circuits.proofs.table.find.Goals as goal

pub returns : goal.returns
returns c = found _ _ _ _ c.value_at.ensures (same_gate _)
