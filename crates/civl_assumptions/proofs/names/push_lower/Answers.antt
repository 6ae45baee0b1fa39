use Rattle.civl_assumptions.proofs.names.push_lower.Goals as goal

pub returns : goal.returns
returns c = rw (← c.saturating_sub.ensures, ← c.as_slice.ensures) c.push_globals.ensures
