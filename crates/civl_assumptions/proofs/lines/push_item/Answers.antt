use Rattle.civl_assumptions.proofs.lines.push_item.Goals as goal

pub returns : goal.returns
returns c = rw (← c.token_of.ensures) c.push_info.ensures
