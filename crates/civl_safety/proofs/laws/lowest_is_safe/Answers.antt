use Rattle.civl_safety.proofs.Proving.{lowest_is_safe}
use Rattle.civl_safety.proofs.laws.lowest_is_safe.Goals as goal

pub returns : goal.returns
returns c = lowest_is_safe c.top_is_safe.ensures c.checked.ensures.permissions c.accepted_programs_preserve.ensures
