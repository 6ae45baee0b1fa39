use Rattle.civl_safety.proofs.Proving.{top_is_safe}
use Rattle.civl_safety.proofs.laws.top_is_safe.Goals as goal

pub returns : goal.returns
returns c = top_is_safe c.checked.ensures.roots
