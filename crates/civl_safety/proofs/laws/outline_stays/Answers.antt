use Rattle.civl_safety.proofs.Proving.{outline_stays}
use Rattle.civl_safety.proofs.laws.outline_stays.Goals as goal

pub returns : goal.returns
returns c = outline_stays c.checked.ensures.roots
