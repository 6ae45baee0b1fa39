use Rattle.civl_blast.proofs.rows.Built.{makes_constant}
use Rattle.civl_blast.proofs.rows.building.constant.Goals as goal

pub returns-clause-made : goal.returns-clause-made
returns-clause-made c = makes_constant _ c.constant.ensures.grows c.requires c.in_ok-id.ensures.node c.in_ok-id.ensures.built
