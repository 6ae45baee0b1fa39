use Rattle.std.proofs.Common.{arith}
use Rattle.std.proofs.lemmas.Grind.{common_steps}
use Rattle.civl_cnf.proofs.Extending.{extends_kept, extends_trans}
use Rattle.civl_cnf.proofs.Tables.{adder_made}
use Rattle.civl_cnf.proofs.gates.Gates.adder.Goals as goal

pub returns-in-Ok-clause-ok : goal.returns-in-Ok-clause-ok
returns-in-Ok-clause-ok c = adder_made _ _ _ _ _ c.in_ok-sum.ensures.ok c.in-Ok.ensures.ok

pub returns-in-Ok-clause-extends : goal.returns-in-Ok-clause-extends
returns-in-Ok-clause-extends c = extends_trans c.in_ok-sum.ensures.extends c.in-Ok.ensures.extends

pub returns-in-Err-clause-extends : goal.returns-in-Err-clause-extends
returns-in-Err-clause-extends c = extends_kept (grind (arith, common_steps))
