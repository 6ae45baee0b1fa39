use Rattle.civl_assumed.proofs.Outputs.{same_outputs}
use Rattle.civl_assumed.proofs.noted.plain.Goals as goal

pub returns : goal.returns
returns c = simp (c.steady.ensures, same_outputs c.args.proc.now c.args.locals.now)
