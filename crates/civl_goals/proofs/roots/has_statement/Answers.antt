use Rattle.std.proofs.Common.{ap, ◌∙◌}
use Rattle.std.specs.Prelude.{nat_lt}
use Rattle.civl_goals.proofs.Bodies.{some_statement}
use Rattle.civl_goals.proofs.roots.has_statement.Goals as goal

pub returns : goal.returns
returns c = ap (nat_lt 0) c.len.ensures ∙ some_statement c.args.proc.now.body
