use Rattle.civl_tree.specs.Numbering.{statements_of}
use Rattle.civl_conditions.specs.Passed.{choices_at}
use Rattle.civl_conditions.proofs.Behind.{none_behind}
use Rattle.civl_goals.proofs.variables.push_at.Goals as goal

pub returns-in-None : goal.returns-in-None
returns-in-None c =
    none_behind (λ p. choices_at c.args.program.now c.args.program.now.layers (statements_of p.body) c.args.statement) c.args.list.now _ c.args.program.now.procs c.args.proc c.as_slice.ensures c.in-None.ensures.lookup.3
