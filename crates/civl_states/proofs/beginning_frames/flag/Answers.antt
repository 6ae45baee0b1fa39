use Rattle.civl_tree.specs.declared.expr.Sort.TheVariants.{Bool as Truth}
use Rattle.std.specs.Prelude.{[]}
use Rattle.civl_states.proofs.formula_parts.Giving.{free_in, variables_stay}
use Rattle.civl_states.proofs.Laying.{stand_here, flag_said}
use Rattle.civl_states.proofs.beginning_frames.flag.Goals as goal

pub variable-requires-clause-free : goal.variable-requires-clause-free
variable-requires-clause-free c = free_in c.args.terms.now c.args.sorts.now c.args.number Truth c.requires.variables (stand_here c.args.sorts.now c.args.number Truth [] c.requires.stand)

pub returns-clause-test : goal.returns-clause-test
returns-clause-test c = flag_said c.args.terms.now c.variable.new.self c.args.number c.in_ok-id.id c.in_ok-id.ensures.node c.in_ok-id.ensures.built

pub returns-clause-variables : goal.returns-clause-variables
returns-clause-variables c = variables_stay c.args.terms.now c.variable.new.self c.args.sorts.now c.args.number c.in_ok-id.id Truth c.requires.variables (stand_here c.args.sorts.now c.args.number Truth [] c.requires.stand) c.in_ok-id.ensures.node
