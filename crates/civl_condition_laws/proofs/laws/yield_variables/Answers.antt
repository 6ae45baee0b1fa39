use Rattle.std.specs.Fmt.{digits}
use Rattle.std.proofs.Common.{ap, ◌∙◌, List, map}
use Rattle.civl_tree.specs.declared.stmt.Stmt.{the_lemmas as of_stmt}
use Rattle.civl_conditions.specs.declared.condition.Part.TheVariants.{Gate}
use Rattle.civl_conditions.specs.declared.condition.Variable.{Variable}
use Rattle.civl_condition_laws.specs.examples.Naming.{picker, picking}
use Rattle.civl_condition_laws.proofs.Measures.{variables_at}
use Rattle.civl_condition_laws.proofs.Picking.{pause, from_pause, is_pause}
use Rattle.civl_condition_laws.proofs.laws.yield_variables.Goals as goal

pub returns : goal.returns
unfolding digits
returns c = ap (λ (vs : List Variable). map (λ v. v.name.bytes) vs) (variables_at picking 1 0 2 picker pause from_pause _ is_pause Gate) ∙ simp of_stmt
