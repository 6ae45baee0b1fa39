use Rattle.civl_tree.specs.declared.expr.Expr.{the_lemmas as of_expr}
use Rattle.civl_tree.proofs.Layers.{layers}
use Rattle.civl_firing.specs.Fired.{gate_holds, fires, fired}
use Rattle.civl_linear.proofs.Examples.{examples}
use Rattle.civl_goals.specs.Failed.{failed}
use Rattle.civl_goals.proofs.laws.read_leads_astray.Goals as goal

pub returns : goal.returns
unfolding failed gate_holds fires fired
returns c = simp (layers, of_expr, examples)
