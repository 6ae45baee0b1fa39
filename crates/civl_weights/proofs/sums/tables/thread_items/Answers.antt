use Rattle.std.proofs.Common.{List, ap, sym, ◌∙◌}
use Rattle.std.specs.Prelude.{Option}
use Rattle.std.specs.Option.{option_map_or}
use Rattle.civl_tree.specs.declared.action.Param.{Param}
use Rattle.civl_tree.specs.declared.program.Proc.{Proc}
use Rattle.civl_firing.proofs.Finding.{found_at}
use Rattle.civl_conditions.specs.Weights.{linear_inputs}
use Rattle.civl_weighing.proofs.Capping.{weighs_same}
use Rattle.civl_weights.proofs.sums.tables.thread_items.Goals as goal

pub returns-in-Some : goal.returns-in-Some
returns-in-Some c = weighs_same (ap (λ (o : Option Proc). option_map_or (λ p. linear_inputs p.params) o 0) (c.in-Some.ensures ∙ sym (found_at (λ (p : Proc). p.name) c.args.program.now.procs c.args.thread.now.callee))) (weighs_same (ap (λ (ps : List Param). linear_inputs ps) c.as_slice.ensures) c.linear_inputs.ensures)

pub returns-in-None : goal.returns-in-None
returns-in-None c = weighs_same (ap (λ (o : Option Proc). option_map_or (λ p. linear_inputs p.params) o 0) (c.in-None.ensures ∙ sym (found_at (λ (p : Proc). p.name) c.args.program.now.procs c.args.thread.now.callee))) c.of.ensures
