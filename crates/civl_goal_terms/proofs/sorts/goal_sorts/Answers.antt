use Rattle.std.proofs.Common.{◌∙◌, ◌++◌, List, ap}
use Rattle.civl_tree.specs.declared.expr.Sort.{Sort}
use Rattle.civl_tree.specs.declared.program.Program.{Program}
use Rattle.civl_goal_terms.specs.inner.Sorted.{grouped_sorts}
use Rattle.civl_goal_terms.proofs.Sorting.{grouped_are}
use Rattle.civl_goal_terms.proofs.sorts.goal_sorts.Goals as goal

pub returns : goal.returns
returns c =
    c.from_vec.ensures ∙ c.in_ok-push_groups.ensures ∙ ap (λ (ss : List Sort). ss ++ grouped_sorts c.program.result.now c.args.goal.now) c.new-sorts.ensures.items
    ∙ ap (λ (p : Program). grouped_sorts p c.args.goal.now) c.program.ensures.same
    ∙ grouped_are c.args.src.now c.args.goal.now
