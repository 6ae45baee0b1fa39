use Rattle.std.proofs.Common.{◌∙◌, ◌++◌, List, ap}
use Rattle.civl_tree.specs.declared.expr.Sort.{Sort}
use Rattle.civl_states.specs.inner.Sorted.{grouped_sorts}
use Rattle.civl_states.proofs.Grouping.{grouped_are}
use Rattle.civl_states.proofs.sorts.variable_sorts.Goals as goal

pub returns : goal.returns
returns c =
    c.from_vec.ensures ∙ c.in_ok-push_groups.ensures ∙ ap (λ (ss : List Sort). ss ++ grouped_sorts c.args.src.now c.args.condition.now) c.new-sorts.ensures.items
    ∙ grouped_are c.args.src.now c.args.condition.now
