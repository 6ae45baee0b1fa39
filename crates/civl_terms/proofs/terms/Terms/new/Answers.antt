use Rattle.std.proofs.Common.{rules, ◌≡◌, [], sym, subst, List}
use Rattle.civl_tree.specs.declared.expr.Sort.{Sort}
use Rattle.civl_terms.specs.declared.node.Node.{Node}
use Rattle.civl_terms.specs.Graphs.{HoldsGraph}
use Rattle.civl_terms.proofs.Growing.{holds_none}
use Rattle.civl_terms.proofs.terms.Terms.new.Goals as goal

pub invariant_of-result : goal.invariant_of-result
invariant_of-result c =
    let keys : c.new.result.keys ≡ [] = search rules in
    subst (λ (ns : List Node). HoldsGraph ns c.new-2.result.items) (sym keys) (subst (λ (ss : List Sort). HoldsGraph [] ss) (sym c.new-2.ensures.items) holds_none)
