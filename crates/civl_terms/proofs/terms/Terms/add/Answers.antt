use Rattle.std.proofs.Common.{rules, ◌≡◌, [], ◌∷◌, ◌++◌}
use Rattle.civl_terms.proofs.Growing.{holds_added}
use Rattle.civl_terms.proofs.terms.Terms.add.Goals as goal

pub invariant_of-self-then-added : goal.invariant_of-self-then-added
invariant_of-self-then-added c =
    let keys : c.number.new.nodes.keys ≡ c.self.inside.nodes.keys ++ c.args.node ∷ [] = search rules in
    let items : c.push.new.self.items ≡ c.self.inside.sorts.items ++ c.args.sort ∷ [] = search rules in
    holds_added c.args.self.now c.self.inside.nodes.keys c.number.new.nodes.keys c.self.inside.sorts.items c.push.new.self.items c.args.node c.args.sort c.self.view_is keys items c.self.invariant c.requires.parts c.requires.sort c.requires.limits c.requires.variables
