use Rattle.std.proofs.Common.{rules, ◌≡◌, ◌<◌, ◌∙◌, ap, subst, sym, arith, length}
use Rattle.civl_terms.specs.Graphs.{IsGraph, sort_at}
use Rattle.civl_terms.proofs.Soundness.{sort_limits}
use Rattle.civl_terms.proofs.Growing.{holds_length, holds_sort}
use Rattle.civl_terms.proofs.terms.Terms.sort.Goals as goal

pub index-requires : goal.index-requires
index-requires c =
    let l = holds_length c.self.inside.nodes.keys c.self.inside.sorts.items c.self.invariant in
    let m : length c.self.inside.nodes.keys ≡ length c.args.self.now = ap length c.self.view_is in
    let n : c.args.id < length c.self.inside.sorts.items = omega (arith, l, m, c.requires) in
    search rules

pub returns-clause-is : goal.returns-clause-is
returns-clause-is c =
    let m : length c.self.inside.nodes.keys ≡ length c.args.self.now = ap length c.self.view_is in
    ap (λ ns. sort_at ns c.args.id) (sym c.self.view_is)
    ∙ holds_sort c.self.inside.nodes.keys c.self.inside.sorts.items c.self.invariant c.args.id c.index.result.now (omega (arith, m, c.requires)) (search rules)

pub returns-clause-limits : goal.returns-clause-limits
returns-clause-limits c =
    let graph : IsGraph c.args.self.now = subst IsGraph c.self.view_is c.self.invariant.graph in
    sort_limits c.args.self.now graph c.args.id c.index.result.now (returns-clause-is c)
