use Rattle.std.proofs.Common.{subst}
use Rattle.civl_terms.specs.contracts.node.NodeEq.TheImpl.Laws as laws
use Rattle.civl_terms.specs.Graphs.{IsDistinct}
use Rattle.civl_terms.proofs.Distinct.{distinct_places}
use Rattle.civl_terms.proofs.terms.Terms.len.Goals as goal

pub returns-clause-distinct : goal.returns-clause-distinct
returns-clause-distinct c = subst IsDistinct c.self.view_is (distinct_places _ laws.laws-law.refl c.self.inside.nodes.keys c.len.ensures.unique)
