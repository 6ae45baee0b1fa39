use Rattle.std.proofs.Common.{sym, subst}
use Rattle.std.specs.Prelude.{IsSome, Option}
use Rattle.civl_tree.specs.declared.expr.Sort.{Sort}
use Rattle.civl_states.proofs.formula_parts.Listing.{some_within, same_test}
use Rattle.civl_states.proofs.formula_parts.equality.same.Goals as goal

pub two-requires-clause-a : goal.two-requires-clause-a
two-requires-clause-a c = some_within c.args.terms.now c.args.a c.requires.sort

pub two-requires-clause-b : goal.two-requires-clause-b
two-requires-clause-b c = some_within c.args.terms.now c.args.b (subst (λ (o : Option Sort). IsSome o) (sym c.requires.alike) c.requires.sort)

pub returns-clause-test : goal.returns-clause-test
returns-clause-test c = λ s f g p q. same_test c.args.terms.now c.two.new.self c.args.a c.args.b c.in_ok-id.id s f g c.in_ok-id.ensures.grows c.in_ok-id.ensures.built p q
