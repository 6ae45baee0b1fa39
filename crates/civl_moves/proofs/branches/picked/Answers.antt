use Rattle.std.proofs.Common.{sym, subst, Option}
use Rattle.std.specs.Prelude.{IsSome}
use Rattle.civl_tree.specs.declared.expr.Sort.{Sort}
use Rattle.civl_tree.specs.declared.expr.Sort.TheVariants.{Bool as Truth}
use Rattle.civl_actions.proofs.Staying.{sorted_within}
use Rattle.civl_states.proofs.formula_parts.Listing.{some_within}
use Rattle.civl_moves.proofs.Picking.{pick_fits, picked_said}
use Rattle.civl_moves.proofs.branches.picked.Goals as goal

pub pick-requires-clause-c : goal.pick-requires-clause-c
pick-requires-clause-c c = sorted_within c.args.terms.now c.args.test Truth c.requires.test

pub pick-requires-clause-a : goal.pick-requires-clause-a
pick-requires-clause-a c = some_within c.args.terms.now c.args.a c.requires.sort

pub pick-requires-clause-b : goal.pick-requires-clause-b
pick-requires-clause-b c = some_within c.args.terms.now c.args.b (subst (λ (o : Option Sort). IsSome o) (sym c.requires.alike) c.requires.sort)

pub pick-requires-clause-fits : goal.pick-requires-clause-fits
pick-requires-clause-fits c = pick_fits _ _ _ c.requires.test c.requires.sort c.requires.alike

pub returns-clause-said : goal.returns-clause-said
returns-clause-said c = λ s t f g p q r. picked_said c.args.terms.now c.pick.new.self c.args.test c.args.a c.args.b c.in_ok-id.id s t f g _ c.in_ok-id.ensures.grows c.in_ok-id.ensures.built p q r
