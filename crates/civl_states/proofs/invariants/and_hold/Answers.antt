use Rattle.std.proofs.Common.{◌∙◌, arith}
use Rattle.civl_tree.specs.declared.expr.Sort.TheVariants.{Bool as Truth}
use Rattle.civl_tree.specs.rules.Scopes.{global_scope}
use Rattle.civl_terms.proofs.Growing.{grows_trans}
use Rattle.civl_conditions.specs.Invariants.{holds_of_globals}
use Rattle.civl_states.proofs.formula_parts.Saying.{sort_stays, test_stays}
use Rattle.civl_states.proofs.Weighing.{weighs_some}
use Rattle.civl_states.proofs.invariants.and_hold.Goals as goal

pub global_note-requires-clause-typed : goal.global_note-requires-clause-typed
global_note-requires-clause-typed c = c.requires.typed.typed

pub both-requires-clause-a : goal.both-requires-clause-a
both-requires-clause-a c = sort_stays _ _ _ Truth c.in_ok-holds.ensures.grows c.requires.test

pub both-requires-clause-b : goal.both-requires-clause-b
both-requires-clause-b c = c.in_ok-holds.ensures.sorted ∙ c.requires.typed.sorted

pub returns-clause-test : goal.returns-clause-test
returns-clause-test c = λ f g h s.
    c.in_ok-id.ensures.test f (λ env. holds_of_globals c.args.program.now (g env) c.args.expr.now)
    (test_stays _ _ _ f c.in_ok-holds.ensures.grows h) (c.in_ok-holds.ensures.note.holds g c.requires.typed.sorted s)

pub returns-clause-weighs : goal.returns-clause-weighs
returns-clause-weighs c = omega (arith, c.in_ok-holds.ensures.weighs, c.in_ok-id.ensures.weighs, weighs_some (global_scope c.args.program.now) c.args.expr.now)

pub returns-clause-grows : goal.returns-clause-grows
returns-clause-grows c = grows_trans _ _ _ c.in_ok-holds.ensures.grows c.in_ok-id.ensures.grows

pub returns-in_err-id-clause-grows : goal.returns-in_err-id-clause-grows
returns-in_err-id-clause-grows c = grows_trans _ _ _ c.in_ok-holds.ensures.grows c.in_err-id.ensures.grows
