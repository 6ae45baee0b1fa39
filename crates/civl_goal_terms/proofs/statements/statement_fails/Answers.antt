use Rattle.std.proofs.Common.{◌∙◌, sym, ap, subst, arith}
use Rattle.civl_tree.specs.declared.program.Program.{Program}
use Rattle.civl_tree.specs.rules.Rules.{Keeps}
use Rattle.civl_yields.specs.YieldRules.{yield_rules}
use Rattle.civl_goals.specs.Weights.{weight}
use Rattle.civl_goal_terms.specs.inner.There.{HasStatement, IsThere}
use Rattle.civl_goal_terms.specs.Formulas.{sorts_of, IsViolation}
use Rattle.civl_goal_terms.specs.inner.Outlined.{IsOutlined}
use Rattle.civl_goal_terms.proofs.Concluding.{owned, stands, held_there}
use Rattle.civl_goal_terms.proofs.statements.statement_fails.Goals as goal

pub find-requires-clause-yields : goal.find-requires-clause-yields
find-requires-clause-yields c = subst (Keeps yield_rules) (sym c.program-program.ensures.same) c.requires.yields

pub find-requires-clause-there : goal.find-requires-clause-there
find-requires-clause-there c = subst (λ (p : Program). HasStatement p c.args.root c.args.number) (sym c.program-program.ensures.same) (stands c.args.src.now c.args.goal.now c.args.root c.args.number c.requires.own c.requires.there)

pub goal_over-requires-clause-outlined : goal.goal_over-requires-clause-outlined
goal_over-requires-clause-outlined c = subst (λ (p : Program). IsOutlined p c.args.outline.now) (sym c.program-program.ensures.same) c.requires.outlined

pub goal_over-requires-clause-own : goal.goal_over-requires-clause-own
goal_over-requires-clause-own c =
    let p = c.program-program.result.now in
    owned p c.in_ok-at.at c.in_ok-at.ensures.is c.args.goal.now c.args.root c.args.number c.requires.own (subst (λ (q : Program). IsThere q c.args.goal.now) (sym c.program-program.ensures.same) c.requires.there) c.in_ok-at.ensures.root c.in_ok-at.ensures.number

pub goal_over-requires-clause-held : goal.goal_over-requires-clause-held
goal_over-requires-clause-held c = c.as_slice.ensures ∙ c.in_ok-held.ensures ∙ held_there c.program-program.result.now c.args.src.now c.program-program.ensures.same c.in_ok-at.at c.in_ok-at.ensures.is c.args.root c.args.number c.in_ok-at.ensures.root c.in_ok-at.ensures.number

pub goal_over-requires-clause-sorts : goal.goal_over-requires-clause-sorts
goal_over-requires-clause-sorts c = c.requires.sorts ∙ ap (λ (p : Program). sorts_of p c.args.goal.now) (sym c.program-program.ensures.same)

pub returns-clause-says : goal.returns-clause-says
returns-clause-says c = subst (λ (p : Program). IsViolation c.goal_over.new.terms c.in_ok-id.id p c.args.outline.now c.args.goal.now) c.program-program.ensures.same c.in_ok-id.ensures.says

pub returns-clause-weighs : goal.returns-clause-weighs
returns-clause-weighs c = omega (arith, c.in_ok-id.ensures.weighs, ap (λ (p : Program). weight p c.args.outline.now c.args.goal.now) c.program-program.ensures.same)
