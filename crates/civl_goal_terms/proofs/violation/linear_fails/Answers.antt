use Rattle.std.specs.Prelude.{◌+◌}
use Rattle.std.proofs.Common.{◌∙◌, sym, ap, subst, arith}
use Rattle.civl_tree.specs.declared.program.Program.{Program}
use Rattle.civl_conditions.specs.declared.condition.Condition.TheVariants.{Keep}
use Rattle.civl_conditions.specs.Weights as conditions
use Rattle.civl_states.specs.formula_parts.Given.{AreVariablesOf}
use Rattle.civl_states.specs.Formulas as states
use Rattle.civl_goals.proofs.Tops.{layers_fit}
use Rattle.civl_movers.proofs.Modes.{have_out_modes}
use Rattle.civl_goal_terms.proofs.Keeping.{keep_sorts, keep_says, keep_weighs}
use Rattle.civl_goal_terms.proofs.violation.linear_fails.Goals as goal

pub overflow_add-keep : goal.overflow_add-keep
overflow_add-keep c = omega (arith, layers_fit c.program.result.now c.program.ensures.keeps)

pub violation-requires-clause-sorts : goal.violation-requires-clause-sorts
violation-requires-clause-sorts c =
    let p = c.args.src.now in
    c.requires.sorts ∙ keep_sorts p c.args.action ∙ ap (λ (q : Program). states.sorts_of p (Keep (q.layers + 1) c.args.action)) (sym c.program.ensures.same)

pub violation-requires-clause-variables : goal.violation-requires-clause-variables
violation-requires-clause-variables c =
    let p = c.args.src.now in
    subst (AreVariablesOf c.args.terms.now) (c.requires.sorts ∙ keep_sorts p c.args.action ∙ ap (λ (q : Program). states.sorts_of p (Keep (q.layers + 1) c.args.action)) (sym c.program.ensures.same)) c.requires.variables

pub returns-clause-says : goal.returns-clause-says
returns-clause-says c =
    let p = c.args.src.now in
    let n = c.violation.new.terms in
    keep_says p c.args.action c.args.outline.now n c.in_ok-id.id (subst (λ (q : Program). states.IsViolation n c.in_ok-id.id p (Keep (q.layers + 1) c.args.action)) c.program.ensures.same c.in_ok-id.ensures.says)

pub returns-clause-weighs : goal.returns-clause-weighs
returns-clause-weighs c =
    let p = c.args.src.now in
    omega (
      arith,
      c.in_ok-id.ensures.weighs (have_out_modes p c.requires.written),
      ap (λ (q : Program). conditions.weight p (Keep (q.layers + 1) c.args.action)) c.program.ensures.same,
      keep_weighs p c.args.action c.args.outline.now,
    )
