use Rattle.std.proofs.Common.{sym, ap, ◌∙◌, arith}
use Rattle.std.specs.Option.{option_map}
use Rattle.civl_reasons.specs.inner.Told.{subformula}
use Rattle.civl_places.specs.declared.formula.Formula.TheVariants as formula
use Rattle.civl_places.specs.declared.formula.InAction.TheVariants as in_action
use Rattle.civl_action_stories.proofs.Items.{formula_fits}
use Rattle.civl_assumptions.proofs.lines.push_gate.Goals as goal

pub expr_count-requires : goal.expr_count-requires
expr_count-requires c =
    let there = sym c.formula_at.ensures ∙ ap (option_map subformula) c.in-Some.is in
    omega (arith, formula_fits c.args.program.now (formula.Action c.args.number in_action.Gate) (subformula c.in-Some.part) there, c.requires)
