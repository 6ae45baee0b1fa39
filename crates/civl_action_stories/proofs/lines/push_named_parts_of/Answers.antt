use Rattle.std.proofs.Common.{sym, ap, ◌∙◌, arith}
use Rattle.std.specs.Option.{option_map}
use Rattle.civl_reasons.specs.inner.Told.{subformula}
use Rattle.civl_action_stories.proofs.Items.{formula_fits}
use Rattle.civl_action_stories.proofs.lines.push_named_parts_of.Goals as goal

pub push_named_parts-requires : goal.push_named_parts-requires
push_named_parts-requires g c =
    let there = sym c.formula_at.ensures ∙ ap (option_map subformula) c.in-Some.is in
    omega (arith, formula_fits c.args.program.now c.args.formula.now (subformula c.in-Some.part) there, c.requires)
