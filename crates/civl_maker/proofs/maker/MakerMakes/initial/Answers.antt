use Rattle.std.proofs.Common.{◌∙◌, ap, subst}
use Rattle.civl_tree.specs.declared.program.Program.{Program}
use Rattle.civl_tree.specs.rules.Rules.{Keeps}
use Rattle.civl_tree.specs.rules.Typing.{typing_rules}
use Rattle.civl_states.specs.Stores.{global_sorts}
use Rattle.civl_states.proofs.formula_parts.Giving.{no_variables}
use Rattle.civl_maker.proofs.Making.{initial_made}
use Rattle.civl_maker.proofs.maker.MakerMakes.initial.Goals as goal

pub initial-requires : goal.initial-requires
initial-requires c = no_variables c.new-terms.result _ c.new-terms.ensures

pub returns : goal.returns
returns c =
    initial_made c.args.src.now c.new-terms.result _ (subst (λ (p : Program). Keeps typing_rules p) c.program.ensures.same c.program.ensures.keeps.rules) c.new-terms.ensures
    (c.in_ok-sorts.ensures ∙ ap global_sorts c.program.ensures.same) c.in_ok-id.ensures.says c.in_ok-id.ensures.weighs
