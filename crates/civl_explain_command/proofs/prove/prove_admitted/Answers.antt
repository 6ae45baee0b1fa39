use Rattle.std.proofs.Common.{sym, subst}
use Rattle.civl_tree.specs.declared.program.Program.{Program}
use Rattle.civl_tree.specs.rules.Rules.{Keeps}
use Rattle.civl_linear.specs.LinearRules.{linear_rules}
use Rattle.civl_yields.specs.YieldRules.{yield_rules}
use Rattle.civl_yields.proofs.verify.Admitting.{keeps_first, keeps_second}
use Rattle.civl_explain_command.proofs.prove.prove_admitted.Goals as goal

pub prove_outline-requires-clause-linear : goal.prove_outline-requires-clause-linear
prove_outline-requires-clause-linear g c = subst (λ (p : Program). Keeps linear_rules p) (sym c.source.ensures.same) (keeps_first linear_rules yield_rules c.args.admitted.now c.source.ensures.keeps)

pub prove_outline-requires-clause-yields : goal.prove_outline-requires-clause-yields
prove_outline-requires-clause-yields g c = subst (λ (p : Program). Keeps yield_rules p) (sym c.source.ensures.same) (keeps_second linear_rules yield_rules c.args.admitted.now c.source.ensures.keeps)
