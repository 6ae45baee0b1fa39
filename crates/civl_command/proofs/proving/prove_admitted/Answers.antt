use Rattle.std.proofs.Common.{◌∙◌, sym, subst}
use Rattle.civl_tree.specs.declared.program.Program.{Program}
use Rattle.civl_tree.specs.rules.Rules.{Keeps}
use Rattle.civl_linear.specs.LinearRules.{linear_rules}
use Rattle.civl_yields.specs.YieldRules.{yield_rules}
use Rattle.civl_yields.proofs.verify.Admitting.{keeps_first, keeps_second}
use Rattle.civl_frontend.specs.Rules.{IsLawful}
use Rattle.civl_frontend.proofs.Telling.{of_one}
use Rattle.civl_command.specs.Outcome.{Proven, Proves, telling}
use Rattle.civl_command.proofs.Deciding.{proven_of}
use Rattle.civl_command.proofs.proving.prove_admitted.Goals as goal

pub prove_outline-requires-clause-linear : goal.prove_outline-requires-clause-linear
prove_outline-requires-clause-linear g c = subst (λ (p : Program). Keeps linear_rules p) (sym c.source-src.ensures.same) (keeps_first linear_rules yield_rules c.args.admitted.now c.source-src.ensures.keeps)

pub prove_outline-requires-clause-yields : goal.prove_outline-requires-clause-yields
prove_outline-requires-clause-yields g c = subst (λ (p : Program). Keeps yield_rules p) (sym c.source-src.ensures.same) (keeps_second linear_rules yield_rules c.args.admitted.now c.source-src.ensures.keeps)

pub returns-in-Ok : goal.returns-in-Ok
returns-in-Ok g c =
    of_one telling _ _ (Proves c.args.budget c.args.outline.now) (Proven c.args.outline.now c.args.budget c.in-Ok.proving)
    (proven_of c.args.outline.now c.source-src.result.now c.args.budget (c.source-src.ensures.same ∙ c.requires.same) (subst IsLawful c.requires.same c.requires.rules) c.in-Ok.proving c.in-Ok.ensures.proving) c.proven.ensures
