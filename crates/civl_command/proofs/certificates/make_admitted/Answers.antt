use Rattle.std.proofs.Common.{sym, subst}
use Rattle.civl_tree.specs.declared.program.Program.{Program}
use Rattle.civl_tree.specs.rules.Rules.{Keeps}
use Rattle.civl_linear.specs.LinearRules.{linear_rules}
use Rattle.civl_yields.specs.YieldRules.{yield_rules}
use Rattle.civl_yields.proofs.verify.Admitting.{keeps_first}
use Rattle.civl_frontend.proofs.Telling.{of_one}
use Rattle.civl_command.specs.Outcome.{Asked, Asks, telling}
use Rattle.civl_command.proofs.Deciding.{asked_of}
use Rattle.civl_command.proofs.certificates.make_admitted.Goals as goal

pub make_proof-requires-clause-linear : goal.make_proof-requires-clause-linear
make_proof-requires-clause-linear g c = subst (λ (p : Program). Keeps linear_rules p) (sym c.source-src.ensures.same) (keeps_first linear_rules yield_rules c.args.admitted.now c.source-src.ensures.keeps)

pub returns-in-Ok : goal.returns-in-Ok
returns-in-Ok g c =
    of_one telling _ _ (Asks c.args.at c.args.budget c.args.admitted.now) (Asked c.source-src.result.now c.args.at c.args.budget c.in-Ok.making)
    (asked_of c.args.admitted.now c.source-src.result.now c.args.budget c.source-src.ensures.same c.requires.rules c.args.at c.in-Ok.making c.in-Ok.ensures.making) c.asked.ensures
