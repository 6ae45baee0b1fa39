use Rattle.std.proofs.Common.{sym, subst, ◌≡◌, ◌+◌, ◌<◌, length}
use Rattle.std.specs.Prelude.{IsTrue, Some}
use Rattle.civl_tree.specs.Numbered.{IsNumbered}
use Rattle.civl_tree.specs.SpellingDomain.{allows_program}
use Rattle.civl_tree.specs.declared.program.Program.{Program}
use Rattle.civl_tree.specs.rules.Rules.{Keeps}
use Rattle.civl_linear.specs.LinearRules.{linear_rules}
use Rattle.civl_yields.specs.YieldRules.{yield_rules}
use Rattle.civl_yields.proofs.verify.Admitting.{keeps_first}
use Rattle.civl_conditions.specs.Weights.{heavy}
use Rattle.civl_frontend.specs.Rules.{IsLawful}
use Rattle.civl_frontend.specs.Told.{IsJudged}
use Rattle.civl_frontend.proofs.Telling.{of_one}
use Rattle.civl_lift_command.specs.Outcome.{Heavy, Lifts, telling}
use Rattle.civl_lift_command.proofs.script.judge_admitted.Goals as goal

pub verify-requires-clause-linear : goal.verify-requires-clause-linear
verify-requires-clause-linear c = subst (λ (p : Program). Keeps linear_rules p) (sym c.source-src.ensures.same) (keeps_first linear_rules yield_rules c.args.admitted.now c.source-src.ensures.keeps)

pub judge_verdict-requires-clause-taken : goal.judge_verdict-requires-clause-taken
judge_verdict-requires-clause-taken c = record { rules = subst (λ (p : Program). IsLawful p) (sym c.source-src.ensures.same) c.requires.rules; light = c.in-Ok.ensures.light }

pub judge_verdict-requires-clause-numbered : goal.judge_verdict-requires-clause-numbered
judge_verdict-requires-clause-numbered c = subst (λ (p : Program). IsNumbered p) (sym c.source-src.ensures.same) c.requires.numbered

pub judge_verdict-requires-clause-written : goal.judge_verdict-requires-clause-written
judge_verdict-requires-clause-written c = subst (λ (p : Program). IsTrue (allows_program p)) (sym c.source-src.ensures.same) c.requires.written

pub judge_verdict-requires-clause-few : goal.judge_verdict-requires-clause-few
judge_verdict-requires-clause-few c = subst (λ (p : Program). length p.threads + length c.args.moves.now + 1 < 4294967296) (sym c.source-src.ensures.same) c.requires.few

pub returns-in-Ok : goal.returns-in-Ok
returns-in-Ok c =
    subst (λ (p : Program). IsJudged telling (Lifts c.args.budget (record { program = p; store = c.args.store.now; moves = c.args.moves.now })) c.judge_verdict.result) c.source-src.ensures.same c.judge_verdict.ensures

pub returns-in-Err-Weight : goal.returns-in-Err-Weight
returns-in-Err-Weight c =
    let weighs = subst (λ (p : Program). heavy p ≡ Some c.in-Err-Weight.formula) c.source-src.ensures.same (rw c.in-Err-Weight.field-0-is at c.in-Err-Weight.ensures.heavy) in
    of_one telling _ _ (Lifts c.args.budget (record { program = c.args.admitted.now; store = c.args.store.now; moves = c.args.moves.now })) (Heavy c.source-src.result.now c.in-Err-Weight.formula)
    (c.source-src.ensures.same, c.requires.rules, weighs) c.too_heavy.ensures
