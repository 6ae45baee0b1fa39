use Rattle.std.proofs.Common.{sym, subst, ◌+◌, ◌<◌, length}
use Rattle.std.specs.Prelude.{IsTrue}
use Rattle.civl_tree.specs.Numbered.{IsNumbered}
use Rattle.civl_tree.specs.SpellingDomain.{allows_program}
use Rattle.civl_tree.specs.declared.program.Program.{Program}
use Rattle.civl_frontend.specs.Rules.{IsLawful}
use Rattle.civl_frontend.specs.Told.{IsJudged}
use Rattle.civl_lift_command.specs.Outcome.{Lifts, telling}
use Rattle.civl_lift_command.proofs.script.judge_script.Goals as goal

pub judge_admitted-requires-clause-rules : goal.judge_admitted-requires-clause-rules
judge_admitted-requires-clause-rules c = subst (λ (p : Program). IsLawful p) (sym c.in-Ok.ensures.same) c.in-Ok.ensures.lawful

pub judge_admitted-requires-clause-numbered : goal.judge_admitted-requires-clause-numbered
judge_admitted-requires-clause-numbered c = subst (λ (p : Program). IsNumbered p) (sym c.in-Ok.ensures.same) c.requires.numbered

pub judge_admitted-requires-clause-written : goal.judge_admitted-requires-clause-written
judge_admitted-requires-clause-written c = subst (λ (p : Program). IsTrue (allows_program p)) (sym c.in-Ok.ensures.same) c.requires.written

pub judge_admitted-requires-clause-few : goal.judge_admitted-requires-clause-few
judge_admitted-requires-clause-few c = subst (λ (p : Program). length p.threads + length c.args.script.moves + 1 < 4294967296) (sym c.in-Ok.ensures.same) c.requires.few

pub returns-in-Ok : goal.returns-in-Ok
returns-in-Ok c =
    subst (λ (p : Program). IsJudged telling (Lifts c.args.budget (record { program = p; store = c.args.script.store; moves = c.args.script.moves })) c.judge_admitted.result) c.in-Ok.ensures.same c.judge_admitted.ensures
