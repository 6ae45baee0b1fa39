use Rattle.std.proofs.Common.{◌∙◌, subst}
use Rattle.civl_tree.specs.declared.program.Program.{Program}
use Rattle.civl_command.specs.inner.Replay.{plain_for}
use Rattle.civl_command.specs.Outcome.{Runs}
use Rattle.civl_command.specs.Judge.{IsJudged}
use Rattle.civl_command.proofs.replay.judge_script.Goals as goal

pub returns-in-Ok : goal.returns-in-Ok
returns-in-Ok c =
    subst (λ (p : Program). IsJudged (Runs (plain_for c.args.end) (record { program = p; store = c.args.script.store; moves = c.args.script.moves })) c.judge_lawful.result)
    (c.source.ensures.same ∙ c.in-Ok.ensures.same) c.judge_lawful.ensures
