use Rattle.std.proofs.Common.{◌∙◌, List, ℕ, subst}
use Rattle.civl_words.specs.Words.{usual_budget}
use Rattle.civl_command.specs.Outcome.{CallsFor}
use Rattle.civl_command.specs.Judge.{IsJudged}
use Rattle.civl_command.specs.declared.task.Task.TheVariants.{Check}
use Rattle.civl_command.proofs.trial.judge_trial.Goals as goal

pub tried-requires : goal.tried-requires
tried-requires g c = subst (λ (text : List ℕ). IsJudged (CallsFor (Check usual_budget) text) c.check_usually-judged.result) (c.as_slice.ensures.value ∙ c.in-Ok.ensures) c.check_usually-judged.ensures
