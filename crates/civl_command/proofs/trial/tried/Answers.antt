use Rattle.std.proofs.Common.{◌∙◌, ap, List, ℕ, ◌++◌, sym}
use Rattle.civl_command.specs.Report.{trial_line}
use Rattle.civl_command.proofs.Judging.{tried_in}
use Rattle.civl_command.proofs.trial.tried.Goals as goal

pub returns : goal.returns
returns c =
    tried_in c.args.number c.args.judged.now _ c.requires (sym c.wants_memory.ensures ∙ c.if-wants_memory.false)
    (c.in-Ok.ensures ∙ ap (λ (r : List ℕ). trial_line c.args.number ++ r) c.as_slice.ensures)
