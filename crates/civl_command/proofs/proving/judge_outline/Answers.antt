use Rattle.std.proofs.Common.{◌≡◌, Some, subst, sym}
use Rattle.civl_tree.specs.Numbered.{IsNumbered}
use Rattle.civl_tree.specs.declared.program.Program.{Program}
use Rattle.civl_frontend.specs.Rules.{static_refusal}
use Rattle.civl_frontend.proofs.Telling.{of_one}
use Rattle.civl_command.specs.Outcome.{Broken, Proves, telling}
use Rattle.civl_command.proofs.proving.judge_outline.Goals as goal

pub admitted-requires : goal.admitted-requires
admitted-requires g c = subst IsNumbered (sym c.in-Ok.ensures) c.requires.numbered

pub returns-in-Err-At : goal.returns-in-Err-At
returns-in-Err-At g c =
    of_one telling _ _ (Proves c.args.budget c.args.outline.now) (Broken c.in-Err-At.refusal)
    (subst (λ (p : Program). static_refusal p ≡ Some c.in-Err-At.refusal) c.in-Ok.ensures (rw c.in-Err-At.field-0-is at c.in-Err-At.ensures.refused)) c.refuse.ensures
