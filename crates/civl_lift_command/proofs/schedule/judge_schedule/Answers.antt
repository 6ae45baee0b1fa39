use Rattle.std.proofs.Common.{◌≡◌, ◌∙◌, true, false, sym, subst}
use Rattle.civl_tree.specs.declared.program.Program.{Program}
use Rattle.civl_conditions.specs.Invariants.{meets_init}
use Rattle.civl_frontend.proofs.Telling.{of_one}
use Rattle.civl_lift_command.specs.Outcome.{NotInitial, Raises, telling}
use Rattle.civl_lift_command.proofs.Starting.{initial_of, not_initial_of}
use Rattle.civl_lift_command.proofs.schedule.judge_schedule.Goals as goal

pub judge_moves-requires-clause-initial : goal.judge_moves-requires-clause-initial
judge_moves-requires-clause-initial c =
    initial_of c.args.src.now c.args.store.now c.requires.fits (subst (λ (p : Program). meets_init p c.args.store.now ≡ true) c.program.ensures.same (sym c.in-Ok.ensures ∙ c.if-starts.true))

pub returns-else-starts : goal.returns-else-starts
returns-else-starts c =
    of_one telling _ _ (Raises c.args.src.now c.args.store.now c.args.moves.now) NotInitial
    (not_initial_of c.args.src.now c.args.store.now (subst (λ (p : Program). meets_init p c.args.store.now ≡ false) c.program.ensures.same (sym c.in-Ok.ensures ∙ c.if-starts.false))) c.not_initial.ensures
