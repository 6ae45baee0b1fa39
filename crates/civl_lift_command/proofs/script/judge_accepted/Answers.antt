use Rattle.civl_script.specs.declared.schedule.Schedule.TheVariants.{Fits, Wrong}
use Rattle.civl_frontend.proofs.Telling.{of_one}
use Rattle.civl_lift_command.specs.Outcome.{Misfit, Lifts, telling}
use Rattle.civl_script.proofs.Fitting.{entries_fit, moves_are}
use Rattle.civl_lift_command.proofs.Raising.{few_given, schedule_of}
use Rattle.civl_lift_command.proofs.Judging.{raised_in}
use Rattle.civl_lift_command.proofs.script.judge_accepted.Goals as goal

pub judge_schedule-requires-clause-fits : goal.judge_schedule-requires-clause-fits
judge_schedule-requires-clause-fits c =
    entries_fit c.args.src.now.globals c.args.store.now c.in-Ok-Fits.store.values
    (schedule_of c.program.result.now c.args.src.now c.args.store.now c.args.moves.now (Fits c.in-Ok-Fits.store c.in-Ok-Fits.moves) c.program.ensures.same (rw c.in-Ok-Fits.field-0-is at c.in-Ok-Fits.ensures)).0

pub judge_schedule-requires-clause-moves : goal.judge_schedule-requires-clause-moves
judge_schedule-requires-clause-moves c = moves_are c.args.moves.now c.in-Ok-Fits.moves (rw c.in-Ok-Fits.field-0-is at c.in-Ok-Fits.ensures).1

pub judge_schedule-requires-clause-few : goal.judge_schedule-requires-clause-few
judge_schedule-requires-clause-few c = few_given c.args.src.now c.args.moves.now c.in-Ok-Fits.moves (rw c.in-Ok-Fits.field-0-is at c.in-Ok-Fits.ensures).1 c.requires.few

pub returns-in-Ok-Fits : goal.returns-in-Ok-Fits
returns-in-Ok-Fits c =
    raised_in c.args.budget (record { program = c.args.src.now; store = c.args.store.now; moves = c.args.moves.now }) c.in-Ok-Fits.store c.in-Ok-Fits.moves
    (record {
      accepted = c.requires.accepted;
      fits = schedule_of c.program.result.now c.args.src.now c.args.store.now c.args.moves.now (Fits c.in-Ok-Fits.store c.in-Ok-Fits.moves) c.program.ensures.same (rw c.in-Ok-Fits.field-0-is at c.in-Ok-Fits.ensures);
    }) _ _ c.judge_schedule.ensures

pub returns-in-Ok-Wrong : goal.returns-in-Ok-Wrong
returns-in-Ok-Wrong c =
    of_one telling _ _ (Lifts c.args.budget (record { program = c.args.src.now; store = c.args.store.now; moves = c.args.moves.now })) (Misfit c.in-Ok-Wrong.number)
    (c.requires.accepted, schedule_of c.program.result.now c.args.src.now c.args.store.now c.args.moves.now (Wrong c.in-Ok-Wrong.number) c.program.ensures.same (rw c.in-Ok-Wrong.field-0-is at c.in-Ok-Wrong.ensures))
    c.misfit.ensures
