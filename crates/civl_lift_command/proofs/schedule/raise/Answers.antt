use Rattle.civl_frontend.proofs.Telling.{of_one}
use Rattle.civl_lift_command.specs.Outcome.{Spent, Raises, telling}
use Rattle.civl_lift_command.proofs.schedule.raise.Goals as goal

pub raised-requires-clause-fails : goal.raised-requires-clause-fails
raised-requires-clause-fails c = (rw c.in-Ok-Fails.field-0-is at c.in-Ok-Fails.ensures).0

pub raised-requires-clause-fewer : goal.raised-requires-clause-fewer
raised-requires-clause-fewer c = (rw c.in-Ok-Fails.field-0-is at c.in-Ok-Fails.ensures).1

pub returns-in-Ok-Spent : goal.returns-in-Ok-Spent
returns-in-Ok-Spent c =
    of_one telling _ _ (Raises c.args.src.now c.args.store.now c.args.moves.now) (Spent c.in-Ok-Spent.step c.in-Ok-Spent.thread)
    (c.requires.given, record { moves = c.in-Ok-Spent._unfinished; unended = rw c.in-Ok-Spent.field-0-is at c.in-Ok-Spent.ensures }) c.spent.ensures
