use Rattle.civl_meaning.specs.Layers.{topmost}
use Rattle.civl_frontend.proofs.Telling.{of_one}
use Rattle.civl_lift_command.specs.Outcome.{Lifted, Raises, telling}
use Rattle.civl_lift_command.proofs.Running.{some_fails}
use Rattle.civl_lift_command.proofs.Raising.{few_top, trace_there, told_at_top}
use Rattle.civl_lift_command.proofs.schedule.raised.Goals as goal

pub run-requires : goal.run-requires
run-requires c = few_top c.args.src.now c.in-Ok.plain c.args.given.now c.args.moves.now c.in-Ok.ensures.same c.requires.fewer c.requires.few

pub unwrap-requires : goal.unwrap-requires
unwrap-requires c =
    some_fails (topmost c.args.src.now) c.args.store.now c.args.moves.now c.in-Ok-run.trace
    (trace_there c.in-Ok.plain (topmost c.args.src.now) c.args.store.now c.args.moves.now c.in-Ok-run.trace c.in-Ok.ensures.same c.in-Ok-run.ensures) c.requires.fails

pub returns : goal.returns
returns c =
    let is = trace_there c.in-Ok.plain (topmost c.args.src.now) c.args.store.now c.args.moves.now c.in-Ok-run.trace c.in-Ok.ensures.same c.in-Ok-run.ensures in
    of_one telling _ _ (Raises c.args.src.now c.args.store.now c.args.given.now) (Lifted c.args.moves.now c.unwrap.result)
    (c.requires.given, told_at_top c.args.src.now c.args.store.now c.args.given.now c.args.moves.now c.in-Ok-run.trace c.unwrap.result is c.requires.fails c.requires.fewer c.unwrap.ensures)
    c.lifted.ensures
