use Rattle.civl_meaning.specs.Layers.{lowest}
use Rattle.civl_lift_command.proofs.Raising.{few_low, trace_there}
use Rattle.civl_lift_command.proofs.schedule.judge_moves.Goals as goal

pub run-requires : goal.run-requires
run-requires c = few_low c.args.src.now c.in-Ok.plain c.args.moves.now c.in-Ok.ensures.same c.requires.few

pub judge_trace-requires-clause-trace : goal.judge_trace-requires-clause-trace
judge_trace-requires-clause-trace c = trace_there c.in-Ok.plain (lowest c.args.src.now) c.args.store.now c.args.moves.now c.in-Ok-run.trace c.in-Ok.ensures.same c.in-Ok-run.ensures
