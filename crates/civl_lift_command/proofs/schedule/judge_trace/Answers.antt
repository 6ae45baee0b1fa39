use Rattle.std.proofs.Common.{sym, ap, ◌∙◌}
use Rattle.civl_meaning.specs.Layers.{lowest}
use Rattle.civl_script.specs.declared.replays.trace.Trace.{Trace}
use Rattle.civl_frontend.proofs.Telling.{of_one}
use Rattle.civl_lift_command.specs.Outcome.{NotFailing, Raises, telling}
use Rattle.civl_lift_command.proofs.Running.{fails_by, fails_not}
use Rattle.civl_lift_command.proofs.schedule.judge_trace.Goals as goal

pub raise-requires-clause-given : goal.raise-requires-clause-given
raise-requires-clause-given c = record {
  initial = c.requires.initial;
  fails = fails_by (lowest c.args.src.now) c.args.store.now c.args.moves.now c.args.trace.now c.requires.trace c.requires.moves (sym c.is_failure.ensures ∙ c.if-is_failure.true);
}

pub returns-else-is_failure : goal.returns-else-is_failure
returns-else-is_failure c =
    of_one telling _ _ (Raises c.args.src.now c.args.store.now c.args.moves.now) (NotFailing c.args.trace.now.moved)
    (c.requires.initial, fails_not (lowest c.args.src.now) c.args.store.now c.args.moves.now c.args.trace.now c.requires.trace (sym c.is_failure.ensures ∙ c.if-is_failure.false), ap (λ (t : Trace). t.moved) c.requires.trace)
    c.not_failing.ensures
