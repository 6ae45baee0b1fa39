use Rattle.std.proofs.Common.{refl}
use Rattle.civl_frontend.proofs.Telling.{of_one}
use Rattle.civl_command.specs.Outcome.{Replayed, FindsReplayed, telling}
use Rattle.civl_command.proofs.certificates.replay_bytes.Goals as goal

pub returns-in-Ok : goal.returns-in-Ok
returns-in-Ok c =
    of_one telling _ _ (FindsReplayed c.args.bytes.now) (Replayed c.in-Ok.replaying) (record { short = c.requires; replaying_ = c.in-Ok.replaying; is = c.in-Ok.ensures; outcome_is = refl }) c.replayed.ensures
