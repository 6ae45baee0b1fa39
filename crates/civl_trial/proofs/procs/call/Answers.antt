use Rattle.std.proofs.Common.{refl}
use Rattle.civl_trial.proofs.procs.call.Goals as goal

pub returns : goal.returns
returns c = λ a r is_a is_r. rw (c.in_ok-parts.ensures _ _ c.of_copy.ensures (c.together.ensures _ _ is_a is_r)) refl
