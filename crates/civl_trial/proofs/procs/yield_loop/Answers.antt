use Rattle.std.proofs.Common.{refl}
use Rattle.civl_trial.proofs.procs.yield_loop.Goals as goal

pub returns : goal.returns
returns c = λ a i b is_a is_i is_b. rw (c.in_ok-parts.ensures _ _ (c.together.ensures _ _ is_a is_i) is_b) refl
