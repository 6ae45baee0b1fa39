use Rattle.std.proofs.Common.{refl}
use Rattle.civl_trial.proofs.procs.proc.Goals as goal

pub returns : goal.returns
returns c = λ n p o r l b is_h is_r is_l is_b. rw (c.in_ok-parts.ensures _ _ (c.together.ensures _ _ is_h is_r) (c.together-2.ensures _ _ is_l is_b)) refl
