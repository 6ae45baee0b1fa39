use Rattle.std.proofs.Common.{refl}
use Rattle.civl_trial.proofs.actions.action.Goals as goal

pub returns : goal.returns
returns c = λ n p o g w u is_h is_g is_w is_u. rw (c.in_ok-parts.ensures _ _ (c.together.ensures _ _ is_h is_u) (c.together-2.ensures _ _ is_g is_w), c.new.ensures) refl
