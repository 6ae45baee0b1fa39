use Rattle.std.proofs.Common.{refl}
use Rattle.civl_trial.proofs.phrases.headed.Goals as goal

pub returns : goal.returns
returns c = λ n p o is_n is_p is_o. rw (c.in_ok-parts.ensures _ _ is_n (c.together.ensures _ _ is_p is_o)) refl
