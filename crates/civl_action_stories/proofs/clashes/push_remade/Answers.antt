use Rattle.std.proofs.Common.{append_assoc}
use Rattle.civl_action_stories.proofs.clashes.push_remade.Goals as goal

pub returns : goal.returns
returns c = rw (c.in_ok-push-2.ensures.items, c.in_ok-push.ensures.items, c.in_ok-remakes-2.ensures, c.in_ok-remakes.ensures) (simp append_assoc)
