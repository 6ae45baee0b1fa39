use Rattle.std.proofs.Common.{append_assoc}
use Rattle.civl_action_stories.proofs.clashes.push_ends.Goals as goal

pub returns : goal.returns
returns c = rw (c.in_ok-push.ensures.items, c.in_ok-push_remade.ensures, c.in_ok-differs.ensures) (simp append_assoc)
