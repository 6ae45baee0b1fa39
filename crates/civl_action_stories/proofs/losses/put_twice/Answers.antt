use Rattle.std.proofs.Common.{append_assoc}
use Rattle.civl_action_stories.proofs.losses.put_twice.Goals as goal

pub returns : goal.returns
returns c = rw (c.in_ok-put_both.ensures, c.in_ok-put-2.ensures, c.in_ok-put_number.ensures, c.in_ok-put.ensures) (simp append_assoc)
