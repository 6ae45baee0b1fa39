use Rattle.civl_path_stories.proofs.Behind.{lost_target}
use Rattle.civl_path_stories.proofs.story.push_lost_target.Goals as goal

pub returns : goal.returns
returns c =
    lost_target c.args.route.now c.args.src.now c.args.target c.args.values.now _ _ c.args.lines.now.items _ _ c.requires.fits c.requires.same
    c.in_ok-at.ensures c.target_text.ensures c.in_ok-push_lost_at_end.ensures c.in_ok-push_target.ensures
