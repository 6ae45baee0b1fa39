use Rattle.std.proofs.Common.{◌≡◌, ◌∙◌, ◌+◌, List, sym, ap, subst}
use Rattle.civl_meaning.specs.declared.config.Config.{Config}
use Rattle.civl_meaning.specs.declared.config.Move.{Move}
use Rattle.civl_meaning.specs.declared.config.Plain.{Plain}
use Rattle.civl_meaning.specs.Layers.{program_at}
use Rattle.civl_meaning.specs.Step.{start}
use Rattle.civl_followed.specs.inner.Along.{AlongAt}
use Rattle.civl_followed.specs.Followed.{FollowsBlocks}
use Rattle.civl_followed.proofs.Walking.{begins_along}
use Rattle.civl_followed.proofs.following.follow_in.Goals as goal

pub returns : goal.returns
returns c g fails =
    let program = c.args.lower.now.program in
    let layer = c.args.layer in
    let store = c.args.store.now in
    let moves = c.args.moves.now in
    let walk = c.in_ok-walk.walk in
    let first = begins_along program layer store moves g walk.lower fails (c.in_ok-walk.ensures.lower layer c.requires.lower) in
    let upper : walk.upper ≡ start (program_at program (layer + 1)) store = c.in_ok-walk.ensures.upper ∙ ap (λ (p : Plain). start p store) c.requires.upper in
    let along =
    subst (λ (x : Config). AlongAt program layer store moves walk.lower x walk.followed.items moves) (sym upper)
    (subst (λ (ns : List Move). AlongAt program layer store moves walk.lower (start (program_at program (layer + 1)) store) ns moves) (sym c.in_ok-walk.ensures.followed) first) in
    subst (FollowsBlocks program layer store moves) (sym c.from_vec.ensures) (c.in_ok-follow_all.ensures store g along)
