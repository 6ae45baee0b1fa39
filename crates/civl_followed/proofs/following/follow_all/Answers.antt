use Rattle.std.proofs.Common.{◌∙◌, drop, sym, subst, arith}
use Rattle.std.proofs.lemmas.List.{drop_all}
use Rattle.civl_followed.specs.inner.Along.{AlongAt}
use Rattle.civl_followed.proofs.Walking.{challenged_along, ends_along}
use Rattle.civl_followed.proofs.following.follow_all.Goals as goal

pub returns-then-branch : goal.returns-then-branch
returns-then-branch c store g along =
    let walk = c.loop-at.walk in
    challenged_along c.args.lower.now.program c.args.layer store c.args.moves.now g walk.lower walk.upper walk.followed.items (drop c.loop-at.at c.args.moves.now) (c.loop-at.invariant.follows store g along)
    (λ s shows. sym (c.in_ok-is_challenged.ensures s shows) ∙ c.if-branch.true)

pub returns : goal.returns
returns c store g along =
    let walk = c.loop-at.walk in
    ends_along c.args.lower.now.program c.args.layer store c.args.moves.now g walk.lower walk.upper walk.followed.items
    (subst (AlongAt c.args.lower.now.program c.args.layer store c.args.moves.now walk.lower walk.upper walk.followed.items) (drop_all c.loop-at.at c.args.moves.now (omega arith)) (c.loop-at.invariant.follows store g along))
