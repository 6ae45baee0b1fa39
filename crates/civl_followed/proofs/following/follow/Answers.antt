use Rattle.std.proofs.Common.{List, ap, subst}
use Rattle.civl_tree.specs.declared.program.Program.{Program}
use Rattle.civl_meaning.specs.declared.config.Move.{Move}
use Rattle.civl_meaning.specs.declared.config.Plain.{Plain}
use Rattle.civl_followed.specs.inner.Along.{Grounds}
use Rattle.civl_followed.specs.Followed.{FailsInBlocks, FollowsBlocks}
use Rattle.civl_followed.proofs.following.follow.Goals as goal

pub returns : goal.returns
returns c =
    let layer = c.args.layer in
    let store = c.args.store.now in
    let followed = c.in_ok-followed.followed in
    let grounds : Grounds c.args.src.now layer store =
    record { checked = c.requires.checked; in_roots = c.checked.ensures.roots; sound = c.blocks_are_sound.ensures c.args.src.now layer store c.requires.checked } in
    subst (λ (ms : List Move). FailsInBlocks c.args.src.now layer store ms → FollowsBlocks c.args.src.now layer store ms followed) c.as_slice.ensures
    (subst (λ (p : Program). Grounds p layer store → FailsInBlocks p layer store c.as_slice.result.now → FollowsBlocks p layer store c.as_slice.result.now followed) (ap (λ (p : Plain). p.program) c.in_ok-lower.ensures.same) c.in_ok-followed.ensures grounds)
    c.requires.fails
