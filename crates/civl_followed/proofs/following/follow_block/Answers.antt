use Rattle.std.proofs.Common.{◌∙◌, ◌+◌, List, drop, sym, ap, subst, arith, inr}
use Rattle.civl_meaning.specs.declared.config.Move.{Move}
use Rattle.civl_meaning.specs.declared.config.Running.{Running}
use Rattle.civl_reduction.specs.blocks.Cuts.{frame_at}
use Rattle.civl_followed.specs.inner.Frames.{IsKept}
use Rattle.civl_followed.proofs.Rounds.{ready_so, none_waits, shows_so}
use Rattle.civl_followed.proofs.Stepping.{goes_on}
use Rattle.civl_followed.proofs.following.follow_block.Goals as goal

pub returns-then-not-branch-clause-follows : goal.returns-then-not-branch-clause-follows
returns-then-not-branch-clause-follows c store g along not_so =
    let program = c.args.lower.now.program in
    let layer = c.args.layer in
    let moves = c.args.moves.now in
    let walk = c.loop-at.walk in
    let opening = c.in_ok-opening.opening in
    let one = c.index-moves-at.result in
    let rest = drop (c.loop-at.at + 1) moves in
    let ready = ready_so program layer store moves g opening c.args.walk.now walk c.args.from c.loop-at.at c.index-moves-from.result one (omega arith) c.index-moves-at.is c.requires.there c.index-moves-from.is (c.in_ok-opening.ensures.thread ∙ ap (λ (m : Move). m.thread) (sym c.index-moves-from.is))
    c.in_ok-opening.ensures.begins along not_so (c.loop-at.invariant.waits store g along not_so) in
    let shows = shows_so c.args.lower.now layer store moves c.requires.lower g opening one walk.lower c.shadowed_step.new.shadowed walk rest c.in_ok-shadowed_step.field-0 c.in_ok-shadowed_step.ensures.answer c.in_ok-shadowed_step.ensures.moved ready in
    let before = subst (λ (ts : List Running). IsKept program c.in_ok-before.before (frame_at program (layer + 1) ts one.thread)) c.as_slice-threads.ensures c.in_ok-before.ensures in
    c.in_ok-close.ensures.closes store moves rest walk.lower g ready shows (sym c.in_ok-is_inside.ensures ∙ c.if-not-branch.true) before

pub loop-at-preserved : goal.loop-at-preserved
loop-at-preserved c =
    let program = c.args.lower.now.program in
    let layer = c.args.layer in
    let moves = c.args.moves.now in
    let walk = c.loop-at.walk in
    let opening = c.in_ok-opening.opening in
    let one = c.index-moves-at.result in
    let rest = drop (c.loop-at.at + 1) moves in
    record {
      one_each = c.in_ok-shadowed_step.ensures.one_each;
      waits = λ store g along not_so.
          let ready = ready_so program layer store moves g opening c.args.walk.now walk c.args.from c.loop-at.at c.index-moves-from.result one (omega arith) c.index-moves-at.is c.requires.there c.index-moves-from.is (c.in_ok-opening.ensures.thread ∙ ap (λ (m : Move). m.thread) (sym c.index-moves-from.is))
          c.in_ok-opening.ensures.begins along not_so (c.loop-at.invariant.waits store g along not_so) in
          let shows = shows_so c.args.lower.now layer store moves c.requires.lower g opening one walk.lower c.shadowed_step.new.shadowed walk rest c.in_ok-shadowed_step.field-0 c.in_ok-shadowed_step.ensures.answer c.in_ok-shadowed_step.ensures.moved ready in
          inr (goes_on program layer store moves g opening one walk.lower walk.upper walk.followed.items rest ready c.shadowed_step.new.shadowed shows (sym c.in_ok-is_inside.ensures ∙ c.if-not-branch.false));
    }

pub returns-clause-follows : goal.returns-clause-follows
returns-clause-follows c store g along not_so =
    absurd (none_waits c.args.lower.now.program c.args.layer store c.args.moves.now g c.in_ok-opening.opening c.args.walk.now c.loop-at.walk c.args.from c.loop-at.at c.requires.there (omega arith) (c.loop-at.invariant.waits store g along not_so))
