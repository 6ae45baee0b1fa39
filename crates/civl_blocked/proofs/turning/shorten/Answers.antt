use Rattle.std.proofs.Common.{◌∙◌, sym, subst}
use Rattle.civl_blocked.specs.inner.Segments.{over, IsShortened}
use Rattle.civl_blocked.proofs.Goings.{shorter_goes, shorter_bounded}
use Rattle.civl_blocked.proofs.turning.shorten.Goals as goal

pub returns : goal.returns
returns c bound before room =
    let g = c.args.ground.now in
    let t = c.args.turning.now in
    let s = c.requires.shortening in
    let shorter = c.in_ok-turning.field-0.items in
    let f = subst (IsShortened (over g) c.args.thread c.args.moves.now t.beside.config) (sym (c.in_ok-turning.ensures ∙ c.deref.ensures.value)) c.in_ok-shorter.ensures in
    let b = shorter_bounded g t.done.items t.open t.beside c.args.thread c.args.moves.now shorter s.may_go f bound before room in
    (shorter_goes g t.done.items t.open t.beside c.args.thread c.args.moves.now shorter s.standing s.are_moves f, b.0, b.1)
