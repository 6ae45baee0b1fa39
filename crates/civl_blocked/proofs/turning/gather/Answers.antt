use Rattle.std.proofs.Common.{◌∙◌}
use Rattle.civl_blocked.proofs.Rooms.{room_of}
use Rattle.civl_blocked.proofs.turning.gather.Goals as goal

pub returns : goal.returns
returns c bound before room =
    let t = c.args.turning.now in
    let s = c.args.segment in
    c.in_ok-next.ensures bound before (room_of c.args.ground.now bound before t.done.items t.open c.args.thread s.moves.items s.last t.rest.items c.deref.result.now (c.deref.ensures.value ∙ c.in_ok-push.ensures.items) c.requires.gathering.mine room)
