use Rattle.std.proofs.Common.{subst, arith}
use Rattle.civl_blocked.specs.Blocked.{IsBlocked}
use Rattle.civl_lifting.proofs.Raising.{turned_fails, followed_few, followed_fails}
use Rattle.civl_lifting.proofs.lifting.lift.Goals as goal

pub follow-requires-clause-fails : goal.follow-requires-clause-fails
follow-requires-clause-fails c =
    let program = c.args.src.now in
    let layer = c.loop-layer.layer in
    let store = c.args.store.now in
    let given = c.loop-layer.lifted in
    let turned = subst (IsBlocked program layer store 1000000 given) c.in-Run.is c.in_ok-blocks.ensures in
    turned_fails program layer store given c.in-Run.blocks turned

pub loop-layer-preserved : goal.loop-layer-preserved
loop-layer-preserved c =
    let program = c.args.src.now in
    let layer = c.loop-layer.layer in
    let store = c.args.store.now in
    let given = c.loop-layer.lifted in
    let blocks = c.in-Run.blocks in
    let lifted = c.in_ok-lifted-in-Run.lifted in
    let turned = subst (IsBlocked program layer store 1000000 given) c.in-Run.is c.in_ok-blocks.ensures in
    let a = c.loop-layer.invariant.few in
    let b = followed_few program layer store given blocks lifted turned c.in_ok-lifted-in-Run.ensures in
    record { fails = followed_fails program layer store blocks lifted c.in_ok-lifted-in-Run.ensures; few = omega (arith, a, b) }
