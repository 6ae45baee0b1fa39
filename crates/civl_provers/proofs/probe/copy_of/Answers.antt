use Rattle.std.proofs.Common.{arith, false}
use Rattle.std.proofs.lemmas.List.{ext_get_or}
use Rattle.civl_provers.proofs.probe.copy_of.Goals as goal

pub returns : goal.returns
returns c =
    let size = c.loop-at.invariant.size in
    ext_get_or false c.loop-at.copy c.args.bits.now size (λ i low. c.loop-at.invariant.value i (omega arith))
