use Rattle.std.proofs.Common.{arith, sym, ◌∙◌}
use Rattle.std.proofs.lemmas.Bool.{false≢true}
use Rattle.civl_firing.proofs.Places.{place_of-here, place_of-past}
use Rattle.civl_firing.proofs.truth.place.Goals as goal

pub returns-then-is_same : goal.returns-then-is_same
returns-then-is_same c =
    let here = place_of-here c.args.names.now c.loop-at.at c.get.result.now c.args.name.now (omega arith) c.get.ensures (c.is_same.ensures.0 c.if-is_same.true) in
    omega (arith, here, c.loop-at.invariant)

pub loop-at-preserved : goal.loop-at-preserved
loop-at-preserved c =
    let other = c.is_same.ensures.1 in
    let past = place_of-past c.args.names.now c.loop-at.at c.get.result.now c.args.name.now (omega arith) c.get.ensures (λ same. absurd (false≢true (sym c.if-is_same.false ∙ other same))) in
    omega (arith, past, c.loop-at.invariant)
