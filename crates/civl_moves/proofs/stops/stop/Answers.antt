use Rattle.std.specs.Prelude.{false}
use Rattle.civl_states.proofs.formula_parts.Saying.{constant_test}
use Rattle.civl_moves.proofs.Stopping.{stop_moves}
use Rattle.civl_moves.proofs.stops.stop.Goals as goal

pub returns-clause-moves : goal.returns-clause-moves
returns-clause-moves c = λ p q can.
    stop_moves c.args.terms.now c.constant.new.self p q c.args.sweep.now c.in_ok-no.ensures.grows can c.in_ok-no.no (constant_test c.args.terms.now c.constant.new.self c.in_ok-no.no false c.in_ok-no.ensures.built)
