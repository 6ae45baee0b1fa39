use Rattle.std.specs.Prelude.{false}
use Rattle.civl_states.proofs.formula_parts.Saying.{constant_test}
use Rattle.civl_moves.proofs.Stopping.{cut_moves}
use Rattle.std.proofs.Common.{ap}
use Rattle.civl_moves.specs.declared.sweep.Stop.{Stop}
use Rattle.civl_moves.proofs.Leaving.{numbers_push}
use Rattle.civl_moves.proofs.stops.pass_cut.Goals as goal

pub returns-clause-moves : goal.returns-clause-moves
returns-clause-moves c = λ p q can.
    cut_moves c.args.terms.now c.constant.new.self p q c.args.sweep.now c.in_ok-no.ensures.grows can c.in_ok-no.no (constant_test c.args.terms.now c.constant.new.self c.in_ok-no.no false c.in_ok-no.ensures.built)
    c.args.number c.in_ok-stop.stop c.push_stop.new.stops c.in_ok-stop.ensures c.in_ok-push_stop.ensures

pub returns-clause-numbers : goal.returns-clause-numbers
returns-clause-numbers c = numbers_push c.args.sweep.now.stops c.push_stop.new.stops c.in_ok-stop.stop c.args.number c.in_ok-push_stop.ensures (ap (λ (s : Stop). s.number) c.in_ok-stop.ensures)
