use Rattle.civl_reduction.proofs.mover_laws.Moving.{right_movers_move, left_movers_move, left_movers_fire}
use Rattle.civl_reduction.proofs.mover_laws.laws.movers_move.Goals as goal

pub returns-clause-right : goal.returns-clause-right
returns-clause-right c = right_movers_move

pub returns-clause-left : goal.returns-clause-left
returns-clause-left c = left_movers_move

pub returns-clause-fire : goal.returns-clause-fire
returns-clause-fire c = left_movers_fire
