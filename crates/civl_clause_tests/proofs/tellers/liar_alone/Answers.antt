use Rattle.civl_clause_tests.proofs.Alone.{no_log}
use Rattle.civl_clause_tests.proofs.tellers.liar_alone.Goals as goal

pub returns : goal.returns
returns g c = record { gone = c.ask_alone.ensures.gone _ _ c.in-Ok.ensures.tells c.in-Ok.ensures.lacked (no_log _) }
