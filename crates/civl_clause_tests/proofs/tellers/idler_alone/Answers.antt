use Rattle.civl_clause_tests.proofs.tellers.idler_alone.Goals as goal

pub returns : goal.returns
returns g c = record { left = c.ask_alone.ensures.left _ _ _ c.in-Ok.ensures.tells c.in-Ok.ensures.often c.in-Ok.ensures.honest (λ refused. refused) }
