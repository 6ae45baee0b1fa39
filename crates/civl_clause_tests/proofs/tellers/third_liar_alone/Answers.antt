use Rattle.civl_clause_tests.proofs.Alone.{third_lies, others_idle}
use Rattle.civl_clause_tests.proofs.tellers.third_liar_alone.Goals as goal

pub returns : goal.returns
returns g c = record {
  gone = λ is. c.ask_alone.ensures.gone _ _ c.in-Ok.ensures.tells c.in-Ok.ensures.lacked (third_lies _ c.args.calls is);
  left = λ isnt. c.ask_alone.ensures.left _ _ _ c.in-Ok.ensures.tells c.in-Ok.ensures.often c.in-Ok.ensures.honest (others_idle _ c.args.calls isnt);
}
