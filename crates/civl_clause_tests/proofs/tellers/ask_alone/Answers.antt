use Rattle.std.proofs.Common.{rules}
use Rattle.civl_clause_tests.proofs.Alone.{liar_goes, idler_stays}
use Rattle.civl_clause_tests.proofs.tellers.ask_alone.Goals as goal

pub returns : goal.returns
returns g c = record {
  gone = λ told lacked tells count refused. liar_goes c.args.prover _ _ _ _ _ _ _ told lacked (search rules) tells count refused c.in_ok-asked.ensures.round;
  left = λ told calls is_honest tells often same unrefused. idler_stays c.args.prover _ _ _ _ _ _ _ told calls is_honest (search rules) tells often same unrefused c.in_ok-asked.ensures.round;
}
