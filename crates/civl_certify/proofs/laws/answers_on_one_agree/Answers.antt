use Rattle.civl_certify.proofs.Agreeing as agreeing
use Rattle.civl_certify.proofs.laws.answers_on_one_agree.Goals as goal

pub returns : goal.returns
returns c = agreeing.answers_on_one_agree
