use Rattle.civl_terms.proofs.Weighing.{terms_weigh_less}
use Rattle.civl_terms.proofs.laws.terms_weigh_less.Goals as goal

pub returns : goal.returns
returns c = terms_weigh_less
