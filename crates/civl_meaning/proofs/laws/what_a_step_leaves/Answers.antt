use Rattle.civl_meaning.proofs.Stepping.{refused_stays, others_stay}
use Rattle.civl_meaning.proofs.laws.what_a_step_leaves.Goals as goal

pub returns-clause-refused : goal.returns-clause-refused
returns-clause-refused c = refused_stays

pub returns-clause-others : goal.returns-clause-others
returns-clause-others c = others_stay
