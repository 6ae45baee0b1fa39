use Rattle.civl_terms.proofs.Growing.{lengthens_kept, lengthens_numbered, built_numbered}
use Rattle.civl_terms.proofs.terms.Terms.variable.Goals as goal

pub returns-in_err-id-clause-grows : goal.returns-in_err-id-clause-grows
returns-in_err-id-clause-grows c = lengthens_kept _ _ c.in_err-id.ensures.err

pub returns-clause-built : goal.returns-clause-built
returns-clause-built c = built_numbered _ _ _ _ c.add.ensures.graph tt c.in_ok-id.ensures.numbers

pub returns-clause-grows : goal.returns-clause-grows
returns-clause-grows c = lengthens_numbered _ _ _ _ c.in_ok-id.ensures.numbers
