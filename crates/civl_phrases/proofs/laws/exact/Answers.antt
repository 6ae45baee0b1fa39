use Rattle.civl_phrases.proofs.Exactly.{is_exact, one_spelling}
use Rattle.civl_phrases.proofs.laws.exact.Goals as goal

pub returns-clause-right : goal.returns-clause-right
returns-clause-right g c = λ d s f r p tokens. (is_exact p tokens).0

pub returns-clause-only : goal.returns-clause-only
returns-clause-only g c = λ d s f r p tokens y. (is_exact p tokens).1 y

pub returns-clause-one : goal.returns-clause-one
returns-clause-one g c = λ d s f r p a b. one_spelling p a b
