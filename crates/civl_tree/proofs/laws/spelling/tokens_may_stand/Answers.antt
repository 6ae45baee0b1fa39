use Rattle.civl_tree.proofs.Standing as law
use Rattle.civl_tree.proofs.laws.spelling.tokens_may_stand.Goals as goal

pub returns : goal.returns
returns c = law.tokens_may_stand
