use Rattle.civl_tree.proofs.Numbers as law
use Rattle.civl_tree.proofs.laws.spelling.body_is_numbered.Goals as goal

pub returns : goal.returns
returns c = law.body_statements_numbered
