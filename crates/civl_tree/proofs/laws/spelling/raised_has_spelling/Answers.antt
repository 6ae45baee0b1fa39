use Rattle.civl_tree.proofs.Raising as law
use Rattle.civl_tree.proofs.laws.spelling.raised_has_spelling.Goals as goal

pub returns : goal.returns
returns c = law.raised_has_spelling
