use Rattle.civl_meaning.proofs.Begun.{start_is_of}
use Rattle.civl_meaning.proofs.laws.configs.starts.Goals as goal

pub returns : goal.returns
returns c = start_is_of
