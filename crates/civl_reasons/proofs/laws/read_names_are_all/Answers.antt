use Rattle.civl_reasons.proofs.Agreeing.{read_names_are_all}
use Rattle.civl_reasons.proofs.laws.read_names_are_all.Goals as goal

pub returns : goal.returns
returns c = read_names_are_all
