use Rattle.civl_reasons.proofs.Agreeing.{read_names_differ}
use Rattle.civl_reasons.proofs.laws.read_names_differ.Goals as goal

pub returns : goal.returns
returns c = read_names_differ
