use Rattle.civl_reasons.proofs.Agreeing.{read_names_suffice}
use Rattle.civl_reasons.proofs.laws.read_names_suffice.Goals as goal

pub returns : goal.returns
returns c = read_names_suffice
