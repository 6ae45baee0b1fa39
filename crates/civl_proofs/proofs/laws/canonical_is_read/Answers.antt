use Rattle.civl_proofs.proofs.Canonical.{canonical_is_read}
use Rattle.civl_proofs.proofs.laws.canonical_is_read.Goals as goal

pub returns : goal.returns
returns c = canonical_is_read
