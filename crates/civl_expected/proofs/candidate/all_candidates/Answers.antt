use Rattle.std.proofs.Common.{refl}
use Rattle.civl_expected.specs.Expected.{tried_tokens}
use Rattle.civl_expected.proofs.candidate.all_candidates.Goals as goal

pub returns : goal.returns
unfolding tried_tokens
returns c = refl
