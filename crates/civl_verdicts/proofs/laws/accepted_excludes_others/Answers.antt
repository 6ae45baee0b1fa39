use Rattle.std.proofs.Common.{◌∙◌, sym}
use Rattle.civl_tree.proofs.Pairs.{contains_at}
use Rattle.civl_conditions.specs.Listed.{conditions}
use Rattle.civl_verdicts.proofs.Excluding.{not_both}
use Rattle.civl_verdicts.proofs.laws.accepted_excludes_others.Goals as goal

pub returns : goal.returns
returns c = λ program budget count accepted. record {
  rejected = λ other counter rejected. not_both program counter.condition counter.values (accepted.1 counter.condition (contains_at (conditions program) rejected.0.0 counter.condition rejected.0.1.there)) rejected.1;
  no_initial = λ other none. none accepted.0.0 accepted.0.1;
  counts = λ other count again. again.2 ∙ sym accepted.2;
}
