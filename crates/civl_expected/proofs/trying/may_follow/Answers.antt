use Rattle.std.proofs.Common.{◌∙◌}
use Rattle.civl_expected.specs.Expected.{token_of}
use Rattle.civl_expected.proofs.Growing.{spelled_with}
use Rattle.civl_expected.proofs.trying.may_follow.Goals as goal

pub returns-clause-may : goal.returns-clause-may
returns-clause-may g c =
    c.in_ok-may.ensures _ (token_of c.args.candidate)
    (spelled_with c.args.front.now.items c.token.result _ (token_of c.args.candidate) (c.as_slice.ensures.value ∙ c.in_ok-push.ensures.items) c.token.ensures)
