use Rattle.std.proofs.Common.{◌∙◌, ◌++◌, [], sym}
use Rattle.std.specs.Prelude.{Contains}
use Rattle.std.proofs.lemmas.List.{get_or_default}
use Rattle.civl_rup.proofs.following.heed_number.Goals as goal

pub returns-in_ok-falsified-in-Some-clause-says : goal.returns-in_ok-falsified-in-Some-clause-says
returns-in_ok-falsified-in-Some-clause-says c first falses f =
    let all = c.args.formula.now ++ c.args.earlier.now in
    let at = c.in-Some.ensures in
    let clause = c.lits.result.now in
    let is = c.lits.ensures ∙ at.is in
    let there : Contains all clause = (c.args.number, at.within, get_or_default all c.args.number clause [] at.within ∙ sym is) in
    c.in_ok-falsified-in-Some.ensures.says all there first falses f
