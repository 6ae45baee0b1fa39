use Rattle.std.proofs.Common.{refl, subst}
use Rattle.civl_verdicts.specs.Formulas.{violation_formula}
use Rattle.civl_verdicts.proofs.judging.Making.{made_term, few_of_violation}
use Rattle.civl_verdicts.proofs.judging.Verdicts.{violates}
use Rattle.civl_certify.specs.inner.Examined.{IsEvidence}
use Rattle.civl_certify.proofs.certifying.show.Goals as goal

pub examine-requires-clause-few : goal.examine-requires-clause-few
examine-requires-clause-few g c = few_of_violation c.args.src.now c.args.condition.now _ _ c.in_ok-terms.ensures c.as_slice.ensures c.requires.light

pub returns-in-Refuted-clause-shown : goal.returns-in-Refuted-clause-shown
returns-in-Refuted-clause-shown g c =
    let formula = violation_formula c.args.src.now c.args.condition.now in
    subst (IsEvidence c.args.budget formula) c.in-Refuted.is (c.in_ok-cnf.ensures.found formula (made_term formula _ _ c.in_ok-terms.ensures c.as_slice.ensures))

pub returns-in-At-clause-shown : goal.returns-in-At-clause-shown
returns-in-At-clause-shown g c =
    let formula = violation_formula c.args.src.now c.args.condition.now in
    (refl, violates c.args.src.now c.args.budget c.args.condition.now _ (subst (IsEvidence c.args.budget formula) c.in-At.is (c.in_ok-cnf.ensures.found formula (made_term formula _ _ c.in_ok-terms.ensures c.as_slice.ensures))))

pub left_open-requires-clause-spends : goal.left_open-requires-clause-spends
left_open-requires-clause-spends g c =
    let formula = violation_formula c.args.src.now c.args.condition.now in
    subst (IsEvidence c.args.budget formula) c.in-Spent.is (c.in_ok-cnf.ensures.found formula (made_term formula _ _ c.in_ok-terms.ensures c.as_slice.ensures))
