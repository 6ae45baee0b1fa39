use Rattle.std.proofs.Common.{◌∙◌, subst}
use Rattle.std.proofs.lemmas.Result.{err_from_is_err_and}
use Rattle.civl_tree.specs.rules.Rules.{refusal_by, Keeps}
use Rattle.civl_types.specs.Checked.{IsCause}
use Rattle.civl_layers.specs.LayerRules.{layer_rules}
use Rattle.civl_layers.specs.Layered.{IsAt}
use Rattle.civl_yields.specs.verify.Admitted.{admission_rules}
use Rattle.civl_frontend.proofs.Lawful.{lawful, by_types, by_layers, by_admission}
use Rattle.civl_frontend.proofs.admission.admitted.Goals as goal

pub returns-clause-lawful : goal.returns-clause-lawful
returns-clause-lawful c =
    let names = c.in_ok-typed.ensures in
    let layers = c.in_ok-src.ensures in
    lawful c.args.program names.passed (subst (Keeps layer_rules) names.same layers.passed) (subst (Keeps admission_rules) (layers.same ∙ names.same) c.in_ok-admitted.ensures.passed)

pub returns-in_err-typed-clause-refused : goal.returns-in_err-typed-clause-refused
returns-in_err-typed-clause-refused c =
    let p = err_from_is_err_and c.from_residual.result c.from_residual.ensures.1 in
    rw (p.1, p.2) (by_types c.args.program c.in_err-typed.field-0.0 c.in_err-typed.ensures.refused)

pub returns-in_err-src-clause-refused : goal.returns-in_err-src-clause-refused
returns-in_err-src-clause-refused c =
    let names = c.in_ok-typed.ensures in
    let p = err_from_is_err_and c.from_residual-in_err-src.result c.from_residual-in_err-src.ensures.1 in
    rw (p.1, p.2) (by_layers c.args.program c.in_err-src.field-0.0 names.passed (subst (λ program. IsAt (refusal_by layer_rules program) c.in_err-src.field-0.0) names.same c.in_err-src.ensures.refused))

pub returns-in_err-admitted-clause-refused : goal.returns-in_err-admitted-clause-refused
returns-in_err-admitted-clause-refused c =
    let names = c.in_ok-typed.ensures in
    let layers = c.in_ok-src.ensures in
    let p = err_from_is_err_and c.from_residual-in_err-admitted.result c.from_residual-in_err-admitted.ensures.1 in
    rw (p.1, p.2) (by_admission c.args.program c.in_err-admitted.field-0.0 names.passed (subst (Keeps layer_rules) names.same layers.passed) (subst (λ program. IsCause (refusal_by admission_rules program) c.in_err-admitted.field-0.0) (layers.same ∙ names.same) c.in_err-admitted.ensures.refused))
