use Rattle.std.proofs.Common.{◌≡◌, ℕ, subst}
use Rattle.std.specs.Prelude.{None, Option, IfOk}
use Rattle.civl_conditions.specs.footprints.Agreement.{exists_at}
use Rattle.civl_conditions.specs.Steps.{of_action}
use Rattle.civl_conditions.specs.Values.{invoked, store_of, count_of}
use Rattle.civl_clashes.specs.declared.violations.Violation.{Violation}
use Rattle.civl_clashes.specs.Told.{keep_violation}
use Rattle.civl_clashes.proofs.told.of_keep.Goals as goal

pub returns : goal.returns
returns c =
    let p = c.args.program.now in
    let vs = c.args.values.now in
    let told : ℕ → Option Violation = λ layer. of_action p c.args.m None (λ a. keep_violation p (store_of (exists_at layer) p vs) c.args.m (invoked vs (count_of (exists_at layer) p) a)) in
    subst (λ (layer : ℕ). IfOk c.linear_violation.result (λ t. t ≡ told layer)) c.saturating_sub.ensures c.linear_violation.ensures
