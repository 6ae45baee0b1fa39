use Rattle.std.proofs.Common.{sym, subst}
use Rattle.civl_firing.specs.declared.store.Store.{Store}
use Rattle.civl_conditions.specs.Targets.{Other}
use Rattle.civl_states.specs.formula_parts.Said.{Env, IsTest}
use Rattle.civl_states.specs.Stores.{AreStore}
use Rattle.civl_refine.specs.declared.steadiness.kept.Kept.{Kept}
use Rattle.civl_refine.specs.inner.steadiness.Kept.{SaysOther, kept_before}
use Rattle.civl_refine.proofs.steadiness.kept.kept_before.Goals as goal

pub returns-in_ok-id-in-Yield-clause-tells : goal.returns-in_ok-id-in-Yield-clause-tells
returns-in_ok-id-in-Yield-clause-tells c =
    subst (λ (k : Kept). (o : Env → Other) (g : Env → Store) → SaysOther c.args.terms.now k o → AreStore c.args.terms.now c.args.program.now c.args.globals.now g → IsTest c.yield_kept.new.terms c.in_ok-id-in-Yield.id (λ env. kept_before c.args.program.now k (o env) (g env)))
    (sym c.in-Yield.is) c.in_ok-id-in-Yield.ensures.tells
