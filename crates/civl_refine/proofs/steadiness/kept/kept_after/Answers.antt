use Rattle.std.specs.Prelude.{List, ℕ}
use Rattle.std.proofs.Common.{sym, subst}
use Rattle.civl_firing.specs.declared.store.Store.{Store}
use Rattle.civl_conditions.specs.Targets.{Other}
use Rattle.civl_states.specs.formula_parts.Said.{Env, IsTest}
use Rattle.civl_states.specs.Stores.{AreStore}
use Rattle.civl_refine.specs.declared.steadiness.kept.Kept.{Kept}
use Rattle.civl_refine.specs.inner.steadiness.Kept.{SaysOther, kept_after}
use Rattle.civl_refine.proofs.steadiness.kept.kept_after.Goals as goal

pub returns-in_ok-id-in-Invariant-clause-tells : goal.returns-in_ok-id-in-Invariant-clause-tells
returns-in_ok-id-in-Invariant-clause-tells c =
    subst (λ (k : Kept). (o : Env → Other) (g : Env → Store) → SaysOther c.args.terms.now k o → AreStore c.args.terms.now c.args.program.now c.args.globals.now g → IsTest c.invariant_kept.new.terms c.in_ok-id-in-Invariant.id (λ env. kept_after c.args.program.now c.args.step k (o env) (g env)))
    (sym c.in-Invariant.is)
    (λ o g s t. c.in_ok-id-in-Invariant.ensures.tells g (subst (λ (ids : List ℕ). AreStore c.args.terms.now c.args.program.now ids g) (sym c.as_slice.ensures) t))

pub returns-in_ok-id-in-Yield-clause-tells : goal.returns-in_ok-id-in-Yield-clause-tells
returns-in_ok-id-in-Yield-clause-tells c =
    subst (λ (k : Kept). (o : Env → Other) (g : Env → Store) → SaysOther c.args.terms.now k o → AreStore c.args.terms.now c.args.program.now c.args.globals.now g → IsTest c.yield_kept.new.terms c.in_ok-id-in-Yield.id (λ env. kept_after c.args.program.now c.args.step k (o env) (g env)))
    (sym c.in-Yield.is) c.in_ok-id-in-Yield.ensures.tells
