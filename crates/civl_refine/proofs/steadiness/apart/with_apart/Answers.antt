use Rattle.std.specs.Prelude.{Bool, ◌++◌}
use Rattle.std.proofs.Common.{sym, subst}
use Rattle.civl_tree.specs.declared.expr.Sort.TheVariants.{Bool as Truth}
use Rattle.civl_meaning.specs.Permissions.{pairwise_disjoint}
use Rattle.civl_terms.proofs.Growing.{grows_trans}
use Rattle.civl_conditions.specs.Assumed.{owned}
use Rattle.civl_conditions.specs.Permissions.{of_held}
use Rattle.civl_conditions.specs.Targets.{Other}
use Rattle.civl_conditions.specs.Values.{Begun}
use Rattle.civl_states.specs.formula_parts.Said.{Env, IsTest}
use Rattle.civl_states.proofs.formula_parts.Saying.{sort_stays, test_stays}
use Rattle.civl_states.specs.Beginnings.{AreBegun}
use Rattle.civl_refine.specs.declared.steadiness.kept.Kept.{Kept}
use Rattle.civl_refine.specs.inner.steadiness.Kept.{SaysOther}
use Rattle.civl_refine.specs.inner.steadiness.Losing.{apart_too}
use Rattle.civl_refine.proofs.steadiness.apart.with_apart.Goals as goal

pub both-requires-clause-b : goal.both-requires-clause-b
both-requires-clause-b c = sort_stays _ _ _ Truth c.in_ok-apart-in-Yield.ensures.grows c.requires.test

pub returns-in_err-id-in-Yield-clause-grows : goal.returns-in_err-id-in-Yield-clause-grows
returns-in_err-id-in-Yield-clause-grows c = grows_trans _ _ _ c.in_ok-apart-in-Yield.ensures.grows c.in_err-id-in-Yield.ensures.grows

pub returns-in_ok-id-in-Yield-clause-grows : goal.returns-in_ok-id-in-Yield-clause-grows
returns-in_ok-id-in-Yield-clause-grows c = grows_trans _ _ _ c.in_ok-apart-in-Yield.ensures.grows c.in_ok-id-in-Yield.ensures.grows

pub returns-in_ok-id-in-Yield-clause-test : goal.returns-in_ok-id-in-Yield-clause-test
returns-in_ok-id-in-Yield-clause-test c =
    let s = c.args.start.now in
    let y = c.in-Yield.place in
    subst (λ (k : Kept). (f : Env → Bool) (b : Env → Begun) (o : Env → Other) → IsTest c.args.terms.now c.args.test f → AreBegun c.args.terms.now s.program.now s.step s.proc.now s.cut c.args.beginning.now b → SaysOther c.args.terms.now k o → IsTest c.both.new.terms c.in_ok-id-in-Yield.id (λ env. apart_too s k (b env) (o env) (f env)))
    (sym c.in-Yield.is)
    (λ f b o t begun says.
    c.in_ok-id-in-Yield.ensures.test (λ env. pairwise_disjoint (owned s.program.now s.proc.now s.number (b env) ++ of_held y.held.now (o env).locals)) f
    (c.in_ok-apart-in-Yield.ensures.test b o begun says) (test_stays _ _ _ f c.in_ok-apart-in-Yield.ensures.grows t))
