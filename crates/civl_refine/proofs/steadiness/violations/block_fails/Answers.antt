use Rattle.std.specs.Prelude.{ℕ, length, slice_get, IfSome, List}
use Rattle.std.proofs.Common.{◌≡◌, ◌∙◌, Option, Some, sym, ap, subst, arith}
use Rattle.civl_tree.specs.declared.expr.Sort.{Sort}
use Rattle.civl_tree.specs.declared.program.Proc.{Proc}
use Rattle.civl_tree.specs.declared.program.Program.{Program}
use Rattle.civl_layers.specs.Cuts.{proc_cuts}
use Rattle.civl_bodies.specs.Bodies.{IsBody}
use Rattle.civl_terms.proofs.Growing.{lengthens_trans}
use Rattle.civl_conditions.specs.declared.condition.Condition.TheVariants.{Block}
use Rattle.civl_conditions.specs.Targets.{Other, block_fails}
use Rattle.civl_conditions.specs.Values.{Begun, begun, layout}
use Rattle.civl_conditions.specs.Violated.{violated}
use Rattle.civl_states.specs.formula_parts.Said.{Env}
use Rattle.civl_states.specs.formula_parts.Given.{given, AreVariablesOf}
use Rattle.civl_states.proofs.formula_parts.Saying.{test_as}
use Rattle.civl_states.specs.Formulas.{sorts_of}
use Rattle.civl_states.proofs.Formulas.{formula_of}
use Rattle.civl_states.proofs.Given.{stand_first}
use Rattle.civl_states.proofs.Limits.{AreSorts, sorts_append}
use Rattle.civl_refine.specs.Walked.{StartsAt, sorts_from}
use Rattle.civl_refine.proofs.Placing.{paths_long, paths_are}
use Rattle.civl_refine.specs.inner.steadiness.Kept.{IsTarget, other_at}
use Rattle.civl_refine.specs.inner.steadiness.Losing.{block_loses}
use Rattle.civl_refine.specs.inner.steadiness.Making.{others_from}
use Rattle.civl_refine.proofs.steadiness.Ending.{block_is}
use Rattle.civl_refine.proofs.steadiness.Framing.{others_front, others_limited}
use Rattle.civl_refine.proofs.steadiness.Arranged.{other_sorts_of, rules_of, block_view, block_violated, block_sum}
use Rattle.civl_refine.proofs.steadiness.violations.block_fails.Goals as goal

pub kept_of-requires-clause-end : goal.kept_of-requires-clause-end
kept_of-requires-clause-end c =
    let s = c.start_at-start.result in
    let p = c.args.src.now in
    let at = subst (λ (o : Program). StartsAt o c.args.step c.args.number c.args.place s) c.program-program.ensures.same c.start_at-start.ensures.at in
    record { front = sorts_from s; is = c.requires.sorts ∙ block_view p c.args.step c.args.number c.args.place s at c.args.target }

pub kept_of-requires-clause-limits : goal.kept_of-requires-clause-limits
kept_of-requires-clause-limits c =
    let s = c.start_at-start.result in
    let p = c.args.src.now in
    let at = subst (λ (o : Program). StartsAt o c.args.step c.args.number c.args.place s) c.program-program.ensures.same c.start_at-start.ensures.at in
    let h = c.start_at-start.ensures.is in
    subst AreSorts (sym (c.requires.sorts ∙ block_view p c.args.step c.args.number c.args.place s at c.args.target))
    (sorts_append (sorts_from s) (other_sorts_of p c.args.target) (paths_are s.program.now h.rules s.step s.proc.now h.proc s.cut) (others_limited p (rules_of c.program-program.result.now p c.program-program.ensures.keeps c.program-program.ensures.same) c.args.target c.requires.there))

pub block_from-requires-clause-there : goal.block_from-requires-clause-there
block_from-requires-clause-there c =
    let s = c.start_at-start.result in
    let at = c.start_at-start.ensures.at in
    subst (λ (n : ℕ). slice_get (proc_cuts s.proc.now) n ≡ Some s.cut) (sym at.place) at.cut

pub block_from-requires-clause-body : goal.block_from-requires-clause-body
block_from-requires-clause-body c =
    let s = c.start_at-start.result in
    let at = subst (λ (o : Program). StartsAt o c.args.step c.args.number c.args.place s) c.program-program.ensures.same c.start_at-start.ensures.at in
    subst (λ (o : Option Proc). IfSome o (λ q. IsBody q c.body_at-body.result.now)) at.proc c.body_at-body.ensures

pub block_from-requires-clause-stand : goal.block_from-requires-clause-stand
block_from-requires-clause-stand c =
    let s = c.start_at-start.result in
    let p = c.args.src.now in
    let at = subst (λ (o : Program). StartsAt o c.args.step c.args.number c.args.place s) c.program-program.ensures.same c.start_at-start.ensures.at in
    stand_first c.args.sorts.now (sorts_from s) (other_sorts_of p c.args.target) (c.requires.sorts ∙ block_view p c.args.step c.args.number c.args.place s at c.args.target)

pub block_from-requires-clause-limits : goal.block_from-requires-clause-limits
block_from-requires-clause-limits c =
    let s = c.start_at-start.result in
    let p = c.args.src.now in
    let at = subst (λ (o : Program). StartsAt o c.args.step c.args.number c.args.place s) c.program-program.ensures.same c.start_at-start.ensures.at in
    let h = c.start_at-start.ensures.is in
    subst AreSorts (sym (c.requires.sorts ∙ block_view p c.args.step c.args.number c.args.place s at c.args.target))
    (sorts_append (sorts_from s) (other_sorts_of p c.args.target) (paths_are s.program.now h.rules s.step s.proc.now h.proc s.cut) (others_limited p (rules_of c.program-program.result.now p c.program-program.ensures.keeps c.program-program.ensures.same) c.args.target c.requires.there))

pub returns-in_err-id-clause-lengthens : goal.returns-in_err-id-clause-lengthens
returns-in_err-id-clause-lengthens c = lengthens_trans _ _ _ c.in_ok-kept.ensures.lengthens c.in_err-id.ensures.lengthens

pub returns-clause-lengthens : goal.returns-clause-lengthens
returns-clause-lengthens c = lengthens_trans _ _ _ c.in_ok-kept.ensures.lengthens c.in_ok-id.ensures.lengthens

pub returns-clause-says : goal.returns-clause-says
returns-clause-says c =
    let s = c.start_at-start.result in
    let p = c.args.src.now in
    let k = c.args.step in
    let t = c.args.target in
    let kept = c.in_ok-kept.kept in
    let n2 = c.block_from.new.terms in
    let at = subst (λ (o : Program). StartsAt o k c.args.number c.args.place s) c.program-program.ensures.same c.start_at-start.ensures.at in
    let is = subst (λ (o : Program). IsTarget o t kept) (sym at.of) c.in_ok-kept.ensures.is in
    let condition = Block k c.args.number c.args.place t in
    let sorts = sorts_of p condition in
    let n = length sorts in
    let view = block_view p k c.args.number c.args.place s at t in
    let same : c.args.sorts.now ≡ sorts = c.requires.sorts in
    let from : others_from c.args.sorts.now p t ≡ (layout s.program.now s.step s.proc.now s.cut).behind = others_front c.args.sorts.now p t (sorts_from s) (same ∙ view) ∙ paths_long s.program.now s.step s.proc.now s.cut in
    let o : Env → Other = λ env. other_at kept (given env 0 n) (others_from c.args.sorts.now p t) in
    let long = ap (λ (ss : List Sort). length ss) same in
    let b : ℕ → Env → Begun = λ m env. begun s.program.now s.step s.proc.now s.cut (given env 0 m) in
    formula_of n2 c.in_ok-id.id sorts (violated p condition) (subst (AreVariablesOf n2) same c.in_ok-id.ensures.variables)
    (test_as n2 c.in_ok-id.id _ _
    (λ env.
    ap (λ (m : ℕ). block_loses s kept (b m env) (o env)) long
    ∙ block_is s t kept is (given env 0 n) (others_from c.args.sorts.now p t) (b n env)
    ∙ ap (λ (m : ℕ). block_fails s.program.now s.step s.proc.now s.number s.cut (b n env) t (given env 0 n) m) from
    ∙ block_violated p k c.args.number c.args.place s at t (given env 0 n))
    (c.in_ok-id.ensures.test o (c.in_ok-kept.ensures.says n (omega (arith, long)))))

pub returns-clause-weighs : goal.returns-clause-weighs
returns-clause-weighs c =
    let s = c.start_at-start.result in
    let p = c.args.src.now in
    let at = subst (λ (o : Program). StartsAt o c.args.step c.args.number c.args.place s) c.program-program.ensures.same c.start_at-start.ensures.at in
    let is = subst (λ (o : Program). IsTarget o c.args.target c.in_ok-kept.kept) (sym at.of) c.in_ok-kept.ensures.is in
    block_sum p c.args.step c.args.number c.args.place s at c.start_at-start.ensures.is c.args.target c.in_ok-kept.kept is _ _ _ c.in_ok-kept.ensures.weighs c.in_ok-id.ensures.weighs
