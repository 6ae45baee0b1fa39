use Rattle.std.specs.Prelude.{Bool, length, List, [], ◌∷◌}
use Rattle.std.proofs.lemmas.Bool.{false≢true}
use Rattle.civl_tree.specs.declared.action.Param.{Param}
use Rattle.std.proofs.Common.{◌≡◌, ◌∙◌, refl, sym, ap, arith}
use Rattle.civl_tree.specs.declared.expr.Sort.TheVariants.{Bool as Truth}
use Rattle.civl_terms.proofs.Growing.{grows_trans}
use Rattle.civl_conditions.specs.footprints.Agreement.{exists_at}
use Rattle.civl_conditions.specs.Values.{same_stores}
use Rattle.civl_states.specs.formula_parts.Said.{Env}
use Rattle.civl_states.proofs.formula_parts.Saying.{sort_stays, test_stays, test_where}
use Rattle.civl_states.proofs.formula_parts.Listing.{sorts_stay, said_stay}
use Rattle.civl_states.proofs.Limits.{proc_out_sorts_are}
use Rattle.civl_refine.proofs.Judging.{none_same, and_or_true, outs_weigh, outs_some, globals_weigh}
use Rattle.civl_refine.proofs.results.results_kept.Goals as goal

pub returns-then-is_empty-clause-test : goal.returns-then-is_empty-clause-test
returns-then-is_empty-clause-test c = λ b p begun at.
    let s = c.args.start.now in
    let q = s.proc.now in
    let f : Env → Bool = λ env. same_stores (exists_at s.step) s.program.now (p env).store (b env).old in
    let none : length q.outs ≡ 0 = ap length (c.is_empty.ensures.0 c.if-is_empty.true) in
    test_where _ _ f _ (λ env fits.
    and_or_true (f env) (b env).old_done _
    (none_same c.args.terms.now q c.args.beginning.now.old_outs (p env).locals (λ e. (b e).old_outs) none begun.old_outs env (c.in_ok-stores.ensures.grows.fits env fits)))
    (c.in_ok-stores.ensures.tells (λ env. (p env).store) (λ env. (b env).old) at.globals begun.old_globals)

pub returns-then-is_empty-clause-weighs : goal.returns-then-is_empty-clause-weighs
returns-then-is_empty-clause-weighs c =
    let s = c.args.start.now in
    omega (arith, c.in_ok-stores.ensures.weighs, globals_weigh s.program.now c.requires.start.rules s.step)

pub with_outs-requires-clause-asked : goal.with_outs-requires-clause-asked
with_outs-requires-clause-asked c = sort_stays _ _ _ Truth c.in_ok-stores.ensures.grows c.requires.begins.old_done

pub with_outs-requires-clause-locals : goal.with_outs-requires-clause-locals
with_outs-requires-clause-locals c = sorts_stay _ _ _ _ c.in_ok-stores.ensures.grows c.requires.ends.locals

pub with_outs-requires-clause-outs : goal.with_outs-requires-clause-outs
with_outs-requires-clause-outs c = sorts_stay _ _ _ _ c.in_ok-stores.ensures.grows c.requires.begins.old_outs

pub returns-in_err-id-clause-grows : goal.returns-in_err-id-clause-grows
returns-in_err-id-clause-grows c = grows_trans _ _ _ c.in_ok-stores.ensures.grows c.in_err-id.ensures.grows

pub returns-clause-test : goal.returns-clause-test
returns-clause-test c = λ b p begun at.
    let s = c.args.start.now in
    let one = c.in_ok-stores.ensures.grows in
    let f : Env → Bool = λ env. same_stores (exists_at s.step) s.program.now (p env).store (b env).old in
    c.in_ok-id.ensures.test f (λ env. (b env).old_done) (λ env. (p env).locals) (λ env. (b env).old_outs) (c.in_ok-stores.ensures.tells (λ env. (p env).store) (λ env. (b env).old) at.globals begun.old_globals)
    (test_stays _ _ _ _ one begun.old_done) (said_stay _ _ _ _ _ one at.locals) (said_stay _ _ _ _ _ one begun.old_outs)

pub returns-clause-grows : goal.returns-clause-grows
returns-clause-grows c = grows_trans _ _ _ c.in_ok-stores.ensures.grows c.in_ok-id.ensures.grows

pub returns-clause-weighs : goal.returns-clause-weighs
returns-clause-weighs c =
    let s = c.args.start.now in
    let q = s.proc.now in
    let there = c.requires.start.proc in
    let are = proc_out_sorts_are s.program.now c.requires.start.rules there.0 q there.1 in
    let some = outs_some q.outs are (not_empty q.outs refl) in
    omega (arith, c.in_ok-stores.ensures.weighs, c.in_ok-id.ensures.weighs, globals_weigh s.program.now c.requires.start.rules s.step, outs_weigh q.outs are, some)
  where
    empty : (xs : List Param) → length xs ≡ 0 → xs ≡ []
    empty [] l = refl
    empty (x ∷ xs) l = absurd (omega (arith, l))

    not_empty : (xs : List Param) → xs ≡ c.args.start.now.proc.now.outs → length xs ≡ 0 → ⊥
    not_empty xs e l = false≢true (sym c.if-is_empty.false ∙ c.is_empty.ensures.1 (sym e ∙ empty xs l))
