use Rattle.std.proofs.Common.{◌∙◌, ◌++◌, ap, subst, sym, arith, List, ℕ}
use Rattle.std.specs.Prelude.{All, IsTrue}
use Rattle.civl_tree.specs.declared.program.Global.{Global}
use Rattle.civl_firing.specs.values.Values.{is_sort}
use Rattle.civl_moves.specs.Expressions.{AreZeros}
use Rattle.civl_tree.specs.rules.Names.{global_names, names_in_proc}
use Rattle.civl_tree.specs.rules.Scopes.{body_scope}
use Rattle.civl_firing.specs.Scope.{frame_values}
use Rattle.civl_terms.proofs.Growing.{grows_trans}
use Rattle.civl_actions.proofs.Staying.{are_stay, values_stay}
use Rattle.civl_actions.specs.Actions.{values_at}
use Rattle.civl_moves.proofs.Scoping.{Made, globals_sorted, frame_fits, made_means, values_joined, term_is}
use Rattle.civl_moves.proofs.expressions.old_term.Goals as goal

pub zeros-requires : goal.zeros-requires
zeros-requires c = subst (λ (gs : List Global). All (λ g. IsTrue (is_sort g.sort)) gs) (sym c.as_slice.ensures) (globals_sorted c.args.program.now c.requires.rules)

pub term-requires : goal.term-requires
term-requires c =
    let p = c.args.program.now in
    let q = c.args.proc.now in
    let o = c.args.terms.now in
    let e = c.frame_scope-scope.ensures in
    let n = c.in_ok-named.ensures in
    let z = subst (λ (gs : List Global). AreZeros c.args.terms.now c.zeros.new.terms gs c.in_ok-zeros.zeros.items) c.as_slice.ensures c.in_ok-zeros.ensures.zeros in
    let g = grows_trans _ _ _ c.in_ok-zeros.ensures.grows n.grows in
    let v = n.values ∙ ap (λ (xs : List ℕ). c.args.locals.now ++ xs) c.as_slice-2.ensures.value in
    let m : Made c.frame_scope-scope.result _ _ c.in_ok-named.named.no = record { names = e.names; values = e.values ∙ v; old = e.old ∙ v; done = e.done; old_done = e.old_done } in (
      body_scope p q,
      frame_fits p c.requires.rules q c.requires.proc c.joined_terms.new.terms c.frame_scope-scope.result c.args.locals.now c.in_ok-zeros.zeros.items c.in_ok-named.named.no m
          (are_stay o c.joined_terms.new.terms c.args.locals.now _ c.requires.locals g) (are_stay _ c.joined_terms.new.terms c.in_ok-zeros.zeros.items _ z.sorts n.grows) n.no.sorted,
      c.requires.typed,
    )

pub returns-clause-term : goal.returns-clause-term
returns-clause-term c =
    let p = c.args.program.now in
    let q = c.args.proc.now in
    let o = c.args.terms.now in
    let t = c.joined_terms.new.terms in
    let e = c.frame_scope-scope.ensures in
    let n = c.in_ok-named.ensures in
    let z = subst (λ (gs : List Global). AreZeros c.args.terms.now c.zeros.new.terms gs c.in_ok-zeros.zeros.items) c.as_slice.ensures c.in_ok-zeros.ensures.zeros in
    let g = grows_trans _ _ _ c.in_ok-zeros.ensures.grows n.grows in
    let v = n.values ∙ ap (λ (xs : List ℕ). c.args.locals.now ++ xs) c.as_slice-2.ensures.value in
    let m : Made c.frame_scope-scope.result (names_in_proc q ++ global_names p.globals) _ c.in_ok-named.named.no = record { names = e.names; values = e.values ∙ v; old = e.old ∙ v; done = e.done; old_done = e.old_done } in
    let fits = frame_fits p c.requires.rules q c.requires.proc t c.frame_scope-scope.result c.args.locals.now c.in_ok-zeros.zeros.items c.in_ok-named.named.no m
    (are_stay o t c.args.locals.now _ c.requires.locals g) (are_stay _ t c.in_ok-zeros.zeros.items _ z.sorts n.grows) n.no.sorted in
    term_is t c.term.new.terms c.frame_scope-scope.result (body_scope p q) c.args.expr.now c.in_ok-id.id (λ env. frame_values p.globals q (values_at env o c.args.locals.now))
    c.len-count.ensures.graph c.in_ok-id.ensures.grows fits
    (λ env f. made_means t env c.frame_scope-scope.result _ _ c.in_ok-named.named.no _ m
    (values_joined env t c.args.locals.now c.in_ok-zeros.zeros.items _ _ (values_stay env o t c.args.locals.now _ c.requires.locals g) (values_stay env _ t c.in_ok-zeros.zeros.items _ z.sorts n.grows ∙ z.values env (n.grows.fits env f))) (n.no.is env f))
    c.requires.typed c.in_ok-id.ensures.built

pub returns-clause-weighs : goal.returns-clause-weighs
returns-clause-weighs c =
    let p = c.args.program.now in
    let q = c.args.proc.now in
    let o = c.args.terms.now in
    let e = c.frame_scope-scope.ensures in
    let n = c.in_ok-named.ensures in
    let z = subst (λ (gs : List Global). AreZeros c.args.terms.now c.zeros.new.terms gs c.in_ok-zeros.zeros.items) c.as_slice.ensures c.in_ok-zeros.ensures.zeros in
    let g = grows_trans _ _ _ c.in_ok-zeros.ensures.grows n.grows in
    let v = n.values ∙ ap (λ (xs : List ℕ). c.args.locals.now ++ xs) c.as_slice-2.ensures.value in
    let m : Made c.frame_scope-scope.result _ _ c.in_ok-named.named.no = record { names = e.names; values = e.values ∙ v; old = e.old ∙ v; done = e.done; old_done = e.old_done } in
    let fits = frame_fits p c.requires.rules q c.requires.proc c.joined_terms.new.terms c.frame_scope-scope.result c.args.locals.now c.in_ok-zeros.zeros.items c.in_ok-named.named.no m
    (are_stay o c.joined_terms.new.terms c.args.locals.now _ c.requires.locals g) (are_stay _ c.joined_terms.new.terms c.in_ok-zeros.zeros.items _ z.sorts n.grows) n.no.sorted in
    omega (arith, z.weighs, n.weighs, c.in_ok-id.ensures.built.weighs (body_scope p q) fits c.requires.typed)
