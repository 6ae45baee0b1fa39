use Rattle.std.proofs.Common.{◌∙◌, ap, sym, arith, length, Some}
use Rattle.std.proofs.lemmas.List.{length-map}
use Rattle.civl_tree.specs.declared.expr.Sort.{Sort}
use Rattle.civl_tree.specs.rules.Names.{names_in_proc}
use Rattle.civl_firing.specs.Scope.{present_values}
use Rattle.civl_meaning.specs.Config.{frame_sorts}
use Rattle.civl_terms.specs.Graphs.{sort_at, value_at}
use Rattle.civl_actions.proofs.Staying.{are_stay, values_stay}
use Rattle.civl_actions.specs.Actions.{values_at}
use Rattle.civl_moves.proofs.Scoping.{Made, made_means, term_is}
use Rattle.civl_moves.proofs.Locals.{local_sorts, local_fits, local_typed, local_weight, local_is}
use Rattle.civl_moves.proofs.expressions.body_term.Goals as goal

pub term-requires : goal.term-requires
term-requires c =
    let p = c.args.program.now in
    let q = c.args.proc.now in
    let locals = c.args.locals.now in
    let t = c.constant.new.self in
    let e = c.local_scope-scope.ensures in
    let none = c.in_ok-no.ensures in
    let m : Made c.local_scope-scope.result (names_in_proc q) locals c.in_ok-no.no = record { names = e.names; values = e.values; old = e.old; done = e.done; old_done = e.old_done } in
    (local_sorts p q, local_fits p q t c.local_scope-scope.result locals c.in_ok-no.no m (are_stay c.args.terms.now t locals _ c.requires.locals none.grows) none.built.sorted, local_typed p q c.args.expr.now (sym c.has_old.ensures ∙ c.if-has_old.false) c.requires.typed)

pub returns-clause-term : goal.returns-clause-term
returns-clause-term c =
    let p = c.args.program.now in
    let q = c.args.proc.now in
    let o = c.args.terms.now in
    let locals = c.args.locals.now in
    let t = c.constant.new.self in
    let e = c.local_scope-scope.ensures in
    let none = c.in_ok-no.ensures in
    let m : Made c.local_scope-scope.result (names_in_proc q) locals c.in_ok-no.no = record { names = e.names; values = e.values; old = e.old; done = e.done; old_done = e.old_done } in
    let fits = local_fits p q t c.local_scope-scope.result locals c.in_ok-no.no m (are_stay o t locals _ c.requires.locals none.grows) none.built.sorted in
    let old = sym c.has_old.ensures ∙ c.if-has_old.false in
    let sorts = sym (length-map locals (sort_at o)) ∙ ap length c.requires.locals ∙ length-map (frame_sorts q) (λ (s : Sort). Some s) in
    local_is p q c.args.expr.now old c.requires.typed c.term.new.terms (λ env. values_at env o locals) c.in_ok-id-2.id (λ env. length-map locals (value_at env o) ∙ sorts)
    (term_is t c.term.new.terms c.local_scope-scope.result (local_sorts p q) c.args.expr.now c.in_ok-id-2.id (λ env. present_values (names_in_proc q) (values_at env o locals)) c.len-count.ensures.graph c.in_ok-id-2.ensures.grows fits
    (λ env f. made_means t env c.local_scope-scope.result _ _ c.in_ok-no.no _ m (values_stay env o t locals _ c.requires.locals none.grows) (none.built.is env f))
    (local_typed p q c.args.expr.now old c.requires.typed) c.in_ok-id-2.ensures.built)

pub returns-clause-weighs : goal.returns-clause-weighs
returns-clause-weighs c =
    let p = c.args.program.now in
    let q = c.args.proc.now in
    let o = c.args.terms.now in
    let locals = c.args.locals.now in
    let t = c.constant.new.self in
    let e = c.local_scope-scope.ensures in
    let none = c.in_ok-no.ensures in
    let m : Made c.local_scope-scope.result (names_in_proc q) locals c.in_ok-no.no = record { names = e.names; values = e.values; old = e.old; done = e.done; old_done = e.old_done } in
    let fits = local_fits p q t c.local_scope-scope.result locals c.in_ok-no.no m (are_stay o t locals _ c.requires.locals none.grows) none.built.sorted in
    let old = sym c.has_old.ensures ∙ c.if-has_old.false in
    omega (arith, none.built.weighs, c.in_ok-id-2.ensures.built.weighs (local_sorts p q) fits (local_typed p q c.args.expr.now old c.requires.typed), local_weight p q c.args.expr.now old c.requires.typed)
