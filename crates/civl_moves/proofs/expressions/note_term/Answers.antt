use Rattle.std.proofs.Common.{◌∙◌, arith}
use Rattle.civl_tree.specs.rules.Scopes.{note_scope}
use Rattle.civl_actions.proofs.Staying.{are_stay, values_stay}
use Rattle.civl_conditions.specs.paths.NoteValues.{note_names, plain_note_values}
use Rattle.civl_actions.specs.Actions.{values_at, store_at}
use Rattle.civl_moves.proofs.Scoping.{Made, present_fits, made_means, values_joined, term_is}
use Rattle.civl_moves.proofs.expressions.note_term.Goals as goal

pub term-requires : goal.term-requires
term-requires c =
    let p = c.args.program.now in
    let q = c.args.proc.now in
    let e = c.present_scope-scope.ensures in
    let n = c.in_ok-named.ensures in
    let g = n.grows in
    let m : Made c.present_scope-scope.result _ _ c.in_ok-named.named.no = record { names = e.names; values = e.values ∙ n.values; old = e.old ∙ n.values; done = e.done; old_done = e.old_done } in (
      note_scope p q,
      present_fits p c.requires.rules q c.requires.proc c.joined_terms.new.terms c.present_scope-scope.result c.args.globals.now c.args.locals.now c.in_ok-named.named.no m
          (are_stay c.args.terms.now c.joined_terms.new.terms c.args.globals.now _ c.requires.globals g) (are_stay c.args.terms.now c.joined_terms.new.terms c.args.locals.now _ c.requires.locals g) n.no.sorted,
      c.requires.typed,
    )

pub returns-clause-term : goal.returns-clause-term
returns-clause-term c =
    let p = c.args.program.now in
    let q = c.args.proc.now in
    let o = c.args.terms.now in
    let t = c.joined_terms.new.terms in
    let e = c.present_scope-scope.ensures in
    let n = c.in_ok-named.ensures in
    let g = n.grows in
    let m : Made c.present_scope-scope.result (note_names p.globals q) _ c.in_ok-named.named.no = record { names = e.names; values = e.values ∙ n.values; old = e.old ∙ n.values; done = e.done; old_done = e.old_done } in
    let fits = present_fits p c.requires.rules q c.requires.proc t c.present_scope-scope.result c.args.globals.now c.args.locals.now c.in_ok-named.named.no m
    (are_stay o t c.args.globals.now _ c.requires.globals g) (are_stay o t c.args.locals.now _ c.requires.locals g) n.no.sorted in
    term_is t c.term.new.terms c.present_scope-scope.result (note_scope p q) c.args.expr.now c.in_ok-id.id (λ env. plain_note_values p.globals q (store_at env o c.args.globals.now) (values_at env o c.args.locals.now))
    c.len-count.ensures.graph c.in_ok-id.ensures.grows fits
    (λ env f. made_means t env c.present_scope-scope.result _ _ c.in_ok-named.named.no _ m
    (values_joined env t c.args.globals.now c.args.locals.now _ _ (values_stay env o t c.args.globals.now _ c.requires.globals g) (values_stay env o t c.args.locals.now _ c.requires.locals g)) (n.no.is env f))
    c.requires.typed c.in_ok-id.ensures.built

pub returns-clause-weighs : goal.returns-clause-weighs
returns-clause-weighs c =
    let p = c.args.program.now in
    let q = c.args.proc.now in
    let e = c.present_scope-scope.ensures in
    let n = c.in_ok-named.ensures in
    let g = n.grows in
    let m : Made c.present_scope-scope.result _ _ c.in_ok-named.named.no = record { names = e.names; values = e.values ∙ n.values; old = e.old ∙ n.values; done = e.done; old_done = e.old_done } in
    let fits = present_fits p c.requires.rules q c.requires.proc c.joined_terms.new.terms c.present_scope-scope.result c.args.globals.now c.args.locals.now c.in_ok-named.named.no m
    (are_stay c.args.terms.now c.joined_terms.new.terms c.args.globals.now _ c.requires.globals g) (are_stay c.args.terms.now c.joined_terms.new.terms c.args.locals.now _ c.requires.locals g) n.no.sorted in
    omega (arith, n.weighs, c.in_ok-id.ensures.built.weighs (note_scope p q) fits c.requires.typed)
