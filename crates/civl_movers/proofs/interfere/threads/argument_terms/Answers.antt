use Rattle.std.specs.Prelude.{take}
use Rattle.std.proofs.Common.{◌≡◌, ◌∙◌, ◌++◌, ◌∷◌, [], ◌+◌, ℕ, List, sym, ap, subst, arith}
use Rattle.std.proofs.lemmas.List.{take_more, take_all}
use Rattle.civl_tree.specs.declared.expr.Expr.{Expr}
use Rattle.civl_firing.specs.Eval.{values_of}
use Rattle.civl_firing.specs.Scope.{global_values}
use Rattle.civl_terms.proofs.Growing.{grows_trans}
use Rattle.civl_actions.specs.Scopes.{IsTyped}
use Rattle.civl_tree.specs.rules.Scopes.{global_scope}
use Rattle.civl_states.specs.formula_parts.Lists.{AreSaid}
use Rattle.civl_states.proofs.formula_parts.Listing.{sorts_stay}
use Rattle.civl_movers.specs.interfere.Arguments.{arg_sorts}
use Rattle.civl_movers.proofs.interfere.Gathering.{ArgsSo, args_more}
use Rattle.civl_movers.proofs.interfere.threads.argument_terms.Goals as goal

pub global_note-requires-clause-globals : goal.global_note-requires-clause-globals
global_note-requires-clause-globals c = sorts_stay _ _ _ _ c.loop-arg.invariant.0 c.requires.globals

pub returns-in_err-id-clause-grows : goal.returns-in_err-id-clause-grows
returns-in_err-id-clause-grows c = grows_trans _ _ _ c.loop-arg.invariant.0 c.in_err-id.ensures.grows

pub returns-in_err-push-clause-grows : goal.returns-in_err-push-clause-grows
returns-in_err-push-clause-grows c = grows_trans _ _ _ c.loop-arg.invariant.0 c.in_ok-id.ensures.grows

pub loop-arg-preserved : goal.loop-arg-preserved
loop-arg-preserved c =
    let p = c.args.program.now in
    let o = c.args.terms.now in
    let gs = c.args.globals.now in
    let es = c.args.args.now in
    let k = c.loop-arg.arg-index in
    let e = c.arg-item.result in
    let n = c.global_note.new.terms in
    let more : take (k + 1) es ≡ take k es ++ e ∷ [] = take_more es k e (omega arith) ∙ ap (λ (d : Expr). take k es ++ d ∷ []) (sym c.arg-item.is) in
    let typed : IsTyped (global_scope p) e = subst (IsTyped (global_scope p)) (sym c.arg-item.is) (c.requires.typed k e (omega arith)) in
    subst (λ (ds : List Expr). ArgsSo o p gs ds n c.push.new.self.items) (sym more)
    (subst (λ (ids : List ℕ). ArgsSo o p gs (take k es ++ e ∷ []) n ids) (sym c.in_ok-push.ensures.items)
    (args_more o c.loop-arg.terms n p gs c.loop-arg.ids.items (take k es) e c.in_ok-id.id c.loop-arg.invariant c.in_ok-id.ensures.grows typed c.in_ok-id.ensures.note c.in_ok-id.ensures.sorted c.in_ok-id.ensures.weighs))

pub returns-clause-said : goal.returns-clause-said
returns-clause-said c = λ g s.
    let p = c.args.program.now in
    subst (λ (es : List Expr). AreSaid c.loop-arg.terms c.loop-arg.ids.items (arg_sorts p es) (λ env. values_of (global_values p.globals (g env)) es)) (take_all c.loop-arg.arg-index c.args.args.now (omega arith)) (c.loop-arg.invariant.2 g s)
