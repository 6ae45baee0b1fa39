use Rattle.std.proofs.Common.{◌∙◌, List, ap, arith}
use Rattle.civl_tree.specs.declared.action.Choice.{Choice}
use Rattle.civl_tree.specs.rules.Scopes.{guard_scope}
use Rattle.civl_actions.proofs.Rules.{kept, outs_limits, guard_typed}
use Rattle.civl_actions.proofs.Scoping.{all_names}
use Rattle.civl_actions.proofs.Making.{Made, guard_sees, guard_is}
use Rattle.civl_actions.proofs.parts.guard_of.Goals as goal

pub named_terms-requires : goal.named_terms-requires
named_terms-requires c = outs_limits c.args.program.now c.args.action.now (kept c.args.program.now c.requires.rules c.requires.action.0 c.args.action.now c.requires.action.1)

pub term-requires : goal.term-requires
term-requires c =
    let p = c.args.program.now in
    let a = c.args.action.now in
    let k = kept p c.requires.rules c.requires.action.0 a c.requires.action.1 in
    let e = c.scope_of-scope.ensures in
    let n = c.in_ok-named.ensures.named in
    let m : Made c.scope_of-scope.result p a a.choices c.args.globals.now c.args.inputs.now c.args.choices.now c.in_ok-named.named.zeros.items c.in_ok-named.named.no =
    record { names = e.names ∙ ap (λ (cs : List Choice). all_names p a cs) c.as_slice.ensures; values = e.values ∙ n.all; old = e.old ∙ n.all; done = e.done; old_done = e.old_done } in
    let s = guard_sees c.args.terms.now c.named_terms.new.terms c.scope_of-scope.result p a c.args.globals.now c.args.inputs.now c.args.choices.now c.in_ok-named.named k c.requires.globals c.requires.inputs c.requires.choices c.in_ok-named.ensures.grows n m in
    (guard_scope p a, s.fits, guard_typed p a k)

pub returns-clause-guard : goal.returns-clause-guard
returns-clause-guard c =
    let p = c.args.program.now in
    let a = c.args.action.now in
    let k = kept p c.requires.rules c.requires.action.0 a c.requires.action.1 in
    let e = c.scope_of-scope.ensures in
    let n = c.in_ok-named.ensures.named in
    let m : Made c.scope_of-scope.result p a a.choices c.args.globals.now c.args.inputs.now c.args.choices.now c.in_ok-named.named.zeros.items c.in_ok-named.named.no =
    record { names = e.names ∙ ap (λ (cs : List Choice). all_names p a cs) c.as_slice.ensures; values = e.values ∙ n.all; old = e.old ∙ n.all; done = e.done; old_done = e.old_done } in
    let s = guard_sees c.args.terms.now c.named_terms.new.terms c.scope_of-scope.result p a c.args.globals.now c.args.inputs.now c.args.choices.now c.in_ok-named.named k c.requires.globals c.requires.inputs c.requires.choices c.in_ok-named.ensures.grows n m in
    guard_is c.args.terms.now c.named_terms.new.terms c.term.new.terms c.scope_of-scope.result p a k c.len-count.ensures.graph c.in_ok-id.ensures.grows c.args.globals.now c.args.inputs.now c.args.choices.now c.in_ok-id.id s c.in_ok-id.ensures.built

pub returns-clause-weighs : goal.returns-clause-weighs
returns-clause-weighs c =
    let p = c.args.program.now in
    let a = c.args.action.now in
    let k = kept p c.requires.rules c.requires.action.0 a c.requires.action.1 in
    let e = c.scope_of-scope.ensures in
    let n = c.in_ok-named.ensures.named in
    let m : Made c.scope_of-scope.result p a a.choices c.args.globals.now c.args.inputs.now c.args.choices.now c.in_ok-named.named.zeros.items c.in_ok-named.named.no =
    record { names = e.names ∙ ap (λ (cs : List Choice). all_names p a cs) c.as_slice.ensures; values = e.values ∙ n.all; old = e.old ∙ n.all; done = e.done; old_done = e.old_done } in
    let s = guard_sees c.args.terms.now c.named_terms.new.terms c.scope_of-scope.result p a c.args.globals.now c.args.inputs.now c.args.choices.now c.in_ok-named.named k c.requires.globals c.requires.inputs c.requires.choices c.in_ok-named.ensures.grows n m in
    omega (arith, n.weighs, c.in_ok-id.ensures.built.weighs (guard_scope p a) s.fits (guard_typed p a k))
