use Rattle.std.proofs.Common.{◌≡◌, ◌∙◌, List, ℕ, length, ap, sym, subst, arith}
use Rattle.std.proofs.lemmas.List.{take_all}
use Rattle.std.specs.Prelude.{map, take}
use Rattle.civl_tree.specs.declared.action.Choice.{Choice}
use Rattle.civl_tree.specs.rules.Names.{global_names, targets_of}
use Rattle.civl_tree.specs.rules.Scopes.{guard_scope}
use Rattle.civl_firing.specs.values.ActionWeights.{update_weights}
use Rattle.civl_actions.specs.Scopes.{AreOf}
use Rattle.civl_actions.specs.Actions.{LeavesOthers}
use Rattle.civl_actions.specs.inner.Steps.{AreUpdated}
use Rattle.civl_actions.proofs.Rules.{kept, outs_limits}
use Rattle.civl_actions.proofs.Scoping.{all_names}
use Rattle.civl_actions.proofs.Staying.{are_stay}
use Rattle.civl_actions.proofs.Making.{Made, guard_sees, change_is}
use Rattle.civl_actions.proofs.parts.updates_of.Goals as goal

pub named_terms-requires : goal.named_terms-requires
named_terms-requires c = outs_limits c.args.program.now c.args.action.now (kept c.args.program.now c.requires.rules c.requires.action.0 c.args.action.now c.requires.action.1)

pub update-requires-clause-scope : goal.update-requires-clause-scope
update-requires-clause-scope c =
    let p = c.args.program.now in
    let a = c.args.action.now in
    let k = kept p c.requires.rules c.requires.action.0 a c.requires.action.1 in
    let e = c.scope_of-scope.ensures in
    let n = c.in_ok-named.ensures.named in
    let m : Made c.scope_of-scope.result p a a.choices c.args.globals.now c.args.inputs.now c.args.choices.now c.in_ok-named.named.zeros.items c.in_ok-named.named.no =
    record { names = e.names ∙ ap (λ (cs : List Choice). all_names p a cs) c.as_slice.ensures; values = e.values ∙ n.all; old = e.old ∙ n.all; done = e.done; old_done = e.old_done } in
    let s = guard_sees c.args.terms.now c.named_terms.new.terms c.scope_of-scope.result p a c.args.globals.now c.args.inputs.now c.args.choices.now c.in_ok-named.named k c.requires.globals c.requires.inputs c.requires.choices c.in_ok-named.ensures.grows n m in
    s.fits

pub update-requires-clause-globals : goal.update-requires-clause-globals
update-requires-clause-globals c =
    subst (λ (xs : List ℕ). AreOf c.named_terms.new.terms xs (map (λ g. g.sort) c.args.program.now.globals)) (sym c.in_ok-after.ensures.items)
    (are_stay c.args.terms.now c.named_terms.new.terms c.args.globals.now (map (λ g. g.sort) c.args.program.now.globals) c.requires.globals c.in_ok-named.ensures.grows)

pub update-requires-clause-outs : goal.update-requires-clause-outs
update-requires-clause-outs c =
    subst (λ (xs : List ℕ). AreOf c.named_terms.new.terms xs (map (λ p. p.sort) c.args.action.now.outs)) (sym (c.in_ok-outs.ensures.items ∙ c.as_slice-2.ensures.value)) c.in_ok-named.ensures.named.zeros_are

pub returns-clause-change : goal.returns-clause-change
returns-clause-change c =
    let p = c.args.program.now in
    let a = c.args.action.now in
    let k = kept p c.requires.rules c.requires.action.0 a c.requires.action.1 in
    let e = c.scope_of-scope.ensures in
    let n = c.in_ok-named.ensures.named in
    let m : Made c.scope_of-scope.result p a a.choices c.args.globals.now c.args.inputs.now c.args.choices.now c.in_ok-named.named.zeros.items c.in_ok-named.named.no =
    record { names = e.names ∙ ap (λ (cs : List Choice). all_names p a cs) c.as_slice.ensures; values = e.values ∙ n.all; old = e.old ∙ n.all; done = e.done; old_done = e.old_done } in
    let s = guard_sees c.args.terms.now c.named_terms.new.terms c.scope_of-scope.result p a c.args.globals.now c.args.inputs.now c.args.choices.now c.in_ok-named.named k c.requires.globals c.requires.inputs c.requires.choices c.in_ok-named.ensures.grows n m in
    let old = c.named_terms.new.terms in
    let new = c.update.new.terms in
    let scope = c.scope_of-scope.result in
    let count = length a.updates in
    let zeros = c.in_ok-named.named.zeros.items in
    let u0 = subst (λ (xs : List ℕ). AreUpdated old new scope p a count xs c.in_ok-outs.outs.items c.update.new.globals.items c.update.new.outs.items) c.in_ok-after.ensures.items c.in_ok-update.ensures.updated in
    let u1 = subst (λ (xs : List ℕ). AreUpdated old new scope p a count c.args.globals.now xs c.update.new.globals.items c.update.new.outs.items) (c.in_ok-outs.ensures.items ∙ c.as_slice-2.ensures.value) u0 in
    let u2 = subst (λ (xs : List ℕ). AreUpdated old new scope p a count c.args.globals.now zeros xs c.update.new.outs.items) (sym c.from_vec.ensures) u1 in
    let u3 = subst (λ (xs : List ℕ). AreUpdated old new scope p a count c.args.globals.now zeros c.from_vec.result xs) (sym c.from_vec-2.ensures) u2 in
    change_is c.args.terms.now old new scope p a c.args.globals.now c.args.inputs.now c.in_ok-update.ensures.grows c.args.choices.now c.from_vec.result c.from_vec-2.result c.in_ok-named.named s c.requires.globals c.in_ok-named.ensures.grows n u3

pub returns-clause-others : goal.returns-clause-others
returns-clause-others c =
    let names = global_names c.args.program.now.globals in
    let targets = targets_of c.args.action.now in
    subst (LeavesOthers names targets c.args.globals.now) (sym c.from_vec.ensures)
    (subst (λ (xs : List ℕ). LeavesOthers names targets xs c.update.new.globals.items) c.in_ok-after.ensures.items c.in_ok-update.ensures.others)

pub returns-clause-weighs : goal.returns-clause-weighs
returns-clause-weighs c =
    let a = c.args.action.now in
    let all : take (length a.updates) a.updates ≡ a.updates = take_all (length a.updates) a.updates (omega arith) in
    omega (arith, c.in_ok-named.ensures.named.weighs, c.in_ok-update.ensures.updated.weighs, ap (update_weights (guard_scope c.args.program.now a)) all)
