use Rattle.std.proofs.Common.{◌∙◌, [], List, ℕ, sym, subst, arith}
use Rattle.civl_actions.specs.Actions.{AreOffers}
use Rattle.civl_actions.proofs.Rules.{kept, outs_limits}
use Rattle.civl_actions.proofs.Making.{Made, gate_sees, offers_are}
use Rattle.civl_actions.proofs.parts.offers_of.Goals as goal

pub named_terms-requires : goal.named_terms-requires
named_terms-requires c = outs_limits c.args.program.now c.args.action.now (kept c.args.program.now c.requires.rules c.requires.action.0 c.args.action.now c.requires.action.1)

pub offered-requires-clause-scope : goal.offered-requires-clause-scope
offered-requires-clause-scope c =
    let p = c.args.program.now in
    let a = c.args.action.now in
    let k = kept p c.requires.rules c.requires.action.0 a c.requires.action.1 in
    let e = c.scope_of-scope.ensures in
    let n = c.in_ok-named.ensures.named in
    let m : Made c.scope_of-scope.result p a [] c.args.globals.now c.args.inputs.now [] c.in_ok-named.named.zeros.items c.in_ok-named.named.no =
    record { names = e.names; values = e.values ∙ n.all; old = e.old ∙ n.all; done = e.done; old_done = e.old_done } in
    let s = gate_sees c.args.terms.now c.named_terms.new.terms c.scope_of-scope.result p a c.args.globals.now c.args.inputs.now c.in_ok-named.named k c.requires.globals c.requires.inputs c.in_ok-named.ensures.grows n m in
    s.fits

pub returns-clause-offers : goal.returns-clause-offers
returns-clause-offers c =
    let p = c.args.program.now in
    let a = c.args.action.now in
    let k = kept p c.requires.rules c.requires.action.0 a c.requires.action.1 in
    let e = c.scope_of-scope.ensures in
    let n = c.in_ok-named.ensures.named in
    let m : Made c.scope_of-scope.result p a [] c.args.globals.now c.args.inputs.now [] c.in_ok-named.named.zeros.items c.in_ok-named.named.no =
    record { names = e.names; values = e.values ∙ n.all; old = e.old ∙ n.all; done = e.done; old_done = e.old_done } in
    let s = gate_sees c.args.terms.now c.named_terms.new.terms c.scope_of-scope.result p a c.args.globals.now c.args.inputs.now c.in_ok-named.named k c.requires.globals c.requires.inputs c.in_ok-named.ensures.grows n m in
    subst (λ (is : List ℕ). AreOffers c.args.terms.now c.offered.new.terms p a c.args.globals.now c.args.inputs.now is) (sym c.from_vec.ensures)
    (offers_are c.args.terms.now c.named_terms.new.terms c.offered.new.terms c.scope_of-scope.result p a c.args.globals.now c.args.inputs.now c.in_ok-ids.ensures.grows c.in_ok-ids.ids.items s c.in_ok-ids.ensures.offered)

pub returns-clause-weighs : goal.returns-clause-weighs
returns-clause-weighs c = omega (arith, c.in_ok-named.ensures.named.weighs, c.in_ok-ids.ensures.offered.weighs)
