use Rattle.std.specs.Prelude.{List, ℕ, take, length}
use Rattle.std.proofs.Common.{◌≡◌, sym, subst, arith}
use Rattle.std.proofs.lemmas.Option.{slice_get_within}
use Rattle.civl_bits.specs.declared.value.Value.{Value}
use Rattle.civl_tree.specs.declared.action.Action.{Action}
use Rattle.civl_tree.specs.declared.expr.Sort.{Sort}
use Rattle.civl_tree.specs.declared.expr.Sort.TheVariants.{Bool as Truth}
use Rattle.civl_tree.specs.rules.Uses.{param_sorts}
use Rattle.civl_terms.proofs.Growing.{grows_trans}
use Rattle.civl_firing.specs.Fired.{outs_after}
use Rattle.civl_actions.specs.Scopes.{AreOf}
use Rattle.civl_conditions.specs.Assumed.{inputs_of}
use Rattle.civl_states.specs.formula_parts.Said.{Env}
use Rattle.civl_states.specs.formula_parts.Lists.{AreSaid}
use Rattle.civl_states.proofs.formula_parts.Saying.{sort_stays, test_stays}
use Rattle.civl_states.proofs.formula_parts.Listing.{sorts_stay, said_stay}
use Rattle.civl_states.proofs.Runs.{of_some, if_some}
use Rattle.civl_states.proofs.Picking.{same_some}
use Rattle.civl_refine.proofs.Assuming.{inputs_sorted, inputs_said, frame_long}
use Rattle.civl_refine.proofs.Doing.{guard_said, store_said, outs_change}
use Rattle.civl_refine.proofs.performing.perform.Goals as goal

pub input_ids-requires : goal.input_ids-requires
input_ids-requires c = frame_long c.args.terms.now c.args.start.now.proc.now c.args.beginning.now.locals c.requires.begins.locals

pub guard-requires-clause-action : goal.guard-requires-clause-action
guard-requires-clause-action c = slice_get_within _ _ _ c.requires.start.refined.is

pub guard-requires-clause-inputs : goal.guard-requires-clause-inputs
guard-requires-clause-inputs c =
    let r = c.requires.start.refined in
    let q = c.args.start.now.proc.now in
    let o = c.args.terms.now in
    let ls = c.args.beginning.now.locals in
    if_some _ _ _ r.is (subst (λ (xs : List ℕ). AreOf o xs (param_sorts r.action.params)) (sym c.in_ok-inputs.ensures) (subst (AreOf o (take (length q.params) ls)) (sym r.params) (inputs_sorted o q ls c.requires.begins.locals)))

pub guard-requires-clause-choices : goal.guard-requires-clause-choices
guard-requires-clause-choices c = if_some _ _ _ c.requires.start.refined.is (c.requires.choices _ c.requires.start.refined.is)

pub updates-requires-clause-action : goal.updates-requires-clause-action
updates-requires-clause-action c = slice_get_within _ _ _ c.requires.start.refined.is

pub updates-requires-clause-globals : goal.updates-requires-clause-globals
updates-requires-clause-globals c = sorts_stay _ _ _ _ c.in_ok-guard.ensures.grows c.requires.begins.old_globals

pub updates-requires-clause-inputs : goal.updates-requires-clause-inputs
updates-requires-clause-inputs c =
    let r = c.requires.start.refined in
    let q = c.args.start.now.proc.now in
    let o = c.args.terms.now in
    let ls = c.args.beginning.now.locals in
    if_some _ _ _ r.is (sorts_stay _ _ _ _ c.in_ok-guard.ensures.grows (subst (λ (xs : List ℕ). AreOf o xs (param_sorts r.action.params)) (sym c.in_ok-inputs.ensures) (subst (AreOf o (take (length q.params) ls)) (sym r.params) (inputs_sorted o q ls c.requires.begins.locals))))

pub updates-requires-clause-choices : goal.updates-requires-clause-choices
updates-requires-clause-choices c = if_some _ _ _ c.requires.start.refined.is (sorts_stay _ _ _ _ c.in_ok-guard.ensures.grows (c.requires.choices _ c.requires.start.refined.is))

pub returns-in_err-changed-clause-grows : goal.returns-in_err-changed-clause-grows
returns-in_err-changed-clause-grows c = grows_trans _ _ _ c.in_ok-guard.ensures.grows c.in_err-changed.ensures.grows

pub returns-clause-performs : goal.returns-clause-performs
returns-clause-performs c = λ a b e is begun said.
    let s = c.args.start.now in
    let r = c.requires.start.refined in
    let q = s.proc.now in
    let o = c.args.terms.now in
    let m = c.guard.new.terms in
    let ls = c.args.beginning.now.locals in
    let g = c.in_ok-guard.ensures.grows in
    let h = c.in_ok-changed.ensures.grows in
    let f : Env → List Value = λ env. inputs_of q (b env).locals in
    let same = same_some _ r.action a r.is is in
    let inputs0 = subst (λ (ss : List Sort). AreSaid o (take (length q.params) ls) ss f) (sym r.params) (inputs_said o q ls (λ env. (b env).locals) begun.locals) in
    let inputs1 = subst (λ (xs : List ℕ). AreSaid o xs (param_sorts r.action.params) f) (sym c.in_ok-inputs.ensures) inputs0 in
    let inputs = subst (λ (d : Action). AreSaid o c.in_ok-inputs.inputs (param_sorts d.params) f) same inputs1 in
    let outs : param_sorts a.outs ≡ param_sorts q.outs = subst (λ (d : Action). param_sorts d.outs ≡ param_sorts q.outs) same r.outs in
    let change = of_some _ _ a is c.in_ok-changed.ensures.change in
    record {
      guard = test_stays _ _ _ _ h (guard_said o m s.program.now a _ _ _ _ (λ env. (b env).old) f e g (of_some _ _ a is c.in_ok-guard.ensures.guard) begun.old_globals inputs said);
      globals = store_said m _ s.program.now a _ _ _ _ _ (λ env. (b env).old) f e h change (said_stay _ _ _ _ _ g begun.old_globals) (said_stay _ _ _ _ _ g inputs) (said_stay _ _ _ _ _ g said);
      outs = subst (λ (ss : List Sort). AreSaid c.updates.new.terms c.in_ok-changed.changed.outs ss (λ env. outs_after s.program.now.globals (b env).old a (f env) (e env))) outs
          (outs_change m _ s.program.now a _ _ _ _ _ (λ env. (b env).old) f e h change (said_stay _ _ _ _ _ g begun.old_globals) (said_stay _ _ _ _ _ g inputs) (said_stay _ _ _ _ _ g said));
    }

pub returns-clause-guard : goal.returns-clause-guard
returns-clause-guard c = sort_stays _ _ _ Truth c.in_ok-changed.ensures.grows (of_some _ _ _ c.requires.start.refined.is c.in_ok-guard.ensures.guard).sort

pub returns-clause-globals : goal.returns-clause-globals
returns-clause-globals c = (of_some _ _ _ c.requires.start.refined.is c.in_ok-changed.ensures.change).global_sorts

pub returns-clause-outs : goal.returns-clause-outs
returns-clause-outs c = subst (AreOf c.updates.new.terms c.in_ok-changed.changed.outs) c.requires.start.refined.outs (of_some _ _ _ c.requires.start.refined.is c.in_ok-changed.ensures.change).out_sorts

pub returns-clause-grows : goal.returns-clause-grows
returns-clause-grows c = grows_trans _ _ _ c.in_ok-guard.ensures.grows c.in_ok-changed.ensures.grows

pub returns-clause-weighs : goal.returns-clause-weighs
returns-clause-weighs c = λ a is. omega (arith, of_some _ _ a is c.in_ok-guard.ensures.weighs, of_some _ _ a is c.in_ok-changed.ensures.weighs)
