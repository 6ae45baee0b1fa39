use Rattle.std.proofs.Common.{arith}
use Rattle.std.proofs.lemmas.Option.{slice_get_within}
use Rattle.civl_terms.proofs.Growing.{grows_trans}
use Rattle.civl_states.proofs.formula_parts.Listing.{sorts_stay}
use Rattle.civl_states.proofs.Runs.{of_some, if_some}
use Rattle.civl_movers.proofs.Runs.{tells_offered}
use Rattle.civl_movers.proofs.firing.offered_guard.Goals as goal

pub offers-requires-clause-action : goal.offers-requires-clause-action
offers-requires-clause-action c = slice_get_within _ _ _ c.requires.inputs.is

pub offers-requires-clause-inputs : goal.offers-requires-clause-inputs
offers-requires-clause-inputs c = if_some _ _ _ c.requires.inputs.is c.requires.inputs.sorted

pub guard-requires-clause-action : goal.guard-requires-clause-action
guard-requires-clause-action c = slice_get_within _ _ _ c.requires.inputs.is

pub guard-requires-clause-globals : goal.guard-requires-clause-globals
guard-requires-clause-globals c = sorts_stay _ _ _ _ c.in_ok-offered.ensures.grows c.requires.globals

pub guard-requires-clause-inputs : goal.guard-requires-clause-inputs
guard-requires-clause-inputs c = if_some _ _ _ c.requires.inputs.is (sorts_stay _ _ _ _ c.in_ok-offered.ensures.grows c.requires.inputs.sorted)

pub guard-requires-clause-choices : goal.guard-requires-clause-choices
guard-requires-clause-choices c = if_some _ _ _ c.requires.inputs.is (of_some _ _ _ c.requires.inputs.is c.in_ok-offered.ensures.offers).sorts

pub returns-clause-guard : goal.returns-clause-guard
returns-clause-guard c =
    tells_offered c.args.terms.now c.offers.new.terms c.guard.new.terms c.args.program.now c.args.globals.now c.args.action c.args.inputs.now c.in_ok-offered.offered c.in_ok-id.id
    c.in_ok-offered.ensures.grows c.in_ok-id.ensures.grows c.in_ok-offered.ensures.offers c.in_ok-id.ensures.guard

pub returns-clause-sorted : goal.returns-clause-sorted
returns-clause-sorted c = (of_some _ _ _ c.requires.inputs.is c.in_ok-id.ensures.guard).sort

pub returns-clause-weighs : goal.returns-clause-weighs
returns-clause-weighs c = λ a e. omega (arith, of_some _ _ a e c.in_ok-offered.ensures.weighs, of_some _ _ a e c.in_ok-id.ensures.weighs)

pub returns-clause-grows : goal.returns-clause-grows
returns-clause-grows c = grows_trans _ _ _ c.in_ok-offered.ensures.grows c.in_ok-id.ensures.grows

pub returns-in_err-id-clause-grows : goal.returns-in_err-id-clause-grows
returns-in_err-id-clause-grows c = grows_trans _ _ _ c.in_ok-offered.ensures.grows c.in_err-id.ensures.grows
