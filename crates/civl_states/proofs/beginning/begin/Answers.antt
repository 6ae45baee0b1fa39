use Rattle.std.proofs.Common.{arith}
use Rattle.civl_terms.proofs.Growing.{lengthens_trans}
use Rattle.civl_conditions.specs.Values.{layout}
use Rattle.civl_states.proofs.formula_parts.Listing.{said_after}
use Rattle.civl_states.proofs.Limits.{globals_few, proc_few}
use Rattle.civl_states.proofs.Starting.{groups_stand, are_begun, can_begin, test_after, inner_limits, path_bits}
use Rattle.civl_states.proofs.beginning.begin.Goals as goal

pub places_of-places-requires-clause-globals : goal.places_of-places-requires-clause-globals
places_of-places-requires-clause-globals c = globals_few c.args.program.now c.requires.rules

pub places_of-places-requires-clause-few : goal.places_of-places-requires-clause-few
places_of-places-requires-clause-few c = proc_few c.args.program.now c.requires.rules c.requires.proc.0 c.args.proc.now c.requires.proc.1

pub store-requires-clause-stand : goal.store-requires-clause-stand
store-requires-clause-stand c = (groups_stand c.args.sorts.now c.args.program.now c.args.step c.args.proc.now c.args.cut c.requires.stand c.places_of-places.result c.places_of-places.ensures).globals

pub begin_old_store-requires-clause-stand : goal.begin_old_store-requires-clause-stand
begin_old_store-requires-clause-stand c = (groups_stand c.args.sorts.now c.args.program.now c.args.step c.args.proc.now c.args.cut c.requires.stand c.places_of-places.result c.places_of-places.ensures).old

pub returns-in_err-old_globals-clause-lengthens : goal.returns-in_err-old_globals-clause-lengthens
returns-in_err-old_globals-clause-lengthens c = lengthens_trans _ _ _ c.in_ok-globals.ensures.lengthens c.in_err-old_globals.ensures.lengthens

pub begin_frame-requires-clause-inner : goal.begin_frame-requires-clause-inner
begin_frame-requires-clause-inner c = inner_limits c.args.program.now c.requires.rules c.args.proc.now c.requires.proc

pub begin_frame-requires-clause-params : goal.begin_frame-requires-clause-params
begin_frame-requires-clause-params c = (groups_stand c.args.sorts.now c.args.program.now c.args.step c.args.proc.now c.args.cut c.requires.stand c.places_of-places.result c.places_of-places.ensures).params

pub begin_frame-requires-clause-rest : goal.begin_frame-requires-clause-rest
begin_frame-requires-clause-rest c = (groups_stand c.args.sorts.now c.args.program.now c.args.step c.args.proc.now c.args.cut c.requires.stand c.places_of-places.result c.places_of-places.ensures).rest

pub begin_frame-requires-clause-old_outs : goal.begin_frame-requires-clause-old_outs
begin_frame-requires-clause-old_outs c = (groups_stand c.args.sorts.now c.args.program.now c.args.step c.args.proc.now c.args.cut c.requires.stand c.places_of-places.result c.places_of-places.ensures).old_outs

pub begin_frame-requires-clause-done : goal.begin_frame-requires-clause-done
begin_frame-requires-clause-done c = (groups_stand c.args.sorts.now c.args.program.now c.args.step c.args.proc.now c.args.cut c.requires.stand c.places_of-places.result c.places_of-places.ensures).done

pub begin_frame-requires-clause-old_done : goal.begin_frame-requires-clause-old_done
begin_frame-requires-clause-old_done c = (groups_stand c.args.sorts.now c.args.program.now c.args.step c.args.proc.now c.args.cut c.requires.stand c.places_of-places.result c.places_of-places.ensures).old_done

pub returns-in_err-frame-clause-lengthens : goal.returns-in_err-frame-clause-lengthens
returns-in_err-frame-clause-lengthens c = lengthens_trans _ _ _ c.in_ok-globals.ensures.lengthens (lengthens_trans _ _ _ c.in_ok-old_globals.ensures.lengthens c.in_err-frame.ensures.lengthens)

pub begin_choices-requires-clause-stand : goal.begin_choices-requires-clause-stand
begin_choices-requires-clause-stand c = (groups_stand c.args.sorts.now c.args.program.now c.args.step c.args.proc.now c.args.cut c.requires.stand c.places_of-places.result c.places_of-places.ensures).calls

pub returns-in_err-chosen-clause-lengthens : goal.returns-in_err-chosen-clause-lengthens
returns-in_err-chosen-clause-lengthens c =
    lengthens_trans _ _ _ c.in_ok-globals.ensures.lengthens (lengthens_trans _ _ _ c.in_ok-old_globals.ensures.lengthens (lengthens_trans _ _ _ c.in_ok-frame.ensures.lengthens c.in_err-chosen.ensures.lengthens))

pub returns-clause-begun : goal.returns-clause-begun
returns-clause-begun c =
    let one = c.in_ok-chosen.ensures.lengthens in
    let two = lengthens_trans _ _ _ c.in_ok-frame.ensures.lengthens one in
    let three = lengthens_trans _ _ _ c.in_ok-old_globals.ensures.lengthens two in
    let f = c.in_ok-frame.ensures.begins in
    λ n l.
    are_begun _ c.args.program.now c.args.step c.args.proc.now c.args.cut c.places_of-places.result c.places_of-places.ensures _ (said_after _ _ _ _ _ three c.in_ok-globals.ensures.store) (said_after _ _ _ _ _ two c.in_ok-old_globals.ensures.store)
    (said_after _ _ _ _ _ one f.locals) (said_after _ _ _ _ _ one f.old_outs) (test_after _ _ _ _ one f.done) (test_after _ _ _ _ one f.old_done) c.in_ok-chosen.ensures.chosen n l

pub returns-clause-can : goal.returns-clause-can
returns-clause-can c =
    let one = c.in_ok-chosen.ensures.lengthens in
    let two = lengthens_trans _ _ _ c.in_ok-frame.ensures.lengthens one in
    let three = lengthens_trans _ _ _ c.in_ok-old_globals.ensures.lengthens two in
    let f = c.in_ok-frame.ensures.begins in
    let behind = (layout c.args.program.now c.args.step c.args.proc.now c.args.cut).behind in
    can_begin _ c.args.program.now c.args.step c.args.proc.now c.args.cut _ _
    (are_begun _ c.args.program.now c.args.step c.args.proc.now c.args.cut c.places_of-places.result c.places_of-places.ensures _ (said_after _ _ _ _ _ three c.in_ok-globals.ensures.store) (said_after _ _ _ _ _ two c.in_ok-old_globals.ensures.store)
    (said_after _ _ _ _ _ one f.locals) (said_after _ _ _ _ _ one f.old_outs) (test_after _ _ _ _ one f.done) (test_after _ _ _ _ one f.old_done) c.in_ok-chosen.ensures.chosen behind (omega arith))

pub returns-clause-lengthens : goal.returns-clause-lengthens
returns-clause-lengthens c =
    lengthens_trans _ _ _ c.in_ok-globals.ensures.lengthens (lengthens_trans _ _ _ c.in_ok-old_globals.ensures.lengthens (lengthens_trans _ _ _ c.in_ok-frame.ensures.lengthens c.in_ok-chosen.ensures.lengthens))

pub returns-clause-weighs : goal.returns-clause-weighs
returns-clause-weighs c =
    omega (arith, c.in_ok-globals.ensures.weighs, c.in_ok-old_globals.ensures.weighs, c.in_ok-frame.ensures.weighs, c.in_ok-chosen.ensures.weighs, path_bits c.args.program.now c.args.step c.args.proc.now c.args.cut)
