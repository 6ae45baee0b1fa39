use Rattle.civl_conditions.specs.footprints.Agreement.{exists_at}
use Rattle.civl_conditions.specs.Values.{count_of}
use Rattle.civl_clashes.proofs.Offering.{told_as, keep_as}
use Rattle.civl_clashes.proofs.told.of_kept.Goals as goal

pub returns-in-Ok : goal.returns-in-Ok
returns-in-Ok c =
    let p = c.args.program.now in
    told_as c.keep_violation.result _ _ (
    keep_as p _ _ _ _ _ _
    c.in-Ok.ensures
    c.call_of-x.ensures.number
    (c.call_of-x.ensures.values c.args.values.now (count_of (exists_at c.args.layer) p) c.behind_globals.ensures)
    ) c.keep_violation.ensures
