use Rattle.std.proofs.Common.{◌≡◌, ◌+◌, ◌∙◌, ap, drop}
use Rattle.civl_tree.specs.declared.program.Program.{Program}
use Rattle.civl_conditions.specs.paths.Seen.{exists_near}
use Rattle.civl_conditions.specs.Values.{count_of, store_of, instance_count}
use Rattle.civl_clashes.proofs.Offering.{told_as}
use Rattle.civl_clashes.proofs.Targets.{act_as}
use Rattle.civl_clashes.proofs.told.of_acting.Goals as goal

pub returns-in-Ok : goal.returns-in-Ok
returns-in-Ok c =
    let p = c.args.src.now in
    let vs = c.args.values.now in
    let step = c.args.step in
    let at = count_of (exists_near step) p in
    let rest : c.behind_globals-rest.result.now ≡ drop at vs =
    c.behind_globals-rest.ensures ∙ ap (λ (q : Program). drop (count_of (exists_near step) q) vs) c.program.ensures.same in
    told_as c.act_violation.result _ _ (
    act_as p step _ _ _ _ _ _ c.args.target _ vs (at + instance_count c.args.action.now)
    (c.in-Ok.ensures ∙ ap (λ (q : Program). store_of (exists_near step) q vs) c.program-2.ensures.same)
    c.call_of-x.ensures.number
    (c.call_of-x.ensures.values vs at rest)
    (c.behind_call.ensures vs at rest)
    ) c.act_violation.ensures
