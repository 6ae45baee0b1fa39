use Rattle.std.proofs.Common.{ap, sym, ◌∙◌}
use Rattle.civl_meaning.specs.Permissions.{pairwise_disjoint}
use Rattle.civl_assumed.specs.Beginnings.{begun_of}
use Rattle.civl_assumed.proofs.Meeting.{assumed_is}
use Rattle.civl_assumed.proofs.begun.is_assumed.Goals as goal

pub returns : goal.returns
returns c = λ chosen.
    let place = c.args.place.now in
    c.are_apart.ensures ∙ ap pairwise_disjoint (c.as_slice.ensures.value ∙ c.in_ok-lists.ensures chosen)
    ∙ sym (assumed_is place.program.now place.step place.proc.now place.number place.cut (begun_of c.args.begun.now chosen)
    (sym (c.values_meet.ensures chosen) ∙ c.if-not-values_meet.false))
