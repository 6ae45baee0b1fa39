use Rattle.std.proofs.Common.{ap, ap₂, ◌∙◌, List}
use Rattle.civl_bits.specs.declared.value.Value.{Value}
use Rattle.civl_losses.specs.Losses.{rank_value, stays}
use Rattle.civl_losses.proofs.ranks.rank_stays.Goals as goal

pub returns : goal.returns
returns c =
    let route = c.args.route.now in
    let program = route.program.now in
    let proc = route.proc.now in
    let rank = c.args.rank.now in
    c.stays.ensures
    ∙ ap₂ (λ (v w : Value). stays v w)
    (c.rank_value-before.ensures ∙ ap (λ (ls : List Value). rank_value program proc route.beginning.now.store ls rank) c.as_slice.ensures)
    (c.rank_value-after.ensures ∙ ap (λ (ls : List Value). rank_value program proc route.walked.now.end.store ls rank) c.as_slice-2.ensures)
