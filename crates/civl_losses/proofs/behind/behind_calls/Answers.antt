use Rattle.std.proofs.Common.{ℕ, List, ap, ◌∙◌, map, drop}
use Rattle.civl_tree.specs.declared.action.Choice.{Choice}
use Rattle.civl_conditions.specs.Values.{choices_count}
use Rattle.civl_losses.proofs.Reading.{calls_are}
use Rattle.civl_losses.proofs.behind.behind_calls.Goals as goal

pub returns : goal.returns
returns c =
    let from = c.args.from.now in
    c.behind_numbers.ensures
    ∙ ap (λ (qs : List (ℕ × List Choice)). drop (choices_count qs) c.args.values.now)
    (calls_are from.program.now from.step c.saturating_sub.result from.proc.now from.cut c.as_slice-2.result.now (map (λ s. s.now) c.as_slice.result.now) c.in_ok-met.met
    c.saturating_sub.ensures c.as_slice-2.ensures c.in_ok-met.ensures.numbers (rw c.as_slice.ensures.value c.in_ok-flat.ensures.statements))
