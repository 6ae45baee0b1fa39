use Rattle.std.proofs.Common.{◌≡◌, ℕ, List, ◌++◌, map, ap, subst, ◌∙◌}
use Rattle.civl_tree.specs.declared.action.Choice.{Choice}
use Rattle.civl_conditions.specs.Variables.{passed_choices}
use Rattle.civl_traces.specs.declared.walked.Chosen.{Chosen}
use Rattle.civl_traces.specs.Told.{chosen_at}
use Rattle.civl_losses.specs.inner.Given.{listed, calls_of}
use Rattle.civl_losses.proofs.Reading.{calls_are, listed_is}
use Rattle.civl_losses.proofs.choices.choices_of_calls.Goals as goal

pub returns : goal.returns
returns c =
    let from = c.args.from.now in
    let values = c.args.values.now in
    let found = calls_of from.program.now c.saturating_sub.result (map (λ s. s.now) c.as_slice.result.now) c.as_slice-2.result.now in
    subst (λ (xs : List Chosen). chosen_at c.push_calls.new.list ≡ chosen_at (xs ++ listed found values)) c.new-list.ensures (ap chosen_at c.in_ok-push_calls.ensures)
    ∙ ap (λ (qs : List (ℕ × List Choice)). chosen_at (listed qs values))
    (calls_are from.program.now from.step c.saturating_sub.result from.proc.now from.cut c.as_slice-2.result.now (map (λ s. s.now) c.as_slice.result.now) c.in_ok-met.met
    c.saturating_sub.ensures c.as_slice-2.ensures c.in_ok-met.ensures.numbers (rw c.as_slice.ensures.value c.in_ok-flat.ensures.statements))
    ∙ listed_is (passed_choices from.program.now from.step from.proc.now from.cut) values
