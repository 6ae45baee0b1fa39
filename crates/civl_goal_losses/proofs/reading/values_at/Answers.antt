use Rattle.std.proofs.Common.{◌+◌, ◌∙◌, ℕ, List, ap, drop, take}
use Rattle.std.proofs.lemmas.List.{drop-drop}
use Rattle.civl_bits.specs.declared.value.Value.{Value}
use Rattle.civl_conditions.specs.Values.{count_of}
use Rattle.civl_goals.specs.Outlines.{exists_on_top}
use Rattle.civl_goals.specs.Variables.{frame_count}
use Rattle.civl_goals.specs.Failed.{behind_frame}
use Rattle.civl_goal_losses.proofs.reading.values_at.Goals as goal

pub returns-clause-locals : goal.returns-clause-locals
returns-clause-locals c =
    c.locals_of.ensures ∙ ap (λ (vs : List Value). take (frame_count c.args.program.now c.args.root) vs) c.behind_globals-from.ensures

pub returns-clause-chosen : goal.returns-clause-chosen
returns-clause-chosen c =
    let p = c.args.program.now in
    let later =
    c.behind_locals-later.ensures ∙ ap (λ (vs : List Value). drop (frame_count p c.args.root) vs) c.behind_globals-from.ensures
    ∙ drop-drop (frame_count p c.args.root) (count_of (exists_on_top p) p) c.args.values.now in
    c.first.ensures ∙ ap (λ (vs : List Value). take c.in_ok-count.count vs) later ∙ ap (λ (n : ℕ). take n (drop (behind_frame p c.args.root) c.args.values.now)) c.in_ok-count.ensures

pub returns-clause-rest : goal.returns-clause-rest
returns-clause-rest c =
    let p = c.args.program.now in
    let later =
    c.behind_locals-later.ensures ∙ ap (λ (vs : List Value). drop (frame_count p c.args.root) vs) c.behind_globals-from.ensures
    ∙ drop-drop (frame_count p c.args.root) (count_of (exists_on_top p) p) c.args.values.now in
    c.behind.ensures ∙ ap (λ (vs : List Value). drop c.in_ok-count.count vs) later
    ∙ drop-drop c.in_ok-count.count (behind_frame p c.args.root) c.args.values.now
    ∙ ap (λ (n : ℕ). drop (behind_frame p c.args.root + n) c.args.values.now) c.in_ok-count.ensures
