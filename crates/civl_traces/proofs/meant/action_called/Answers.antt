use Rattle.std.proofs.Common.{List, map, sym, ap, ◌∙◌}
use Rattle.civl_tree.specs.declared.program.Proc.{Proc}
use Rattle.civl_firing.specs.Truth.{place_of}
use Rattle.civl_meaning.specs.Meaning.{meaning_of, meaning_else}
use Rattle.civl_meaning.proofs.Calling.{action_there, no_action}
use Rattle.civl_conditions.specs.paths.Choices.{action_meant}
use Rattle.civl_traces.proofs.meant.action_called.Goals as goal

pub returns-then-at-actions : goal.returns-then-at-actions
returns-then-at-actions c =
    let there = action_there c.args.plain.now.program c.as_slice-actions.result.now c.as_slice-actions.ensures c.args.name.now c.action-at.result c.action-at.ensures
    c.index-actions-at.result c.if-at-actions.true c.index-actions-at.is in
    sym (ap action_meant (ap (meaning_else c.args.plain.now c.args.name.now) there))

pub returns : goal.returns
returns c =
    let none = no_action c.args.plain.now.program c.as_slice-actions.result.now c.as_slice-actions.ensures c.args.name.now c.action-at.result c.action-at.ensures
    c.if-at-actions.false in
    let number = c.proc.ensures ∙ ap (λ (procs : List Proc). place_of (map (λ (p : Proc). p.name) procs) c.args.name.now) c.as_slice.ensures in
    c.of_proc.ensures ∙ ap action_meant (ap (meaning_of c.args.plain.now) number ∙ sym (ap (meaning_else c.args.plain.now c.args.name.now) none))
