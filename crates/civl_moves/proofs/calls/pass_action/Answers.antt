use Rattle.std.proofs.Common.{◌∙◌, ap}
use Rattle.civl_tree.specs.rules.Names.{names_in_proc}
use Rattle.civl_states.proofs.Runs.{of_some}
use Rattle.civl_moves.specs.Calls.{with_outs_of}
use Rattle.civl_moves.proofs.Calling.{if_each, action_moves}
use Rattle.civl_moves.proofs.Leaving.{results_written}
use Rattle.civl_moves.proofs.calls.pass_action.Goals as goal

pub returns-clause-moves : goal.returns-clause-moves
returns-clause-moves c =
    let p = c.args.program.now in
    let q = c.args.proc.now in
    let s = c.args.sweep.now in
    if_each _ _ (λ a e.
    action_moves c.args.terms.now c.run_action.new.terms p q s c.in_ok-ran.ensures.grows c.requires.can c.len-count.ensures.graph a c.args.inputs.now c.args.choices.now c.args.results.now c.in_ok-ran.ran c.take_outs.new.locals
    (of_some _ _ a e c.requires.choices) (of_some _ _ a e c.requires.results) (of_some _ _ a e c.in_ok-ran.ensures.ran)
    (c.take_outs.ensures ∙ ap (with_outs_of (names_in_proc q) s.locals c.args.results.now) c.as_slice.ensures))

pub returns-clause-locals : goal.returns-clause-locals
returns-clause-locals c =
    let names = names_in_proc c.args.proc.now in
    results_written names c.args.sweep.now.locals c.take_outs.new.locals c.args.results.now c.in_ok-ran.ran.outs (c.take_outs.ensures ∙ ap (with_outs_of names c.args.sweep.now.locals c.args.results.now) c.as_slice.ensures)
