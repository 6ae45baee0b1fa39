use Rattle.std.proofs.Common.{◌≡◌, ◌∙◌, List, ap}
use Rattle.civl_bits.specs.declared.value.Value.{Value}
use Rattle.civl_tree.specs.rules.Names.{names_in_proc}
use Rattle.civl_firing.specs.Eval.{values_of}
use Rattle.civl_firing.specs.Scope.{frame_values}
use Rattle.civl_meaning.specs.Meaning.{called}
use Rattle.civl_meaning.specs.Change.{call_doing}
use Rattle.civl_reduction.specs.blocks.Challenged.{call_challenged}
use Rattle.civl_shadows.proofs.challenging.call_challenged.Goals as goal

pub returns : goal.returns
returns c at next =
    let vals : c.as_slice-3.result.now ≡ values_of (frame_values c.args.plain.now.program.globals c.args.proc.now c.args.locals.now) c.args.args.now = cc (c.as_slice.ensures, c.as_slice-2.ensures, c.as_slice-3.ensures, c.in_ok-args.ensures, c.in_frame-frame.ensures, c.args-2.view_is) in
    c.in_ok-challenged.ensures (names_in_proc c.args.proc.now) c.args.locals.now c.args.results.now at next
    ∙ ap (λ (vs : List Value). call_challenged c.args.plain.now.program c.args.layer c.args.store.now (call_doing (names_in_proc c.args.proc.now) c.args.locals.now c.args.results.now at next (called c.args.plain.now c.args.name.now) vs)) vals
