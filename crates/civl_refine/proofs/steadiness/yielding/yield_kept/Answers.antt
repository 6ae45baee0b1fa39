use Rattle.std.specs.Prelude.{Option}
use Rattle.std.specs.Option.{option_map_or}
use Rattle.std.proofs.Common.{◌∙◌, sym, ap, true}
use Rattle.civl_tree.specs.declared.expr.Expr.{Expr}
use Rattle.civl_conditions.specs.paths.NoteValues.{steady_note_values}
use Rattle.civl_conditions.specs.Invariants.{holds_in}
use Rattle.civl_states.proofs.formula_parts.Saying.{test_as}
use Rattle.civl_refine.proofs.Typing.{cut_typed, cut_truth}
use Rattle.civl_refine.proofs.steadiness.yielding.yield_kept.Goals as goal

pub steady_note-requires-clause-typed : goal.steady_note-requires-clause-typed
steady_note-requires-clause-typed c =
    let s = c.args.place.now in
    cut_typed c.args.program.now c.requires.rules s.proc.now c.requires.place.proc s.cut s.note.now c.requires.place.note

pub returns-clause-tells : goal.returns-clause-tells
returns-clause-tells c = λ o g s t.
    let p = c.args.program.now in
    let y = c.args.place.now in
    let truth = cut_truth p c.requires.rules y.proc.now c.requires.place.proc y.cut y.note.now c.requires.place.note in
    test_as _ _ _ _ (λ env. sym (ap (λ (e : Option Expr). option_map_or (holds_in (steady_note_values p.globals y.proc.now (g env) (o env).locals (o env).done)) e true) c.requires.place.note))
    (c.in_ok-id.ensures.note.holds g (λ env. (o env).locals) (λ env. (o env).done) truth t s.locals s.done)

pub returns-clause-sorted : goal.returns-clause-sorted
returns-clause-sorted c =
    let y = c.args.place.now in
    c.in_ok-id.ensures.sorted ∙ cut_truth c.args.program.now c.requires.rules y.proc.now c.requires.place.proc y.cut y.note.now c.requires.place.note
