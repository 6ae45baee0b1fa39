use Rattle.std.proofs.Common.{List, length, map, ap, sym, ◌∙◌, ◌<◌, subst, arith}
use Rattle.civl_tree.specs.declared.program.Proc.{Proc}
use Rattle.civl_firing.specs.Truth.{place_of}
use Rattle.civl_outlined.proofs.Noted.{number_later, first_here, first_none}
use Rattle.civl_outlined.proofs.said.first_note.Goals as goal

pub loop-place-init : goal.loop-place-init
loop-place-init c =
    let whole = ap (λ (ps : List Proc). place_of (map (λ p. p.name) ps) c.args.name.now) c.as_slice-procs.ensures in
    omega (arith, whole)

pub note_before-requires-clause-place : goal.note_before-requires-clause-place
note_before-requires-clause-place c = subst (λ (ps : List Proc). c.loop-place.place < length ps) c.as_slice-procs.ensures c.loop-place-test.true

pub returns-then-same_name : goal.returns-then-same_name
returns-then-same_name c =
    first_here c.args.said.now.program.now c.args.said.now.outline.now c.as_slice-procs.result.now c.loop-place.place c.args.name.now _ c.index-procs-place.result c.loop-place-test.true c.index-procs-place.is (sym c.same_name.ensures ∙ c.if-same_name.true) c.loop-place.invariant c.note_before.ensures

pub loop-place-preserved : goal.loop-place-preserved
loop-place-preserved c =
    number_later c.as_slice-procs.result.now c.loop-place.place c.args.name.now c.index-procs-place.result c.loop-place-test.true c.index-procs-place.is (sym c.same_name.ensures ∙ c.if-same_name.false)
    ∙ c.loop-place.invariant

pub returns : goal.returns
returns c = first_none c.args.said.now.program.now c.args.said.now.outline.now c.as_slice-procs.result.now c.loop-place.place c.args.name.now _ c.as_slice-procs.ensures c.loop-place-test.false c.loop-place.invariant c.of.ensures
