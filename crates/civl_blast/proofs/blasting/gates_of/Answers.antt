use Rattle.std.specs.Prelude.{slice_get}
use Rattle.std.proofs.Common.{◌≡◌, ◌∙◌, ◌+◌, ap, sym, subst, arith, refl}
use Rattle.std.proofs.lemmas.List.{get_or_default}
use Rattle.civl_circuits.specs.Circuits.{blank}
use Rattle.civl_symbolic.specs.declared.symbolic.Symbolic.{Symbolic}
use Rattle.civl_symbolic.specs.declared.symbolic.Symbolic.TheVariants as symbolic
use Rattle.civl_blast.specs.reach.Marks.{marked}
use Rattle.civl_blast.specs.inner.Steps.{symbol_in, input_bits, output_of, IsCircuit}
use Rattle.civl_blast.proofs.Weighing.{inputs_few, inputs_next}
use Rattle.civl_blast.proofs.Laying.{takes_plain}
use Rattle.civl_blast.proofs.Flow.{blasting_none, blasting_ready, blasting_room, blasting_more, blasting_all}
use Rattle.civl_blast.proofs.blasting.gates_of.Goals as goal

pub start-requires : goal.start-requires
start-requires c = omega (arith, c.requires.count, inputs_few {n = c.args.id + 1} c.requires.marking (omega arith) c.requires.light)

pub loop-at-init : goal.loop-at-init
loop-at-init c = rw c.new-table.ensures.items (blasting_none _ _ c.in_ok-gates.ensures)

pub step-requires-clause-room : goal.step-requires-clause-room
step-requires-clause-room c = blasting_room c.loop-at.invariant c.requires.marking (omega arith) c.requires.count c.requires.light

pub step-requires-clause-ready : goal.step-requires-clause-ready
step-requires-clause-ready c = λ mark. rw c.as_slice.ensures.value (blasting_ready c.loop-at.invariant c.len-count.ensures.graph c.requires.marking c.requires.rowless c.requires.within (omega arith) c.requires.count mark)

pub bits_of_input-first-requires : goal.bits_of_input-first-requires
bits_of_input-first-requires c = λ mark. takes_plain c.loop-at.at c.node.result.now c.len-count.ensures.graph c.requires.rowless (c.requires.marking.only c.loop-at.at mark) c.node.ensures.is

pub overflow_add-first : goal.overflow_add-first
overflow_add-first c =
    let bits = ap (input_bits (marked c.args.marks.now c.loop-at.at)) c.node.ensures.is in
    omega (arith, inputs_next c.args.terms.now c.args.marks.now c.loop-at.at, bits, c.bits_of_input-first.ensures, c.loop-at.invariant.first_is, inputs_few {n = c.loop-at.at + 1} c.requires.marking (omega arith) c.requires.light)

pub loop-at-preserved : goal.loop-at-preserved
loop-at-preserved c =
    let bits : c.bits_of_input-first.result ≡ input_bits (marked c.args.marks.now c.loop-at.at) (slice_get c.args.terms.now c.loop-at.at) = c.bits_of_input-first.ensures ∙ sym (ap (input_bits (marked c.args.marks.now c.loop-at.at)) c.node.ensures.is) in
    rw (c.in_ok-push.ensures.items, bits)
    (blasting_more _ (marked c.args.marks.now c.loop-at.at) c.loop-at.invariant c.len-count.ensures.graph c.requires.marking refl (rw c.as_slice.ensures.value at c.in_ok-made.ensures.ok))

pub returns : goal.returns
returns c =
    let symbol : symbol_in c.loop-at.table.items c.args.id ≡ c.index.result.now = get_or_default c.loop-at.table.items c.args.id (symbolic.Bool blank) c.index.result.now (omega (arith, c.loop-at.invariant.size)) ∙ sym c.index.ensures in
    let P : Symbolic → Type 0 = λ x. IsCircuit c.args.terms.now c.args.id c.args.marks.now c.args.count c.loop-at.gates (output_of c.in_ok-gates.one x) in
    rw c.output-output.ensures (subst P symbol (blasting_all c.loop-at.invariant c.requires.marking (omega arith) c.requires.count c.requires.truth))
