use Rattle.std.proofs.Common.{refl, ap, ◌∙◌, subst, arith, ◌≡◌, ◌+◌, ◌-◌, ℕ, length, Bool, false, replicate, rules, Vec, Global}
use Rattle.std.proofs.lemmas.List.{with_items_is}
use Rattle.civl_blast.specs.reach.Marks.{IsMarking}
use Rattle.civl_blast.proofs.reach.Marked.{loop_begins, loop_skips, loop_marks}
use Rattle.civl_blast.proofs.reach.marking.marks.Goals as goal
use Rattle.civl_blast.proofs.reach.marking.marks.Goals.{then-index, else-index}

pub loop-done-init : goal.loop-done-init
loop-done-init c =
    let e : c.in_ok-marks.marks.items ≡ replicate (c.args.id + 1) false = search rules in
    loop_begins _ _ _ _ _ (omega arith) e refl

pub loop-done-preserved : goal.loop-done-preserved
loop-done-preserved c = elim c.if-index.branch [
  | then-index w ↦ loop_marks _ _ (c.args.id - c.loop-done.done) _ _ _ _ _ _ _ _ c.loop-done.invariant (omega arith) (omega arith) (omega arith) c.index.ensures w.if-index.true w.node.ensures.is w.node.ensures.parts w.as_mut_slice.ensures.value w.mark_parts.ensures.size w.mark_parts.ensures.parts (ap (λ (v : Vec Bool Global). v.items) w.marks-is ∙ with_items_is c.loop-done.marks w.mark_parts.new.marks (omega (arith, w.mark_parts.ensures.size, w.as_mut_slice.ensures.len, ap length w.as_mut_slice.ensures.value)))
  | else-index w ↦ loop_skips _ _ (c.args.id - c.loop-done.done) _ _ _ _ _ c.loop-done.invariant (omega arith) (omega arith) (omega arith) c.index.ensures w.if-index.false (ap (λ (v : Vec Bool Global). v.items) w.marks-is)
]

pub returns : goal.returns
returns c = let e : c.args.id + 1 - c.loop-done.done ≡ 0 = omega arith in let P : ℕ → Type 0 = λ k. IsMarking c.args.terms.now c.args.id k c.loop-done.marks.items in subst P e c.loop-done.invariant
