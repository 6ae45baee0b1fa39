use Rattle.std.proofs.Common.{List, false, ◌++◌, map, ap, ◌∙◌}
use Rattle.std.proofs.lemmas.List.{take_all}
use Rattle.civl_yields.specs.declared.phase.Phase.{Phase}
use Rattle.civl_yields.specs.inner.Marks.{seen}
use Rattle.civl_yields.specs.Phases.{phases_before}
use Rattle.civl_yields.proofs.marking.phases_before.Goals as goal

pub returns : goal.returns
returns c =
    c.loop-mark.invariant
    ∙ ap (map (seen false)) (take_all c.loop-mark.mark-index c.deref-mark-items.result.now c.loop-mark-test.false ∙ c.deref-mark-items.ensures.value)
    ∙ c.in_ok-mark_all.ensures.marks false
    ∙ ap (λ (marks : List Phase). map (seen false) marks ++ phases_before c.args.program.now c.args.body.now) c.new-marks.ensures.items
