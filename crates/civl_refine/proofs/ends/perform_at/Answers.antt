use Rattle.std.specs.Prelude.{List, Option, not, true, slice_get}
use Rattle.std.specs.Option.{option_map_or}
use Rattle.std.proofs.Common.{◌∙◌, ◌+◌, sym, ap, arith}
use Rattle.civl_tree.specs.declared.action.Action.{Action}
use Rattle.civl_firing.specs.values.ActionWeights.{guard_weight, updates_weight}
use Rattle.civl_layers.specs.declared.cut.Cut.{Cut}
use Rattle.civl_conditions.specs.paths.Ends.{is_rank_loop}
use Rattle.civl_states.proofs.formula_parts.Saying.{test_as}
use Rattle.civl_states.proofs.Weighing.{guard_weighs}
use Rattle.civl_refine.proofs.Asking.{perform_is}
use Rattle.civl_refine.proofs.ends.perform_at.Goals as goal

pub returns-then-ends_block-clause-keeps : goal.returns-then-ends_block-clause-keeps
returns-then-ends_block-clause-keeps c = λ b p begun at.
    let s = c.args.start.now in
    let r = c.requires.start.refined in
    let e = ap (λ (cs : List Cut). option_map_or (λ k. not (is_rank_loop k.kind)) (slice_get cs c.args.way.now.end) true) (sym c.requires.cuts) ∙ sym c.ends_block.ensures ∙ c.if-ends_block.true in
    test_as _ _ _ _ (λ env. perform_is s.program.now s.step s.proc.now s.refined r (b env) (p env) s.number s.cut c.args.way.now.end e) (c.in_ok-id.ensures.test r.action b p r.is begun at)

pub returns-then-ends_block-clause-weighs : goal.returns-then-ends_block-clause-weighs
returns-then-ends_block-clause-weighs c =
    let s = c.args.start.now in
    let r = c.requires.start.refined in
    omega (arith, c.in_ok-id.ensures.weighs r.action r.is, guard_weighs s.program.now r.action, ap (λ (o : Option Action). option_map_or (λ a. guard_weight s.program.now a + updates_weight s.program.now a) o 0) r.refined)
