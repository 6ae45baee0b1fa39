use Rattle.std.specs.Prelude.{List, not, true, slice_get}
use Rattle.std.specs.Option.{option_map_or}
use Rattle.std.proofs.Common.{◌∙◌, sym, ap}
use Rattle.civl_layers.specs.declared.cut.Cut.{Cut}
use Rattle.civl_conditions.specs.paths.Ends.{ends_block, is_rank_loop}
use Rattle.civl_states.proofs.formula_parts.Saying.{test_as}
use Rattle.civl_refine.proofs.Asking.{asked}
use Rattle.civl_refine.proofs.ends.stutter_at.Goals as goal

pub returns-then-ends_block-clause-keeps : goal.returns-then-ends_block-clause-keeps
returns-then-ends_block-clause-keeps c = λ b p begun at.
    let e = ap (λ (cs : List Cut). option_map_or (λ k. not (is_rank_loop k.kind)) (slice_get cs c.args.way.now.end) true) (sym c.requires.cuts) ∙ sym c.ends_block.ensures ∙ c.if-ends_block.true in
    test_as _ _ _ _ (λ env. asked (ends_block c.args.start.now.proc.now c.args.way.now.end) _ e) (c.in_ok-id.ensures.test b p begun at)
