use Rattle.std.specs.Prelude.{Bool, not, ◌&&◌, List, slice_get, true}
use Rattle.std.specs.Option.{option_map_or}
use Rattle.std.proofs.Common.{◌∙◌, sym, ap}
use Rattle.civl_layers.specs.declared.cut.Cut.{Cut}
use Rattle.civl_conditions.specs.paths.Paths.{progress_of}
use Rattle.civl_conditions.specs.paths.Ends.{ends_block, is_rank_loop}
use Rattle.civl_states.proofs.formula_parts.Saying.{test_as}
use Rattle.civl_body.specs.Walks.{ends_at}
use Rattle.civl_refine.specs.inner.steadiness.Kept.{is_lost}
use Rattle.civl_refine.proofs.steadiness.Ending.{end_counts}
use Rattle.civl_refine.proofs.steadiness.blocks.with_way.Goals as goal

pub returns-then-ends_block-clause-test : goal.returns-then-ends_block-clause-test
returns-then-ends_block-clause-test c = λ f b o out t first says way.
    let s = c.args.start.now in
    let q = s.proc.now in
    let w = c.args.way.now in
    let e = sym (c.ends_block.ensures ∙ ap (λ (cuts : List Cut). option_map_or (λ cut. not (is_rank_loop cut.kind)) (slice_get cuts w.end) true) c.requires.cuts) ∙ c.if-ends_block.true in
    test_as _ _ _ _ (λ env. ap (λ (x : Bool). f env && x) (end_counts (ends_block q w.end) (ends_at q (out env) w.end) (is_lost s.program.now s.step c.args.kept.now (o env) (b env).old (progress_of (out env)).store) e))
    (c.in_ok-id.ensures.test f b o out t first says way)
