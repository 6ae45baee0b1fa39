use Rattle.std.proofs.Common.{List, ◌∙◌, subst}
use Rattle.civl_traces.specs.declared.walked.Passage.{Passage}
use Rattle.civl_traces.specs.Traces.{tell_kind, trace_from}
use Rattle.civl_traces.specs.Told.{course}
use Rattle.civl_traces.specs.inner.Walking.{Went}
use Rattle.civl_traces.proofs.Going.{all_told}
use Rattle.civl_traces.proofs.walking.walk.Goals as goal

pub returns : goal.returns
unfolding trace_from
returns c =
    let way = course c.args.plain.now c.args.proc.now c.args.chosen.now in
    let telling = tell_kind way c.args.cut.statement c.args.cut.kind in
    let b = c.walk_from.new.walker in
    let e = c.in_ok-ending.ending in
    c.finished.ensures
    ∙ all_told way c.args.begin b e telling c.sizes.result c.sizes.ensures
    (subst (λ (ps : List Passage). Went (record { passed = ps; moment = c.args.begin; at = 0 }) e b telling) c.new.ensures c.in_ok-ending.ensures)
