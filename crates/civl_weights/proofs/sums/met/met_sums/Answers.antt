use Rattle.std.proofs.Common.{ℕ, List, map, length, ap, ◌∙◌}
use Rattle.std.specs.Prelude.{filter}
use Rattle.civl_tree.specs.Numbering.{statements_of}
use Rattle.civl_layers.specs.declared.cut.Cut.{Cut}
use Rattle.civl_layers.specs.Cuts.{proc_cuts}
use Rattle.civl_conditions.specs.Weights.{summed}
use Rattle.std.specs.Prelude.{slice_get}
use Rattle.std.specs.Option.{option_map_or}
use Rattle.civl_weights.specs.inner.sums.Met.{block_end}
use Rattle.civl_weighing.proofs.Capping.{weighs_same}
use Rattle.civl_weighing.proofs.Listing.{summed_at}
use Rattle.civl_weights.proofs.sums.Meeting.{passed_sum, cuts_sum}
use Rattle.civl_weights.proofs.sums.met.met_sums.Goals as goal

pub returns : goal.returns
returns c =
    let proc = c.args.proc.now in
    let same = c.in_ok-ends.ensures proc c.args.cut c.requires.cuts c.in_ok-met.ensures.numbers in
    record {
      passed = λ f h. weighs_same (passed_sum f proc c.args.cut _ c.in_ok-met.ensures.statements) (summed_at (map f (statements_of proc.body)) c.as_slice-passed.ensures c.total_at.ensures h);
      choices = λ f h. weighs_same (passed_sum f proc c.args.cut _ c.in_ok-met.ensures.statements) (summed_at (map f (statements_of proc.body)) c.as_slice-passed.ensures c.total_at-2.ensures h);
      ends = weighs_same (c.len.ensures ∙ ap (λ (es : List ℕ). length es) same) c.of_count.ensures;
      invariants = λ f h. weighs_same (cuts_sum f (proc_cuts proc) _ ∙ ap (λ (es : List ℕ). summed (map (λ end. option_map_or f (slice_get (proc_cuts proc) end) 0) es)) same) (summed_at (map f (proc_cuts proc)) c.as_slice-reached.ensures c.total_at-3.ensures h);
      stops = weighs_same (ap (λ (cs : List Cut). length (filter (block_end cs) c.as_slice-reached.result.now)) (c.as_slice.ensures ∙ c.requires.cuts) ∙ ap (λ (es : List ℕ). length (filter (block_end (proc_cuts proc)) es)) (c.as_slice-reached.ensures ∙ same)) c.block_ends.ensures;
    }
