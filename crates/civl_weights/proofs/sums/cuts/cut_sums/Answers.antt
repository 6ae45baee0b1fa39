use Rattle.std.proofs.Common.{sym, ◌-◌}
use Rattle.civl_tree.specs.declared.stmt.Stmt.{out-Stmt}
use Rattle.civl_meaning.specs.Layers.{program_at}
use Rattle.civl_linear.specs.Cuts.{held_of}
use Rattle.civl_conditions.specs.paths.Ends.{ends_from}
use Rattle.civl_conditions.specs.declared.condition.Part.TheVariants.{Stutter, Perform, Rank}
use Rattle.civl_conditions.specs.Assumed.{cut_invariant}
use Rattle.civl_conditions.specs.Variables.{layer_choices}
use Rattle.civl_conditions.specs.Weights.{note_weight, maybe_weight, layer_weight, part_weight}
use Rattle.civl_weighing.specs.Bits.{choices_bits}
use Rattle.civl_weighing.proofs.Capping.{sum_weighs, product_weighs, linear_weighs, weighs_same}
use Rattle.civl_weighing.proofs.Listing.{lengths_at}
use Rattle.civl_weights.proofs.sums.Meeting.{each_one, each_same}
use Rattle.civl_weights.proofs.sums.Pathing.{path_bits_are, choices_are, invariants_are}
use Rattle.civl_weights.proofs.sums.cuts.cut_sums.Goals as goal

pub returns : goal.returns
returns c =
    let program = c.args.program.now in
    let step = c.args.step.now.step in
    let proc = c.args.proc.now in
    let cut = c.args.cut in
    let ends = ends_from proc cut in
    let met = c.requires.met in
    let items = sum_weighs c.plus-items.ensures (lengths_at (held_of program proc) c.args.number c.as_slice.ensures c.requires.notes.items c.weight_at.ensures) c.requires.globals in
    record {
      variables = weighs_same (sym (path_bits_are program step proc cut))
          (c.path_bits.ensures.is _ _ c.requires.step.near (weighs_same (choices_are program step proc cut) (met.choices (λ s. choices_bits (layer_choices (program_at program (step - 1)) (out-Stmt s))) c.requires.body.choices)));
      base = sum_weighs c.plus-3.ensures (sum_weighs c.plus-2.ensures (sum_weighs c.plus.ensures c.requires.step.together c.requires.note) c.requires.body.gate) (linear_weighs c.linear.ensures items);
      passed = met.passed (λ s. layer_weight (program_at program (step - 1)) proc s (out-Stmt s)) c.requires.body.weights;
      gate = weighs_same (each_one ends) met.ends;
      invariant = weighs_same (invariants_are program step proc cut) (sum_weighs c.plus-4.ensures met.ends (met.invariants (λ k. maybe_weight (note_weight program proc) (cut_invariant proc k)) c.requires.notes.invariants));
      stutter = weighs_same (sym (each_same (part_weight program step proc cut Stutter 0) ends)) (product_weighs c.times.ensures met.ends c.requires.body.stutter);
      perform = weighs_same (sym (each_same (part_weight program step proc cut Perform 0) ends)) (product_weighs c.times-2.ensures met.ends c.requires.body.perform);
      rank = weighs_same (sym (each_same (part_weight program step proc cut Rank 0) ends)) (product_weighs c.times-3.ensures met.ends (sum_weighs c.plus-5.ensures c.of-one.ensures c.requires.rank));
      stops = met.stops;
      items = items;
    }
