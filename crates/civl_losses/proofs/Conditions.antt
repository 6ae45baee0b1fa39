-- A loss is told exactly where values violate a condition on a path.
use Rattle.std.proofs.Common.{◌≡◌, ℕ, Bool, false, ◌&&◌, List, ◌++◌, Option, None, Some, refl, ap, ◌∙◌, slice_get}
use Rattle.std.specs.Prelude.{is_some}
use Rattle.std.specs.Option.{option_map_or}
use Rattle.civl_bits.specs.declared.value.Value.{Value}
use Rattle.civl_tree.specs.declared.program.Proc.{Proc}
use Rattle.civl_tree.specs.declared.program.Program.{Program}
use Rattle.civl_meaning.specs.Permissions.{pairwise_disjoint}
use Rattle.civl_layers.specs.declared.cut.Cut.{Cut}
use Rattle.civl_layers.specs.Cuts.{proc_cuts}
use Rattle.civl_conditions.specs.paths.Paths.{Progress, Outcome, path_from}
use Rattle.civl_conditions.specs.declared.condition.Part.{Part}
use Rattle.civl_conditions.specs.declared.condition.Target.{Target}
use Rattle.civl_conditions.specs.declared.condition.Condition.TheVariants.{Start, Keep, Pair, Fire, Path, Block, Act}
use Rattle.civl_conditions.specs.Steps.{of_cut}
use Rattle.civl_conditions.specs.Values.{Begun, begun, layout}
use Rattle.civl_conditions.specs.Assumed.{assumed, owned}
use Rattle.civl_conditions.specs.Parts.{at_block_end, part_fails, path_fails}
use Rattle.civl_conditions.specs.Targets.{target_lost, target_owned, block_fails}
use Rattle.civl_conditions.specs.Violated.{violated}
use Rattle.civl_traces.specs.Laws.{EndsSo, TracesAreOfPaths, TracesEndSo}
use Rattle.civl_traces.specs.Told.{told}
use Rattle.civl_traces.specs.Traces.{Trace, trace_from}
use Rattle.civl_losses.specs.declared.loss.Loss.{Loss}
use Rattle.civl_losses.specs.Losses.{course_of, part_loss, target_loss, path_loss, block_loss, loss}
use Rattle.civl_losses.specs.Laws.{LossesAreTold}
use Rattle.civl_losses.proofs.Told.{where_told}
use Rattle.civl_losses.proofs.Parts.{part_told, target_told, both_and}

module _ {A : Type 0} where
  found_told : (o : Option A) (f : A → Option Loss) (g : A → Bool) → ((x : A) → is_some (f x) ≡ g x) → is_some (option_map_or f o None) ≡ option_map_or g o false
  found_told None f g h = refl
  found_told (Some x) f g h = h x

cut_told : (program : Program) (q c : ℕ) (f : Proc → Cut → Option Loss) (g : Proc → Cut → Bool) → ((proc : Proc) (cut : Cut) → is_some (f proc cut) ≡ g proc cut)
    → is_some (of_cut program q c None f) ≡ of_cut program q c false g
cut_told program q c f g h =
    found_told (slice_get program.procs q) (λ proc. option_map_or (f proc) (slice_get (proc_cuts proc) c) None) (λ proc. option_map_or (g proc) (slice_get (proc_cuts proc) c) false)
    (λ proc. found_told (slice_get (proc_cuts proc) c) (f proc) (g proc) (h proc))

module _ (of_paths : TracesAreOfPaths) (end_so : TracesEndSo) (program : Program) (step : ℕ) (proc : Proc) (c : ℕ) (cut : Cut) (b : Begun) where
  abbrev first : Progress
  first = record { store = b.store; locals = b.locals; done = b.done; again = false }

  abbrev trace : Trace
  trace = trace_from (course_of program step proc b) cut first

  comes : trace.outcome ≡ path_from (course_of program step proc b) cut first
  comes = of_paths (course_of program step proc b) cut first

  ends : EndsSo (course_of program step proc b) trace.at trace.outcome
  ends = end_so (course_of program step proc b) cut first

  path_told : (part : Part) → is_some (path_loss program step part proc c cut b) ≡ path_fails program step part proc c cut b
  path_told part =
      where_told (assumed program step proc c cut b) (part_loss program step proc c cut b (told trace) part) (part_fails program step proc c cut b trace.outcome part) (part_told program step proc c cut b trace ends part)
      ∙ ap (λ (o : Outcome). assumed program step proc c cut b && part_fails program step proc c cut b o part) comes

  block_told : (target : Target) (values : List Value) (at : ℕ) → is_some (block_loss program step proc c cut b target values at) ≡ block_fails program step proc c cut b target values at
  block_told target values at =
      let apart = pairwise_disjoint (owned program proc c b ++ target_owned program target values at) in
      let lost : Outcome → Bool = λ o. at_block_end proc o (λ p. target_lost program step target values at b.old p.store) in
      where_told (assumed program step proc c cut b && apart) (target_loss program step proc b (told trace) target values at) (lost trace.outcome) (target_told program step proc c cut b trace ends target values at)
      ∙ both_and (assumed program step proc c cut b) apart (lost trace.outcome)
      ∙ ap (λ (o : Outcome). assumed program step proc c cut b && (apart && lost o)) comes

pub losses_are_told : TracesAreOfPaths → TracesEndSo → LossesAreTold
unfolding loss violated
losses_are_told of_paths end_so program (Path part step q c) values is =
    cut_told program q c (λ proc cut. path_loss program step part proc c cut (begun program step proc cut values)) (λ proc cut. path_fails program step part proc c cut (begun program step proc cut values))
    (λ proc cut. path_told of_paths end_so program step proc c cut (begun program step proc cut values) part)
losses_are_told of_paths end_so program (Block step q c target) values is =
    cut_told program q c (λ proc cut. block_loss program step proc c cut (begun program step proc cut values) target values (layout program step proc cut).behind)
    (λ proc cut. block_fails program step proc c cut (begun program step proc cut values) target values (layout program step proc cut).behind)
    (λ proc cut. block_told of_paths end_so program step proc c cut (begun program step proc cut values) target values (layout program step proc cut).behind)
losses_are_told of_paths end_so program (Start step i) values is = cc
losses_are_told of_paths end_so program (Keep step x) values is = cc
losses_are_told of_paths end_so program (Pair number step x y) values is = cc
losses_are_told of_paths end_so program (Fire step x) values is = cc
losses_are_told of_paths end_so program (Act step x target) values is = cc
