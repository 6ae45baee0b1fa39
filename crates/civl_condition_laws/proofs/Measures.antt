-- The variables and the weight of a condition at a cut, from what is known of the cut.
use Rattle.std.proofs.Common.{◌≡◌, ℕ, ◌+◌, ◌-◌, ◌*◌, not, List, [], ◌∷◌, ◌++◌, length, Option, ap, ◌∙◌}
use Rattle.std.specs.Prelude.{map, filter, codes}
use Rattle.std.specs.Option.{option_map_or}
use Rattle.civl_tree.specs.declared.stmt.Stmt.{out-Stmt}
use Rattle.civl_tree.specs.declared.action.Choice.{Choice}
use Rattle.civl_tree.specs.declared.program.Proc.{Proc}
use Rattle.civl_tree.specs.declared.program.Program.{Program}
use Rattle.civl_meaning.specs.Layers.{program_at}
use Rattle.civl_layers.specs.declared.cut.Cut.{Cut}
use Rattle.civl_layers.specs.Cuts.{proc_cuts}
use Rattle.civl_conditions.specs.paths.Flows.{Flow}
use Rattle.civl_conditions.specs.paths.Ends.{is_entry, is_rank_loop, ends_block, reaches, ends_among}
use Rattle.civl_conditions.specs.declared.condition.Condition.TheVariants.{Path, Block}
use Rattle.civl_conditions.specs.declared.condition.Part.{Part}
use Rattle.civl_conditions.specs.declared.condition.Target.{Target}
use Rattle.civl_conditions.specs.declared.condition.Target.TheVariants as target
use Rattle.civl_conditions.specs.declared.condition.Variable.{Variable}
use Rattle.civl_conditions.specs.Steps.{step_invariants, of_cut}
use Rattle.civl_conditions.specs.Variables.{near_globals, where_has, of_params, of_locals, flag, of_passed, path_variables, other_variables, variables}
use Rattle.civl_conditions.specs.Permissions.{held_at}
use Rattle.civl_conditions.specs.Assumed.{refined_action, cut_invariant}
use Rattle.civl_firing.specs.values.ActionWeights.{gate_weight}
use Rattle.civl_conditions.specs.Weights.{summed, lin, bits_of_variables, weights_of, global_weight, note_weight, maybe_weight, linear_globals, layer_weight, part_weight, path_weight, target_weight, together, block_weight, weight}
use Rattle.civl_condition_laws.proofs.Facts.{IsCut, choices_in, of_cut_is}

-- ---- variables

abbrev pub path_variables_by : Program → ℕ → Proc → Cut → List (ℕ × List Choice) → List Variable
path_variables_by program step proc cut calls =
    near_globals [] program step
    ++ (where_has (is_rank_loop cut.kind) (near_globals (codes "old.") program step)
    ++ (of_params [] proc.params
    ++ (where_has (not (is_entry cut.kind)) (of_params [] proc.outs ++ of_locals [] proc.locals)
    ++ (where_has (is_rank_loop cut.kind) (of_params (codes "old.") proc.outs)
    ++ (where_has (not (is_entry cut.kind)) (flag (codes "done") ∷ [])
    ++ (where_has (is_rank_loop cut.kind) (flag (codes "old.done") ∷ [])
    ++ of_passed calls))))))

-- ---- weights

abbrev pub base_weight_by : Program → ℕ → Proc → Cut → List ℕ → ℕ
base_weight_by program step proc cut held =
    weights_of (global_weight program) (step_invariants program step)
    + maybe_weight (note_weight program proc) (cut_invariant proc cut)
    + option_map_or (gate_weight program) (refined_action program proc) 0
    + lin program (length held + linear_globals program)

abbrev pub passed_weight_by : Program → ℕ → Proc → Flow → ℕ
passed_weight_by program step proc paths = summed (map (λ q. layer_weight (program_at program (step - 1)) proc q.1 (out-Stmt q.1)) paths.passed)

abbrev pub ends_by : Proc → Flow → List ℕ
ends_by proc paths = ends_among (reaches proc paths) 0 (proc_cuts proc)

abbrev pub path_weight_by : Program → ℕ → Part → Proc → Cut → Flow → List ℕ → ℕ
path_weight_by program step part proc cut paths held =
    base_weight_by program step proc cut held + passed_weight_by program step proc paths + summed (map (part_weight program step proc cut part) (ends_by proc paths))

-- with the weight of the target, and that of the items of both
abbrev pub block_weight_of : Program → ℕ → Proc → Cut → Flow → List ℕ → ℕ → ℕ → ℕ
block_weight_of program step proc cut paths held weight both =
    base_weight_by program step proc cut held + passed_weight_by program step proc paths
    + length (filter (ends_block proc) (ends_by proc paths)) * (weight + 1)
    + weight
    + both

abbrev pub block_weight_by : Program → ℕ → Proc → Cut → Target → Flow → List ℕ → ℕ
block_weight_by program step proc cut target paths held =
    block_weight_of program step proc cut paths held (target_weight program step target) (together program (length held + linear_globals program) target)

module _ (program : Program) (step q c : ℕ) (proc : Proc) (cut : Cut) (paths : Flow) (held : List ℕ) (is : IsCut program q c proc cut paths held) where
  cut_variables : of_cut program q c [] (path_variables program step) ≡ path_variables_by program step proc cut (choices_in program step paths.passed)
  cut_variables =
      of_cut_is program q c proc cut [] (path_variables program step) is.proc_is is.cut_is
      ∙ ap (λ (f : Flow). path_variables_by program step proc cut (choices_in program step f.passed)) is.paths_are

  -- K9
  pub variables_at : (part : Part) → variables program (Path part step q c) ≡ path_variables_by program step proc cut (choices_in program step paths.passed)
  unfolding variables
  variables_at part = cut_variables

  pub weight_at : (part : Part) → weight program (Path part step q c) ≡ bits_of_variables (path_variables_by program step proc cut (choices_in program step paths.passed)) + path_weight_by program step part proc cut paths held
  unfolding weight
  weight_at part =
      ap (λ (vs : List Variable). bits_of_variables vs + of_cut program q c 0 (λ r t. path_weight program step part r c t)) (variables_at part)
      ∙ ap (λ (n : ℕ). bits_of_variables (path_variables_by program step proc cut (choices_in program step paths.passed)) + n) (
      of_cut_is program q c proc cut 0 (λ r t. path_weight program step part r c t) is.proc_is is.cut_is
      ∙ ap (λ (f : Flow). path_weight_by program step part proc cut f (held_at program proc c)) is.paths_are
      ∙ ap (λ (ns : List ℕ). path_weight_by program step part proc cut paths ns) is.held_are
      )

  -- K10
  pub block_variables_at : (t : Target) → variables program (Block step q c t) ≡ path_variables_by program step proc cut (choices_in program step paths.passed) ++ other_variables program t
  unfolding variables
  block_variables_at t = ap (λ (vs : List Variable). vs ++ other_variables program t) cut_variables

  pub block_weight_at : (t : Target) → weight program (Block step q c t) ≡ bits_of_variables (path_variables_by program step proc cut (choices_in program step paths.passed) ++ other_variables program t) + block_weight_by program step proc cut t paths held
  unfolding weight
  block_weight_at t =
      ap (λ (vs : List Variable). bits_of_variables vs + of_cut program q c 0 (λ r u. block_weight program step r c u t)) (block_variables_at t)
      ∙ ap (λ (n : ℕ). bits_of_variables (path_variables_by program step proc cut (choices_in program step paths.passed) ++ other_variables program t) + n) (
      of_cut_is program q c proc cut 0 (λ r u. block_weight program step r c u t) is.proc_is is.cut_is
      ∙ ap (λ (f : Flow). block_weight_by program step proc cut t f (held_at program proc c)) is.paths_are
      ∙ ap (λ (ns : List ℕ). block_weight_by program step proc cut t paths ns) is.held_are
      )

  -- of a yield as the target
  pub target_weight_is : target_weight program step (target.Yield q c) ≡ maybe_weight (note_weight program proc) (cut_invariant proc cut)
  target_weight_is = of_cut_is program q c proc cut 0 (λ r u. maybe_weight (note_weight program r) (cut_invariant r u)) is.proc_is is.cut_is

  pub together_is : (items : ℕ) → together program items (target.Yield q c) ≡ lin program (items + length held)
  together_is items =
      ap (λ (o : Option Proc). lin program (items + option_map_or (λ r. length (held_at program r c)) o 0)) is.proc_is ∙ ap (λ (ns : List ℕ). lin program (items + length ns)) is.held_are

-- K10 with a yield as the target
pub yield_weight_at : (program : Program) (step q c r y : ℕ) (proc proc2 : Proc) (cut cut2 : Cut) (paths paths2 : Flow) (held held2 : List ℕ) → IsCut program q c proc cut paths held → IsCut program r y proc2 cut2 paths2 held2 →
    weight program (Block step q c (target.Yield r y)) ≡ bits_of_variables (path_variables_by program step proc cut (choices_in program step paths.passed) ++ other_variables program (target.Yield r y)) + block_weight_of program step proc cut paths held (maybe_weight (note_weight program proc2) (cut_invariant proc2 cut2)) (lin program (length held + linear_globals program + length held2))
yield_weight_at program step q c r y proc proc2 cut cut2 paths paths2 held held2 is is2 =
    let vs : List Variable = path_variables_by program step proc cut (choices_in program step paths.passed) ++ other_variables program (target.Yield r y) in
    block_weight_at program step q c proc cut paths held is (target.Yield r y)
    ∙ ap (λ (w : ℕ). bits_of_variables vs + block_weight_of program step proc cut paths held w (together program (length held + linear_globals program) (target.Yield r y))) (target_weight_is program step r y proc2 cut2 paths2 held2 is2)
    ∙ ap (λ (n : ℕ). bits_of_variables vs + block_weight_of program step proc cut paths held (maybe_weight (note_weight program proc2) (cut_invariant proc2 cut2)) n) (together_is program step r y proc2 cut2 paths2 held2 is2 (length held + linear_globals program))
