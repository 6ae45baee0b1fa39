-- The sorts of a goal's variables are those of its groups.
use Rattle.std.specs.Prelude.{map, filter, slice_get, codes}
use Rattle.std.specs.Option.{option_map_or}
use Rattle.std.proofs.Common.{◌≡◌, ◌∙◌, ◌≤◌, ◌+◌, ◌-◌, ℕ, List, [], ◌++◌, length, sym, ap, append-nil, arith, Option, None}
use Rattle.std.proofs.lemmas.Option.{slice_get_past}
use Rattle.civl_tree.specs.declared.expr.Sort.{Sort}
use Rattle.civl_tree.specs.declared.program.Proc.{Proc}
use Rattle.civl_tree.specs.declared.program.Program.{Program}
use Rattle.civl_conditions.specs.footprints.Agreement.{exists_at}
use Rattle.civl_meaning.specs.Config.{frame_sorts}
use Rattle.civl_conditions.specs.declared.condition.Condition.TheVariants.{Keep as KeepsPermissions}
use Rattle.civl_conditions.specs.Steps.{of_action}
use Rattle.civl_conditions.specs.Variables.{of_globals, of_params, of_locals, of_choices, of_instance, call_front, lower_globals, variables as condition_variables}
use Rattle.civl_states.specs.Runs.{instance_sorts}
use Rattle.civl_states.proofs.Starting.{join, globals_sorts, params_sorts, choices_sorts, locals_sorts}
use Rattle.civl_states.proofs.Variables.{instance_named}
use Rattle.civl_states.proofs.Grouping.{of_option}
use Rattle.civl_goals.specs.declared.goal.Goal.{Goal}
use Rattle.civl_goals.specs.declared.goal.Goal.TheVariants as goal
use Rattle.civl_goals.specs.Outlines.{top_globals}
use Rattle.civl_goals.specs.Variables.{of_names, of_frame, choices_at, of_statement, variables}
use Rattle.civl_goal_terms.specs.Formulas.{sorts_of}
use Rattle.civl_goal_terms.specs.inner.Sorted.{top_sorts, sorts_in_frame, choices_in, chosen_sorts, statement_sorts, grouped_sorts}

-- nothing stands where there is no procedure with this number
pub chosen_none : (program : Program) (s : ℕ) (list : List Sort) (shown : List Proc) (r : ℕ) → shown ≡ program.procs → length shown ≤ r → list ≡ list ++ chosen_sorts program r s
chosen_none program s list shown r e past =
    let none : slice_get program.procs r ≡ None = ap (λ (ps : List Proc). slice_get ps r) (sym e) ∙ slice_get_past shown r past in
    sym (ap (λ (o : Option Proc). list ++ map (λ c. c.sort) (option_map_or (λ proc. choices_in program proc s) o [])) none ∙ append-nil list)

pub names_are : (front : List ℕ) (proc : Proc) → map (λ v. v.sort) (of_names front proc) ≡ frame_sorts proc
names_are front proc =
    join (of_params front proc.params) (of_params front proc.outs ++ of_locals front proc.locals) _ _ (params_sorts front proc.params)
    (join (of_params front proc.outs) (of_locals front proc.locals) _ _ (params_sorts front proc.outs) (locals_sorts front proc.locals))

module _ (program : Program) where
  pub frame_are : (front : List ℕ) (r : ℕ) → map (λ v. v.sort) (of_frame front program r) ≡ sorts_in_frame program r
  frame_are front r = of_option (of_names front) frame_sorts (names_are front) (slice_get program.procs r)

  pub statement_are : (r s : ℕ) → map (λ v. v.sort) (of_statement program r s) ≡ statement_sorts program r s
  statement_are r s =
      join (of_globals [] (top_globals program)) (of_frame [] program r ++ of_choices (call_front s) (choices_at program r s)) _ _ (globals_sorts [] (top_globals program))
      (join (of_frame [] program r) (of_choices (call_front s) (choices_at program r s)) _ _ (frame_are [] r) (choices_sorts (call_front s) (choices_at program r s)))

  linear_are : (x : ℕ) → map (λ v. v.sort) (condition_variables program (KeepsPermissions (program.layers + 1) x)) ≡ top_sorts program ++ of_action program x [] instance_sorts
  unfolding condition_variables
  linear_are x =
      let top : program.layers + 1 - 1 ≡ program.layers = omega arith in
      join (lower_globals program (program.layers + 1)) (of_action program x [] (of_instance (codes "X."))) _ _
      (globals_sorts [] (filter (exists_at (program.layers + 1 - 1)) program.globals) ∙ ap (λ (k : ℕ). map (λ g. g.sort) (filter (exists_at k) program.globals)) top)
      (of_option (of_instance (codes "X.")) instance_sorts (instance_named (codes "X.")) (slice_get program.actions x))

  pub grouped_are : (g : Goal) → grouped_sorts program g ≡ sorts_of program g
  unfolding variables
  grouped_are goal.Invariant = sym (globals_sorts [] program.globals)
  grouped_are (goal.Thread i) = sym (globals_sorts [] program.globals)
  grouped_are (goal.Linear x) = sym (linear_are x)
  grouped_are (goal.Safe r s) = sym (statement_are r s)
  grouped_are (goal.Keep r s) = sym (statement_are r s)
  grouped_are (goal.Spawn r s) = sym (statement_are r s)
  grouped_are (goal.Next r s) = sym (statement_are r s)
  grouped_are (goal.Other r s q t) = sym (join (of_statement program r s) (of_frame (codes "other.") program q) _ _ (statement_are r s) (frame_are (codes "other.") q))
