-- The sorts of a goal's variables are within the limits.
use Rattle.std.specs.Prelude.{map, filter, codes, Bool, All, IsTrue, slice_get}
use Rattle.std.specs.Option.{option_map_or}
use Rattle.std.proofs.Common.{◌≡◌, ℕ, ◌+◌, List, [], ◌++◌, refl, Option, Some, None}
use Rattle.std.proofs.lemmas.List.Elements.{All-nil, All-append, All-map, All-filter}
use Rattle.civl_firing.specs.values.Values.{is_sort}
use Rattle.civl_tree.specs.declared.expr.Sort.{Sort}
use Rattle.civl_tree.specs.declared.stmt.Stmt.{Stmt, out-Stmt}
use Rattle.civl_tree.specs.declared.program.Global.{Global}
use Rattle.civl_tree.specs.declared.program.Proc.{Proc}
use Rattle.civl_tree.specs.declared.program.Program.{Program}
use Rattle.civl_tree.specs.Numbering.{statement_at}
use Rattle.civl_tree.specs.rules.Rules.{Keeps}
use Rattle.civl_tree.specs.rules.Typing.{typing_rules}
use Rattle.civl_meaning.specs.Layers.{topmost}
use Rattle.civl_conditions.specs.declared.condition.Condition.TheVariants.{Keep as KeepsPermissions}
use Rattle.civl_conditions.specs.declared.condition.Variable.{Variable}
use Rattle.civl_conditions.specs.Variables.{of_globals, of_params, of_choices, of_locals, layer_choices, call_front}
use Rattle.civl_states.proofs.Limits.{AreSorts, global_sorts_are, proc_param_sorts_are, proc_out_sorts_are, local_sorts_are}
use Rattle.civl_verdicts.proofs.findings.Sorted.{variables_have_sorts, of_sorts, IsGood, each_of}
use Rattle.civl_goals.specs.declared.goal.Goal.{Goal}
use Rattle.civl_goals.specs.declared.goal.Goal.TheVariants as goal
use Rattle.civl_goals.specs.Outlines.{exists_on_top, top_globals}
use Rattle.civl_goals.specs.Variables.{of_names, of_frame, choices_at, of_statement, variables}
use Rattle.civl_goal_terms.proofs.Choosing.{form_few}

some_of : (test : Global → Bool) (gs : List Global) → AreSorts (map (λ g. g.sort) gs) → AreSorts (map (λ g. g.sort) (filter test gs))
some_of test gs p =
    let In : Sort → Type 0 = λ s. IsTrue (is_sort s) in
    All-map In (λ (g : Global). g.sort) (filter test gs) (All-filter test (λ (g : Global). In g.sort) gs (each_of (λ (g : Global). g.sort) gs p))

none_are : AreSorts []
none_are = All-nil (λ s. IsTrue (is_sort s))

module _ (program : Program) (keeps : Keeps typing_rules program) where
  -- ---- the choices of a call

  choices_are : (r s : ℕ) → AreSorts (map (λ c. c.sort) (choices_at program r s))
  choices_are r s = in_proc (slice_get program.procs r)
    where
      in_body : (o : Option Stmt) → AreSorts (map (λ c. c.sort) (option_map_or (λ stmt. layer_choices (topmost program) (out-Stmt stmt)) o []))
      in_body None = none_are
      in_body (Some stmt) = (form_few program keeps (out-Stmt stmt)).0

      in_proc : (o : Option Proc) → AreSorts (map (λ c. c.sort) (option_map_or (λ proc. option_map_or (λ stmt. layer_choices (topmost program) (out-Stmt stmt)) (statement_at proc.body s) []) o []))
      in_proc None = none_are
      in_proc (Some proc) = in_body (statement_at proc.body s)

  -- ---- groups of variables

  names_good : (front : List ℕ) (q : ℕ) (proc : Proc) → slice_get program.procs q ≡ Some proc → All IsGood (of_names front proc)
  names_good front q proc at =
      All-append IsGood (of_params front proc.params) (of_params front proc.outs ++ of_locals front proc.locals) (of_sorts (λ p. p.name) (λ p. p.sort) front proc.params (proc_param_sorts_are program keeps q proc at))
      (All-append IsGood (of_params front proc.outs) (of_locals front proc.locals) (of_sorts (λ p. p.name) (λ p. p.sort) front proc.outs (proc_out_sorts_are program keeps q proc at)) (of_sorts (λ l. l.name) (λ l. l.sort) front proc.locals (local_sorts_are program keeps q proc at)))

  frame_good : (front : List ℕ) (q : ℕ) → All IsGood (of_frame front program q)
  frame_good front q = by (slice_get program.procs q) refl
    where
      by : (o : Option Proc) → slice_get program.procs q ≡ o → All IsGood (option_map_or (of_names front) o [])
      by None e = All-nil IsGood
      by (Some proc) e = names_good front q proc e

  statement_good : (r s : ℕ) → All IsGood (of_statement program r s)
  statement_good r s =
      All-append IsGood (of_globals [] (top_globals program)) (of_frame [] program r ++ of_choices (call_front s) (choices_at program r s))
      (of_sorts (λ g. g.name) (λ g. g.sort) [] (top_globals program) (some_of (exists_on_top program) program.globals (global_sorts_are program keeps)))
      (All-append IsGood (of_frame [] program r) (of_choices (call_front s) (choices_at program r s)) (frame_good [] r) (of_sorts (λ c. c.name) (λ c. c.sort) (call_front s) (choices_at program r s) (choices_are r s)))

  -- ---- all

  mapped : (vs : List Variable) → All IsGood vs → AreSorts (map (λ v. v.sort) vs)
  mapped vs h = All-map (λ (s : Sort). IsTrue (is_sort s)) (λ (v : Variable). v.sort) vs h

  globals_are : AreSorts (map (λ v. v.sort) (of_globals [] program.globals))
  globals_are = mapped (of_globals [] program.globals) (of_sorts (λ g. g.name) (λ g. g.sort) [] program.globals (global_sorts_are program keeps))

  pub goal_variables_have_sorts : (g : Goal) → AreSorts (map (λ v. v.sort) (variables program g))
  unfolding variables
  goal_variables_have_sorts goal.Invariant = globals_are
  goal_variables_have_sorts (goal.Thread i) = globals_are
  goal_variables_have_sorts (goal.Linear x) = variables_have_sorts program (KeepsPermissions (program.layers + 1) x) keeps
  goal_variables_have_sorts (goal.Safe r s) = mapped (of_statement program r s) (statement_good r s)
  goal_variables_have_sorts (goal.Keep r s) = mapped (of_statement program r s) (statement_good r s)
  goal_variables_have_sorts (goal.Spawn r s) = mapped (of_statement program r s) (statement_good r s)
  goal_variables_have_sorts (goal.Next r s) = mapped (of_statement program r s) (statement_good r s)
  goal_variables_have_sorts (goal.Other r s q t) =
      mapped (of_statement program r s ++ of_frame (codes "other.") program q) (All-append IsGood (of_statement program r s) (of_frame (codes "other.") program q) (statement_good r s) (frame_good (codes "other.") q))
