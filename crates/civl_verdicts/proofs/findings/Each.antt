-- What holds of each global, and of each parameter, output, local and choice of the program's actions and procedures, holds of each
-- variable of a condition.
use Rattle.std.specs.Prelude.{map, filter, slice_get, not, codes, All}
use Rattle.std.specs.Option.{option_map_or}
use Rattle.std.proofs.Common.{◌≡◌, ◌∙◌, ℕ, ◌-◌, Bool, true, false, List, [], ◌∷◌, ◌++◌, refl, sym, Option, None, Some}
use Rattle.std.proofs.lemmas.List.Elements.{All-nil, All-cons, All-append, All-map, All-filter}
use Rattle.std.proofs.lemmas.List.Folds.{find_at}
use Rattle.civl_tree.specs.declared.name.Name.{Name}
use Rattle.civl_tree.specs.declared.stmt.Stmt.{Stmt, out-Stmt}
use Rattle.civl_tree.specs.declared.stmt.Stmt.TheOpen as stmt
use Rattle.civl_tree.specs.declared.action.Action.{Action}
use Rattle.civl_tree.specs.declared.program.Global.{Global}
use Rattle.civl_tree.specs.declared.program.Refines.{Refines}
use Rattle.civl_tree.specs.declared.program.Proc.{Proc}
use Rattle.civl_tree.specs.declared.program.Program.{Program}
use Rattle.civl_tree.specs.rules.Names.{action_named, same_name}
use Rattle.civl_meaning.specs.Meaning.{meaning_of_action, refined, meaning_by, meaning_else, proc_number}
use Rattle.civl_meaning.specs.Layers.{program_at}
use Rattle.civl_layers.specs.declared.cut.Cut.{Cut}
use Rattle.civl_layers.specs.Cuts.{proc_cuts}
use Rattle.civl_conditions.specs.paths.Ends.{is_entry, is_rank_loop}
use Rattle.civl_conditions.specs.paths.Flows.{flow_from}
use Rattle.civl_conditions.specs.paths.Seen.{exists_near}
use Rattle.civl_conditions.specs.footprints.Agreement.{exists_at}
use Rattle.civl_conditions.specs.declared.condition.Condition.{Condition}
use Rattle.civl_conditions.specs.declared.condition.Condition.TheVariants.{Start, Keep, Pair, Fire, Path, Block, Act}
use Rattle.civl_conditions.specs.declared.condition.Target.{Target}
use Rattle.civl_conditions.specs.declared.condition.Target.TheVariants as target
use Rattle.civl_conditions.specs.declared.condition.Variable.{Variable}
use Rattle.civl_conditions.specs.Variables.{variables, variable, of_globals, of_params, of_choices, of_locals, of_instance, of_passed, where_has, lower_globals, near_globals, path_variables, other_variables, flag, call_front, choices_of, layer_choices}

-- What is so of the variables of all declarations, whatever stands before their names of what may stand there.
pub record HoldsOfAll (program : Program) (Front : List ℕ → Type 0) (P : Variable → Type 0) : Type 0 where
  pub none : Front []
  pub old : Front (codes "old.")
  pub first : Front (codes "X.")
  pub second : Front (codes "Y.")
  pub other : Front (codes "other.")
  pub call : (n : ℕ) → Front (call_front n)
  pub globals : (front : List ℕ) → Front front → All (λ (g : Global). P (variable front g.name g.sort)) program.globals
  pub params : (front : List ℕ) → Front front → (x : ℕ) (a : Action) → slice_get program.actions x ≡ Some a → All P (of_params front a.params)
  pub choices : (front : List ℕ) → Front front → (x : ℕ) (a : Action) → slice_get program.actions x ≡ Some a → All P (of_choices front a.choices)
  pub inputs : (front : List ℕ) → Front front → (q : ℕ) (proc : Proc) → slice_get program.procs q ≡ Some proc → All P (of_params front proc.params)
  pub outs : (front : List ℕ) → Front front → (q : ℕ) (proc : Proc) → slice_get program.procs q ≡ Some proc → All P (of_params front proc.outs)
  pub locals : (front : List ℕ) → Front front → (q : ℕ) (proc : Proc) → slice_get program.procs q ≡ Some proc → All P (of_locals front proc.locals)
  pub done : P (flag (codes "done"))
  pub old_done : P (flag (codes "old.done"))
  pub other_done : P (flag (codes "other.done"))

module _ (program : Program) (Front : List ℕ → Type 0) (P : Variable → Type 0) (h : HoldsOfAll program Front P) where
  nothing : All P []
  nothing = All-nil P

  more : (xs ys : List Variable) → All P xs → All P ys → All P (xs ++ ys)
  more xs ys p q = All-append P xs ys p q

  one : (v : Variable) → P v → All P (v ∷ [])
  one v p = All-cons P v [] p nothing

  -- what is said of what is there, if it is
  maybe : {A : Type 0} (o : Option A) (f : A → List Variable) → ((a : A) → o ≡ Some a → All P (f a)) → All P (option_map_or f o [])
  maybe None f k = nothing
  maybe (Some a) f k = k a refl

  where_there : (b : Bool) (vs : List Variable) → All P vs → All P (where_has b vs)
  where_there true vs p = p
  where_there false vs p = nothing

  -- ---- globals

  some_globals : (front : List ℕ) (test : Global → Bool) → Front front → All P (of_globals front (filter test program.globals))
  some_globals front test f =
      All-map P (λ (g : Global). variable front g.name g.sort) (filter test program.globals)
      (All-filter test (λ (g : Global). P (variable front g.name g.sort)) program.globals (h.globals front f))

  -- ---- the choices of the action that a call means

  of_named : (n : ℕ) (name : Name) (o : Option Action) → action_named program name ≡ o → All P (of_choices (call_front n) (choices_of (meaning_of_action o)))
  of_named n name None e = nothing
  of_named n name (Some a) e = h.choices (call_front n) (h.call n) _ a (sym (find_at (λ (x : Action). same_name name x.name) program.actions) ∙ e)

  of_refined : (n : ℕ) (o : Option Refines) → All P (of_choices (call_front n) (choices_of (refined program o)))
  of_refined n None = nothing
  of_refined n (Some r) = of_named n r.action (action_named program r.action) refl

  of_proc : (n : ℕ) (body : Option Bool) (number : ℕ) (o : Option Proc) → All P (of_choices (call_front n) (choices_of (meaning_by program body number o)))
  of_proc n body number None = nothing
  of_proc n None number (Some proc) = nothing
  of_proc n (Some true) number (Some proc) = nothing
  of_proc n (Some false) number (Some proc) = of_refined n proc.refines

  of_called : (n layer : ℕ) (name : Name) (o : Option Action) → action_named program name ≡ o → All P (of_choices (call_front n) (choices_of (meaning_else (program_at program layer) name o)))
  of_called n layer name (Some a) e = of_named n name (Some a) e
  of_called n layer name None e = of_proc n _ (proc_number program name) _

  of_form : (n layer : ℕ) (form : stmt.Stmt-F Stmt) → All P (of_choices (call_front n) (layer_choices (program_at program layer) form))
  of_form n layer (stmt.Call name args results) = of_called n layer name (action_named program name) refl
  of_form n layer _ = nothing

  of_statements : (layer : ℕ) (qs : List (ℕ × Stmt)) → All P (of_passed (map (λ q. (q.0, layer_choices (program_at program layer) (out-Stmt q.1))) qs))
  of_statements layer [] = nothing
  of_statements layer (q ∷ qs) = more _ _ (of_form q.0 layer (out-Stmt q.1)) (of_statements layer qs)

  -- ---- groups of variables

  instance_good : (front : List ℕ) → Front front → (x : ℕ) → All P (option_map_or (of_instance front) (slice_get program.actions x) [])
  instance_good front f x =
      maybe (slice_get program.actions x) (of_instance front) (λ a at. more (of_params front a.params) (of_choices front a.choices) (h.params front f x a at) (h.choices front f x a at))

  params_good : (front : List ℕ) → Front front → (x : ℕ) → All P (option_map_or (λ a. of_params front a.params) (slice_get program.actions x) [])
  params_good front f x = maybe (slice_get program.actions x) (λ (a : Action). of_params front a.params) (λ a at. h.params front f x a at)

  path_good : (step q : ℕ) (proc : Proc) (cut : Cut) → slice_get program.procs q ≡ Some proc → All P (path_variables program step proc cut)
  path_good step q proc cut at =
      let r = is_rank_loop cut.kind in
      let e = not (is_entry cut.kind) in
      more (near_globals [] program step) _ (some_globals [] (exists_near step) h.none)
      (more (where_has r (near_globals (codes "old.") program step)) _ (where_there r _ (some_globals (codes "old.") (exists_near step) h.old))
      (more (of_params [] proc.params) _ (h.inputs [] h.none q proc at)
      (more (where_has e (of_params [] proc.outs ++ of_locals [] proc.locals)) _ (where_there e _ (more (of_params [] proc.outs) (of_locals [] proc.locals) (h.outs [] h.none q proc at) (h.locals [] h.none q proc at)))
      (more (where_has r (of_params (codes "old.") proc.outs)) _ (where_there r _ (h.outs (codes "old.") h.old q proc at))
      (more (where_has e (flag (codes "done") ∷ [])) _ (where_there e _ (one (flag (codes "done")) h.done))
      (more (where_has r (flag (codes "old.done") ∷ [])) _ (where_there r _ (one (flag (codes "old.done")) h.old_done)) (of_statements (step - 1) (flow_from proc cut).passed)))))))

  cut_good : (step q c : ℕ) → All P (option_map_or (λ proc. option_map_or (path_variables program step proc) (slice_get (proc_cuts proc) c) []) (slice_get program.procs q) [])
  cut_good step q c =
      maybe (slice_get program.procs q) (λ proc. option_map_or (path_variables program step proc) (slice_get (proc_cuts proc) c) [])
      (λ proc at. maybe (slice_get (proc_cuts proc) c) (path_variables program step proc) (λ cut there. path_good step q proc cut at))

  frame_good : (r : ℕ) (proc : Proc) → slice_get program.procs r ≡ Some proc
      → All P (of_params (codes "other.") proc.params ++ (of_params (codes "other.") proc.outs ++ (of_locals (codes "other.") proc.locals ++ flag (codes "other.done") ∷ [])))
  frame_good r proc at =
      let front = codes "other." in
      more (of_params front proc.params) _ (h.inputs front h.other r proc at)
      (more (of_params front proc.outs) _ (h.outs front h.other r proc at) (more (of_locals front proc.locals) _ (h.locals front h.other r proc at) (one (flag (codes "other.done")) h.other_done)))

  other_good : (t : Target) → All P (other_variables program t)
  other_good (target.Invariant i) = nothing
  other_good (target.Yield r y) = maybe (slice_get program.procs r) _ (λ proc at. frame_good r proc at)

  pub each_variable : (condition : Condition) → All P (variables program condition)
  unfolding variables
  each_variable (Start step i) = All-map P (λ (g : Global). variable [] g.name g.sort) program.globals (h.globals [] h.none)
  each_variable (Keep step x) = more (lower_globals program step) _ (some_globals [] (exists_at (step - 1)) h.none) (instance_good (codes "X.") h.first x)
  each_variable (Pair number step x y) = more (lower_globals program step) _ (some_globals [] (exists_at (step - 1)) h.none) (more _ _ (instance_good (codes "X.") h.first x) (instance_good (codes "Y.") h.second y))
  each_variable (Fire step x) = more (lower_globals program step) _ (some_globals [] (exists_at (step - 1)) h.none) (params_good (codes "X.") h.first x)
  each_variable (Path part step q c) = cut_good step q c
  each_variable (Block step q c t) = more _ (other_variables program t) (cut_good step q c) (other_good t)
  each_variable (Act step x t) = more (near_globals [] program step) _ (some_globals [] (exists_near step) h.none) (more _ (other_variables program t) (instance_good (codes "X.") h.first x) (other_good t))
