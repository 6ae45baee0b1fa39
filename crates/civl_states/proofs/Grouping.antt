-- The sorts of a condition's variables are those of its groups.
use Rattle.std.specs.Prelude.{map, filter, slice_get, codes}
use Rattle.std.specs.Option.{option_map_or}
use Rattle.std.proofs.Common.{◌≡◌, ◌∙◌, ℕ, ◌-◌, true, List, [], ◌∷◌, ◌++◌, refl, sym, ap, append_assoc, append-nil, length, ◌≤◌, Option, Some, None}
use Rattle.std.proofs.lemmas.Option.{slice_get_past}
use Rattle.civl_tree.specs.declared.expr.Sort.{Sort}
use Rattle.civl_tree.specs.declared.expr.Sort.TheVariants.{Bool as Truth}
use Rattle.civl_tree.specs.declared.action.Action.{Action}
use Rattle.civl_tree.specs.declared.program.Global.{Global}
use Rattle.civl_tree.specs.declared.program.Proc.{Proc}
use Rattle.civl_tree.specs.declared.program.Program.{Program}
use Rattle.civl_tree.specs.rules.Uses.{param_sorts}
use Rattle.civl_layers.specs.Cuts.{proc_cuts}
use Rattle.civl_conditions.specs.footprints.Agreement.{exists_at}
use Rattle.civl_conditions.specs.paths.Seen.{exists_near}
use Rattle.civl_conditions.specs.declared.condition.Variable.{Variable}
use Rattle.civl_conditions.specs.declared.condition.Condition.{Condition}
use Rattle.civl_conditions.specs.declared.condition.Condition.TheVariants.{Start, Keep, Pair, Fire, Path, Block, Act}
use Rattle.civl_conditions.specs.declared.condition.Target.{Target}
use Rattle.civl_conditions.specs.declared.condition.Target.TheVariants as target
use Rattle.civl_conditions.specs.Variables.{variables, of_params, of_locals, of_instance, flag, lower_globals, near_globals, path_variables, other_variables}
use Rattle.civl_conditions.specs.Steps.{of_action, of_cut}
use Rattle.civl_states.specs.Formulas.{sorts_of}
use Rattle.civl_states.specs.Runs.{instance_sorts}
use Rattle.civl_states.specs.inner.Sorted.{cut_sorts, grouped_sorts, lower_sorts, other_sorts, thread_sorts}
use Rattle.civl_states.proofs.Starting.{join, globals_sorts, params_sorts, locals_sorts, path_sorts_are}
use Rattle.civl_states.proofs.Variables.{instance_named, params_named}

-- ---- behind others

pub none_behind : {A : Type 0} (f : A → List Sort) (list : List Sort) (shown items : List A) (number : ℕ) → shown ≡ items → length shown ≤ number → list ≡ list ++ option_map_or f (slice_get items number) []
none_behind f list shown items number e past = sym (append-nil list) ∙ sym (rw (← e, slice_get_past shown number past) refl)

pub two_behind : (list a b : List Sort) → list ++ a ++ b ≡ list ++ (a ++ b)
two_behind list a b = simp append_assoc

pub three_behind : (list a b c : List Sort) → list ++ a ++ b ++ c ≡ list ++ (a ++ (b ++ c))
three_behind list a b c = simp append_assoc

pub four_behind : (list a b c d : List Sort) → list ++ a ++ b ++ c ++ d ≡ list ++ (a ++ (b ++ (c ++ d)))
four_behind list a b c d = simp append_assoc

pub eight_behind : (list a b c d e f g h : List Sort) → list ++ a ++ b ++ c ++ d ++ e ++ f ++ g ++ h ≡ list ++ (a ++ (b ++ (c ++ (d ++ (e ++ (f ++ (g ++ h)))))))
eight_behind list a b c d e f g h = simp append_assoc

-- ---- the groups

pub of_option : {A : Type 0} (f : A → List Variable) (g : A → List Sort) (same : (x : A) → map (λ v. v.sort) (f x) ≡ g x) (o : Option A) → map (λ v. v.sort) (option_map_or f o []) ≡ option_map_or g o []
of_option f g same None = refl
of_option f g same (Some x) = same x

all_kept : (gs : List Global) → filter (λ (g : Global). true) gs ≡ gs
all_kept [] = refl
all_kept (g ∷ gs) = ap (λ (hs : List Global). g ∷ hs) (all_kept gs)

module _ (program : Program) where
  lower_are : (step : ℕ) → map (λ v. v.sort) (lower_globals program step) ≡ lower_sorts program step
  lower_are step = globals_sorts [] (filter (exists_at (step - 1)) program.globals)

  instance_are : (front : List ℕ) (x : ℕ) → map (λ v. v.sort) (of_action program x [] (of_instance front)) ≡ of_action program x [] instance_sorts
  instance_are front x = of_option (of_instance front) instance_sorts (instance_named front) (slice_get program.actions x)

  thread_are : (proc : Proc)
      → map (λ v. v.sort) (of_params (codes "other.") proc.params ++ (of_params (codes "other.") proc.outs ++ (of_locals (codes "other.") proc.locals ++ flag (codes "other.done") ∷ []))) ≡ thread_sorts proc
  thread_are proc =
      let rest = of_locals (codes "other.") proc.locals ++ flag (codes "other.done") ∷ [] in
      join (of_params (codes "other.") proc.params) (of_params (codes "other.") proc.outs ++ rest) _ _ (params_sorts (codes "other.") proc.params)
      (join (of_params (codes "other.") proc.outs) rest _ _ (params_sorts (codes "other.") proc.outs)
      (join (of_locals (codes "other.") proc.locals) (flag (codes "other.done") ∷ []) _ (Truth ∷ []) (locals_sorts (codes "other.") proc.locals) refl))

  other_are : (t : Target) → map (λ v. v.sort) (other_variables program t) ≡ other_sorts program t
  other_are (target.Invariant i) = refl
  other_are (target.Yield r y) = of_option _ thread_sorts thread_are (slice_get program.procs r)

  cut_are : (step q c : ℕ) → map (λ v. v.sort) (of_cut program q c [] (path_variables program step)) ≡ of_cut program q c [] (cut_sorts program step)
  cut_are step q c =
      of_option _ (λ (proc : Proc). option_map_or (cut_sorts program step proc) (slice_get (proc_cuts proc) c) [])
      (λ proc. of_option (path_variables program step proc) (cut_sorts program step proc) (λ cut. path_sorts_are program step proc cut) (slice_get (proc_cuts proc) c)) (slice_get program.procs q)

  pub grouped_are : (condition : Condition) → grouped_sorts program condition ≡ sorts_of program condition
  unfolding variables
  grouped_are (Start step i) = ap (map (λ (g : Global). g.sort)) (all_kept program.globals) ∙ sym (globals_sorts [] program.globals)
  grouped_are (Keep step x) = sym (join (lower_globals program step) _ _ _ (lower_are step) (instance_are (codes "X.") x))
  grouped_are (Pair number step x y) =
      sym (join (lower_globals program step) _ _ _ (lower_are step) (join (of_action program x [] (of_instance (codes "X."))) _ _ _ (instance_are (codes "X.") x) (instance_are (codes "Y.") y)))
  grouped_are (Fire step x) = sym (join (lower_globals program step) _ _ _ (lower_are step) (of_option _ (λ (a : Action). param_sorts a.params) (params_named (codes "X.")) (slice_get program.actions x)))
  grouped_are (Path part step q c) = sym (cut_are step q c)
  grouped_are (Block step q c t) = sym (join (of_cut program q c [] (path_variables program step)) _ _ _ (cut_are step q c) (other_are t))
  grouped_are (Act step x t) =
      sym (join (near_globals [] program step) _ _ _ (globals_sorts [] (filter (exists_near step) program.globals)) (join (of_action program x [] (of_instance (codes "X."))) _ _ _ (instance_are (codes "X.") x) (other_are t)))
