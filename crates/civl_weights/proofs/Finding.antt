-- What is found by numbers: the sums of actions and of cuts.
use Rattle.std.proofs.Common.{◌≡◌, ℕ, zero, suc, ◌+◌, List, [], ◌∷◌, ◌++◌, refl, sym, ap, ◌∙◌, subst, arith, Option, None, Some}
use Rattle.std.specs.Prelude.{slice_get}
use Rattle.std.specs.Option.{option_map_or}
use Rattle.std.specs.List.{AllZip}
use Rattle.civl_tree.specs.declared.action.Action.{Action}
use Rattle.civl_tree.specs.declared.program.Proc.{Proc}
use Rattle.civl_tree.specs.declared.program.Program.{Program}
use Rattle.civl_layers.specs.declared.cut.Cut.{Cut}
use Rattle.civl_layers.specs.Cuts.{proc_cuts}
use Rattle.civl_conditions.specs.declared.condition.Condition.TheVariants.{Path, Block}
use Rattle.civl_conditions.specs.declared.condition.Part.{Part}
use Rattle.civl_conditions.specs.declared.condition.Target.{Target}
use Rattle.civl_conditions.specs.declared.condition.Variable.{Variable}
use Rattle.civl_conditions.specs.Steps.{of_action, of_cut}
use Rattle.civl_conditions.specs.Variables.{variables, path_variables, other_variables}
use Rattle.civl_conditions.specs.Weights.{bits_of_variables, weight, path_weight, block_weight}
use Rattle.civl_weighing.specs.declared.weight.Weight.{Weight}
use Rattle.civl_weights.specs.declared.sums.actions.ActionSums.{ActionSums}
use Rattle.civl_weights.specs.declared.sums.cuts.CutSums.{CutSums}
use Rattle.civl_weights.specs.declared.sums.tables.ProcSums.{ProcSums}
use Rattle.civl_weighing.specs.Weighing.{Weighs}
use Rattle.civl_weights.specs.sums.Sums.{OfAction, OfCut, OfCuts}
use Rattle.civl_weights.specs.sums.Tables.{OfProc}
use Rattle.civl_weights.specs.Kinds.{OfCutAt, OfCutIn, OfCutFound}
use Rattle.civl_weighing.proofs.Capping.{weighs_same}
use Rattle.civl_weights.proofs.sums.Acting.{zip_found, zip_none}

-- ---- actions

module _ (program : Program) (sums : List ActionSums) (x : ℕ) (f : Action → ℕ) {w : Weight} (all : AllZip (OfAction program) program.actions sums) where
  pub action_there : (s : ActionSums) → slice_get sums x ≡ Some s → ((a : Action) → OfAction program a s → Weighs w (f a)) → Weighs w (of_action program x 0 f)
  action_there s e h =
      let here = zip_found (OfAction program) program.actions sums x s all e in
      weighs_same (sym (ap (λ (o : Option Action). option_map_or f o 0) here.1)) (h here.0 here.2)

  pub action_none : slice_get sums x ≡ None → Weighs w 0 → Weighs w (of_action program x 0 f)
  action_none e h = weighs_same (sym (ap (λ (o : Option Action). option_map_or f o 0) (zip_none (OfAction program) program.actions sums x all e))) h

-- ---- procedures

-- the sums at a place are those of the procedure there
pub proc_sums_at : (program : Program) (table : List ProcSums) (q : ℕ) (s : ProcSums) (proc : Proc) → AllZip (OfProc program) program.procs table → slice_get table q ≡ Some s → slice_get program.procs q ≡ Some proc → OfProc program proc s
proc_sums_at program table q s proc all e k =
    let here = zip_found (OfProc program) program.procs table q s all e in
    subst (λ (p : Proc). OfProc program p s) (some_same (sym here.1 ∙ k)) here.2
  where
    some_same : {p p' : Proc} → Some p ≡ Some p' → p ≡ p'
    some_same e = cc

-- ---- cuts

module _ (program : Program) (step : ℕ) where
  of_cuts_at : (proc : Proc) (at i : ℕ) (cuts : List Cut) (ss : List CutSums) → OfCuts program step proc at cuts ss → OfCutAt program step proc (at + i) (slice_get cuts i) (slice_get ss i)
  of_cuts_at proc at i [] [] h = tt
  of_cuts_at proc at i [] (s ∷ ss) h = absurd h
  of_cuts_at proc at i (cut ∷ cuts) [] h = absurd h
  of_cuts_at proc at zero (cut ∷ cuts) (s ∷ ss) h = let e : at ≡ at + 0 = omega arith in subst (λ (n : ℕ). OfCut program step proc n cut s) e h.0
  of_cuts_at proc at (suc i) (cut ∷ cuts) (s ∷ ss) h =
      let e : (at + 1) + i ≡ at + suc i = omega arith in
      subst (λ (n : ℕ). OfCutAt program step proc n (slice_get cuts i) (slice_get ss i)) e (of_cuts_at proc (at + 1) i cuts ss h.1)

  pub cut_there : (q c : ℕ) (proc : Proc) (cuts : List CutSums) (r : Option CutSums) → slice_get program.procs q ≡ Some proc → OfCuts program step proc 0 (proc_cuts proc) cuts → r ≡ slice_get cuts c → OfCutFound program step q c r
  cut_there q c proc cuts r e h k =
      let e0 : 0 + c ≡ c = omega arith in
      let here : OfCutAt program step proc c (slice_get (proc_cuts proc) c) (slice_get cuts c) = subst (λ (n : ℕ). OfCutAt program step proc n (slice_get (proc_cuts proc) c) (slice_get cuts c)) e0 (of_cuts_at proc 0 c (proc_cuts proc) cuts h) in
      subst (λ (o : Option Proc). OfCutIn program step o c r) (sym e) (subst (λ (o : Option CutSums). OfCutAt program step proc c (slice_get (proc_cuts proc) c) o) (sym k) here)

  pub no_proc : (q c : ℕ) → slice_get program.procs q ≡ None → OfCutFound program step q c None
  no_proc q c e = subst (λ (o : Option Proc). OfCutIn program step o c None) (sym e) tt

  module _ (c n : ℕ) (f : Proc → Cut → ℕ) {w : Weight} where
    at_cut : (proc : Proc) (found : Option Cut) (s : CutSums) → OfCutAt program step proc c found (Some s) → ((cut : Cut) → OfCut program step proc c cut s → Weighs w (f proc cut)) → Weighs w (option_map_or (f proc) found n)
    at_cut proc None s h k = absurd h
    at_cut proc (Some cut) s h k = k cut h

    at_proc : (found : Option Proc) (s : CutSums) → OfCutIn program step found c (Some s) → ((proc : Proc) (cut : Cut) → OfCut program step proc c cut s → Weighs w (f proc cut)) → Weighs w (option_map_or (λ proc. option_map_or (f proc) (slice_get (proc_cuts proc) c) n) found n)
    at_proc None s h k = absurd h
    at_proc (Some proc) s h k = at_cut proc (slice_get (proc_cuts proc) c) s h (k proc)

    no_cut : (proc : Proc) (found : Option Cut) → OfCutAt program step proc c found None → Weighs w n → Weighs w (option_map_or (f proc) found n)
    no_cut proc None h k = k
    no_cut proc (Some cut) h k = absurd h

    at_none : (found : Option Proc) → OfCutIn program step found c None → Weighs w n → Weighs w (option_map_or (λ proc. option_map_or (f proc) (slice_get (proc_cuts proc) c) n) found n)
    at_none None h k = k
    at_none (Some proc) h k = no_cut proc (slice_get (proc_cuts proc) c) h k

    pub found_cut : (q : ℕ) (s : CutSums) → OfCutFound program step q c (Some s) → ((proc : Proc) (cut : Cut) → OfCut program step proc c cut s → Weighs w (f proc cut)) → Weighs w (of_cut program q c n f)
    found_cut q s h k = at_proc (slice_get program.procs q) s h k

    pub lost_cut : (q : ℕ) → OfCutFound program step q c None → Weighs w n → Weighs w (of_cut program q c n f)
    lost_cut q h k = at_none (slice_get program.procs q) h k

-- ---- the weights of conditions from cuts

module _ (program : Program) (q c : ℕ) where
  -- by cases on what there is
  both_there : (g : Proc → Cut → List Variable) (h : Proc → Cut → ℕ) (vs : List Variable) (found : Option Proc)
      → option_map_or (λ proc. option_map_or (λ cut. bits_of_variables (g proc cut ++ vs) + h proc cut) (slice_get (proc_cuts proc) c) (bits_of_variables vs)) found (bits_of_variables vs)
      ≡ bits_of_variables (option_map_or (λ proc. option_map_or (g proc) (slice_get (proc_cuts proc) c) []) found [] ++ vs) + option_map_or (λ proc. option_map_or (h proc) (slice_get (proc_cuts proc) c) 0) found 0
  both_there g h vs None = omega arith
  both_there g h vs (Some proc) = by_cut (slice_get (proc_cuts proc) c)
    where
      by_cut : (found : Option Cut) → option_map_or (λ cut. bits_of_variables (g proc cut ++ vs) + h proc cut) found (bits_of_variables vs) ≡ bits_of_variables (option_map_or (g proc) found [] ++ vs) + option_map_or (h proc) found 0
      by_cut None = omega arith
      by_cut (Some cut) = refl

  alone_there : (g : Proc → Cut → List Variable) (h : Proc → Cut → ℕ) (found : Option Proc)
      → option_map_or (λ proc. option_map_or (λ cut. bits_of_variables (g proc cut) + h proc cut) (slice_get (proc_cuts proc) c) 0) found 0
      ≡ bits_of_variables (option_map_or (λ proc. option_map_or (g proc) (slice_get (proc_cuts proc) c) []) found []) + option_map_or (λ proc. option_map_or (h proc) (slice_get (proc_cuts proc) c) 0) found 0
  alone_there g h None = refl
  alone_there g h (Some proc) = by_cut (slice_get (proc_cuts proc) c)
    where
      by_cut : (found : Option Cut) → option_map_or (λ cut. bits_of_variables (g proc cut) + h proc cut) found 0 ≡ bits_of_variables (option_map_or (g proc) found []) + option_map_or (h proc) found 0
      by_cut None = refl
      by_cut (Some cut) = refl

  pub path_is : (step : ℕ) (part : Part) → of_cut program q c 0 (λ proc cut. bits_of_variables (path_variables program step proc cut) + path_weight program step part proc c cut) ≡ weight program (Path part step q c)
  unfolding weight variables
  path_is step part = alone_there (path_variables program step) (λ proc cut. path_weight program step part proc c cut) (slice_get program.procs q)

  pub block_is : (step : ℕ) (t : Target)
      → of_cut program q c (bits_of_variables (other_variables program t)) (λ proc cut. bits_of_variables (path_variables program step proc cut ++ other_variables program t) + block_weight program step proc c cut t) ≡ weight program (Block step q c t)
  unfolding weight variables
  block_is step t = both_there (path_variables program step) (λ proc cut. block_weight program step proc c cut t) (other_variables program t) (slice_get program.procs q)
